-- Lemmas on the offsets of the first mail of a mailbox.
use Rattle.std.proofs.Common.{◌≡◌, ◌+◌, ℕ, List, ◌∷◌, length, take, refl, sym, ap, subst, ◌∙◌}
use Rattle.std.proofs.lemmas.List.{length-take-le}
use Rattle.mail_data.specs.Mailbox.{Entry, front_length}
use Rattle.mail_data.specs.MailboxFormats.{entries_in}
use Rattle.mail_data.specs.declared.mailbox.formats.Format.{Format}
use Rattle.mail_data.proofs.lemmas.MailboxParts.{front_length-≤}
use Rattle.mail_records.specs.Codes.{done}
use Rattle.mail_records.specs.Numbers.{ReturnsOffsets, first_offsets}

-- its offsets, by the pieces of its entry
abbrev offsets : ℕ → List ℕ → List ℕ → List ℕ → ℕ × ℕ × ℕ
offsets front separator mail ending =
    (front + length separator, front + length separator + length mail, front + length separator + length mail + length ending)

-- they were returned
pub offsets_returned : (format : Format) (bytes front : List ℕ) (left rest : List Entry) (entry : Entry) (missing : ℕ) (old : ℕ × ℕ × ℕ) (s m e : List ℕ)
    → front ≡ take (front_length bytes) bytes → left ≡ entries_in format bytes → left ≡ entry ∷ rest → s ≡ entry.separator → m ≡ entry.mail
    → e ≡ entry.ending → ReturnsOffsets (first_offsets (entries_in format bytes) (front_length bytes)) missing old (offsets (length front) s m e) done
offsets_returned format bytes front left rest entry missing old s m e is_front is_left first es em ee =
    let n = front_length bytes in
    let size : length front ≡ n = ap length is_front ∙ length-take-le n bytes (front_length-≤ bytes) in
    let Returned : List Entry → ℕ → List ℕ → List ℕ → List ℕ → Type 0 = λ entries front s m e. ReturnsOffsets (first_offsets entries n) missing old (offsets front s m e) done in
    let here : Returned (entry ∷ rest) n entry.separator entry.mail entry.ending = (refl, refl) in
    let one = subst (λ (x : ℕ). Returned (entry ∷ rest) x entry.separator entry.mail entry.ending) (sym size) here in
    let two = subst (λ (x : List ℕ). Returned (entry ∷ rest) (length front) x entry.mail entry.ending) (sym es) one in
    let three = subst (λ (x : List ℕ). Returned (entry ∷ rest) (length front) s x entry.ending) (sym em) two in
    let four = subst (λ (x : List ℕ). Returned (entry ∷ rest) (length front) s m x) (sym ee) three in
    subst (λ (x : List Entry). Returned x (length front) s m e) (sym first ∙ is_left) four
