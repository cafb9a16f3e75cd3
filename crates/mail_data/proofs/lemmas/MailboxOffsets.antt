-- The bytes of a mailbox have each mail at its offset.
use Rattle.std.proofs.Common.{◌≡◌, ℕ, zero, suc, ◌+◌, Bool, List, [], ◌∷◌, ◌++◌, length, take, drop, refl, sym, ap, subst, ◌∙◌, arith, append_assoc, length-append}
use Rattle.std.specs.Prelude.{filter}
use Rattle.std.proofs.lemmas.Bool.{cond_both}
use Rattle.std.proofs.lemmas.List.{drop_at, length-take-le, take-append-drop, take_at}
use Rattle.std.proofs.Math.Seq.{drop-append-add}
use Rattle.mail_data.specs.Mailbox.{Entry, entries_by, entries_within, entry_by, entry_bytes, front_length, next_by}
use Rattle.mail_data.specs.MailboxFormats.{entries_in, length_in}
use Rattle.mail_data.specs.MailboxOffsets.{AreThere, IsThere}
use Rattle.mail_data.specs.MailboxParts.{Placed, begins_in, in_range, placed_from}
use Rattle.mail_data.specs.Separator.{is_separator}
use Rattle.mail_data.specs.declared.mailbox.formats.Format.{Format}
use Rattle.mail_data.proofs.lemmas.Mailbox.{entry-spans}
use Rattle.mail_data.proofs.lemmas.MailboxParts.{front_length-≤}

-- a mail after some bytes, and before some more
there-is : (before : List ℕ) (e : Entry) (next : List ℕ) → IsThere (before ++ (entry_bytes e ++ next)) (record { start = length before; entry = e })
there-is before e next =
    let tail : List ℕ = e.mail ++ e.ending in
    let zero_more : length before + 0 ≡ length before = omega arith in
    record {
      within = let all = length-append before (entry_bytes e ++ next) in let some = length-append (entry_bytes e) next in omega (arith, all, some);
      separator =
          ap (take (length e.separator)) (ap (λ n. drop n (before ++ (entry_bytes e ++ next))) (sym zero_more) ∙ drop-append-add before (entry_bytes e ++ next) 0
          ∙ append_assoc e.separator tail next)
          ∙ take_at e.separator (tail ++ next) (length e.separator) refl;
      mail =
          ap (take (length e.mail)) (drop-append-add before (entry_bytes e ++ next) (length e.separator)
          ∙ ap (drop (length e.separator)) (append_assoc e.separator tail next)
          ∙ drop_at e.separator (tail ++ next) (length e.separator) refl
          ∙ append_assoc e.mail e.ending next)
          ∙ take_at e.mail (e.ending ++ next) (length e.mail) refl;
    }

there-from : (length_of : List ℕ → ℕ) (n : ℕ) (before rest : List ℕ) → AreThere (before ++ rest) (placed_from (length before) (entries_within length_of n rest))
there-from length_of zero before rest = tt
there-from length_of (suc n) before rest =
    let e : Entry = entry_by length_of rest in
    let next : List ℕ = next_by length_of rest in
    let spans : entry_bytes e ++ next ≡ rest = entry-spans length_of rest in
    cond_both (is_separator rest) (e ∷ entries_within length_of n next) [] (λ es. AreThere (before ++ rest) (placed_from (length before) es))
    (λ h. (
      subst (λ r. IsThere (before ++ r) (record { start = length before; entry = e })) spans (there-is before e next),
      subst (λ k. AreThere (before ++ rest) (placed_from k (entries_within length_of n next))) (length-append before (entry_bytes e))
          (subst (λ b. AreThere b (placed_from (length (before ++ entry_bytes e)) (entries_within length_of n next)))
          (append_assoc before (entry_bytes e) next ∙ ap (λ r. before ++ r) spans)
          (there-from length_of n (before ++ entry_bytes e) next)),
    )) (λ h. tt)

pub all-there : (format : Format) (bytes : List ℕ) → AreThere bytes (placed_from (front_length bytes) (entries_in format bytes))
unfolding entries_by
all-there format bytes =
    let n : ℕ = front_length bytes in
    subst (λ k. AreThere bytes (placed_from k (entries_in format bytes))) (length-take-le n bytes (front_length-≤ bytes))
    (subst (λ b. AreThere b (placed_from (length (take n bytes)) (entries_in format bytes))) (take-append-drop n bytes)
    (there-from (length_in format) (length (drop n bytes)) (take n bytes) (drop n bytes)))

filter-there : (bytes : List ℕ) (test : Placed → Bool) (ms : List Placed) → AreThere bytes ms → AreThere bytes (filter test ms)
filter-there bytes test [] are = tt
filter-there bytes test (m ∷ ms) are =
    let later = filter-there bytes test ms are.1 in
    cond_both (test m) (m ∷ filter test ms) (filter test ms) (AreThere bytes) (λ e. (are.0, later)) (λ e. later)

pub range-there : (format : Format) (bytes : List ℕ) (from to : ℕ) → AreThere bytes (in_range from to (placed_from (front_length bytes) (entries_in format bytes)))
range-there format bytes from to = filter-there bytes (begins_in from to) (placed_from (front_length bytes) (entries_in format bytes)) (all-there format bytes)
