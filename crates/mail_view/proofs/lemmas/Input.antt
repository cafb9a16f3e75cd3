-- What is written of the mails of a mailbox.
use Rattle.std.proofs.Common.{◌≡◌, ℕ, Bool, false, List, [], ◌∷◌, ◌++◌, take, Option, Ok, refl, sym, ap, subst, ◌∙◌, append_assoc}
use Rattle.std.proofs.KnownBytes.{Appends-trans}
use Rattle.std.proofs.lemmas.List.{append-nil}
use Rattle.std.specs.Char.{is_ascii_whitespace}
use Rattle.std.specs.Io.KnownBytes.{Appends}
use Rattle.std.specs.List.{list_all}
use Rattle.mail_codec.specs.Charset.{Charsets}
use Rattle.mailparse.specs.Mail.{Tree}
use Rattle.mailparse.specs.Refusal.{Reads}
use Rattle.mail_data.specs.Mailbox.{Entry, front_length}
use Rattle.mail_data.specs.MailboxFormats.{entries_in, mail_in}
use Rattle.mail_read.specs.Reading.{mail_reading}
use Rattle.mail_data.specs.declared.mailbox.formats.Format.{Format}
use Rattle.mail_html.specs.declared.references.References.{References}
use Rattle.mail_program.specs.Outcome.{worse}
use Rattle.mail_program.specs.declared.outcome.Outcome.{Outcome}
use Rattle.mail_program.specs.declared.outcome.Outcome.TheVariants.{Clean, Refused, Failed}
use Rattle.mail_view.proofs.lemmas.Lines.{lines_append}
use Rattle.mail_view.specs.Input.{front_lines, front_outcome, is_front_white, mailbox_lines, mailbox_outcome, mails_lines, mails_outcome, next_number, reading_lines, reading_outcome, single_lines, single_outcome, title}
use Rattle.mail_view.specs.Line.{empty, line, line_text, lines_text}
use Rattle.mail_view.specs.View.{view_text}
use Rattle.mail_view.specs.declared.line.Prefix.TheVariants as prefixes
use Rattle.std.specs.Prelude.{codes, decimal}

pub worse_assoc : (a b c : Outcome) → worse (worse a b) c ≡ worse a (worse b c)
worse_assoc Clean b c = refl
worse_assoc Refused Clean c = refl
worse_assoc Refused Refused Clean = refl
worse_assoc Refused Refused Refused = refl
worse_assoc Refused Refused Failed = refl
worse_assoc Refused Failed c = refl
worse_assoc Failed b c = refl

pub worse_clean : (a : Outcome) → worse a Clean ≡ a
worse_clean Clean = refl
worse_clean Refused = refl
worse_clean Failed = refl

-- the line for the text before the first mail, and an empty one
pub front_written : (old mid new : Option (List ℕ)) (is_white : Bool) → is_white ≡ false
    → Appends old mid (line_text (line prefixes.Refused (codes "The mailbox does not begin with a separator"))) → Appends mid new (line_text empty)
    → (Refused ≡ front_outcome is_white) × Appends old new (lines_text (front_lines is_white))
front_written old mid new is_white e p q =
    let reason = line_text (line prefixes.Refused (codes "The mailbox does not begin with a separator")) in
    subst (λ b. (Refused ≡ front_outcome b) × Appends old new (lines_text (front_lines b))) (sym e)
    (refl, subst (λ t. Appends old new (reason ++ t)) (sym (append-nil (line_text empty))) (Appends-trans old mid new reason (line_text empty) p q))

-- a mail that was read
pub read_written : (references : References) (known : Charsets) (limit : ℕ) (old new : Option (List ℕ)) (bytes : List ℕ) (mail : Tree) → mail_reading known limit bytes ≡ Ok mail
    → Appends old new (view_text references known mail) → (Clean ≡ single_outcome known limit bytes) × Appends old new (lines_text (single_lines references known limit bytes))
unfolding view_text
read_written references known limit old new bytes mail e p =
    subst (λ (r : Reads Tree). (Clean ≡ reading_outcome r) × Appends old new (lines_text (reading_lines references known limit r))) (sym e) (refl, p)

-- the front of a mailbox, and then its mails
pub mailbox_written : (references : References) (known : Charsets) (limit : ℕ) (format : Format) (old mid new : Option (List ℕ)) (bytes front : List ℕ) (left : List Entry) (one two both : Outcome)
    → both ≡ worse one two → front ≡ take (front_length bytes) bytes → left ≡ entries_in format bytes
    → (one ≡ front_outcome (list_all is_ascii_whitespace front)) × Appends old mid (lines_text (front_lines (list_all is_ascii_whitespace front)))
    → (two ≡ mails_outcome known limit format left) × Appends mid new (lines_text (mails_lines references known limit format 1 left))
    → (both ≡ mailbox_outcome known limit format bytes) × Appends old new (lines_text (mailbox_lines references known limit format bytes))
mailbox_written references known limit format old mid new bytes front left one two both e front_is left_is p q =
    let white = λ (f : List ℕ). list_all is_ascii_whitespace f in
    let outcome =
    e ∙ ap (λ o. worse o two) p.0 ∙ ap (λ o. worse (front_outcome (white front)) o) q.0
    ∙ ap (λ (f : List ℕ). worse (front_outcome (white f)) (mails_outcome known limit format left)) front_is
    ∙ ap (λ (es : List Entry). worse (front_outcome (is_front_white bytes)) (mails_outcome known limit format es)) left_is in
    let text =
    sym (lines_append (front_lines (white front)) (mails_lines references known limit format 1 left))
    ∙ ap (λ (f : List ℕ). lines_text (front_lines (white f) ++ mails_lines references known limit format 1 left)) front_is
    ∙ ap (λ (es : List Entry). lines_text (front_lines (is_front_white bytes) ++ mails_lines references known limit format 1 es)) left_is in
    (outcome, subst (λ t. Appends old new t) text (Appends-trans old mid new _ _ p.1 q.1))

-- Under the charsets that are known, of a mailbox in this format.
module _ (references : References) (known : Charsets) (limit : ℕ) (format : Format) where
  -- the text of the first mail, and then of the others
  pub mails_first : (number : ℕ) (entry : Entry) (rest : List Entry)
      → lines_text (mails_lines references known limit format number (entry ∷ rest))
      ≡ (line_text (title (codes "mail " ++ decimal number)) ++ (lines_text (single_lines references known limit (mail_in format entry.mail)) ++ line_text empty))
      ++ lines_text (mails_lines references known limit format (next_number number) rest)
  mails_first number entry rest =
      let mail = single_lines references known limit (mail_in format entry.mail) in
      let head = line_text (title (codes "mail " ++ decimal number)) in
      let inner : lines_text (mail ++ empty ∷ []) ≡ lines_text mail ++ line_text empty =
      lines_append mail (empty ∷ []) ∙ ap (λ t. lines_text mail ++ t) (append-nil (line_text empty)) in
      lines_append (title (codes "mail " ++ decimal number) ∷ (mail ++ empty ∷ [])) (mails_lines references known limit format (next_number number) rest)
      ∙ ap (λ t. (head ++ t) ++ lines_text (mails_lines references known limit format (next_number number) rest)) inner

  -- what was written with one more mail, and then the others
  pub mails_next : (done next : List ℕ) (number after : ℕ) (entry : Entry) (left rest : List Entry) (all : List ℕ) → after ≡ next_number number → left ≡ entry ∷ rest
      → next ≡ done ++ (line_text (title (codes "mail " ++ decimal number)) ++ (lines_text (single_lines references known limit (mail_in format entry.mail)) ++ line_text empty))
      → done ++ lines_text (mails_lines references known limit format number left) ≡ all → next ++ lines_text (mails_lines references known limit format after rest) ≡ all
  mails_next done next number after entry left rest all is e made here =
      let others = lines_text (mails_lines references known limit format (next_number number) rest) in
      ap (λ n. next ++ lines_text (mails_lines references known limit format n rest)) is
      ∙ ap (λ t. t ++ others) made
      ∙ append_assoc done _ others
      ∙ ap (λ t. done ++ t) (sym (mails_first number entry rest))
      ∙ ap (λ es. done ++ lines_text (mails_lines references known limit format number es)) (sym e)
      ∙ here

  -- the outcome with one more mail
  pub outcome_next : (before one after : Outcome) (entry : Entry) (left rest : List Entry) (all : Outcome) → left ≡ entry ∷ rest
      → one ≡ single_outcome known limit (mail_in format entry.mail) → after ≡ worse before one
      → worse before (mails_outcome known limit format left) ≡ all → worse after (mails_outcome known limit format rest) ≡ all
  outcome_next before one after entry left rest all e is made here =
      ap (λ o. worse o (mails_outcome known limit format rest)) made
      ∙ worse_assoc before one (mails_outcome known limit format rest)
      ∙ ap (λ o. worse before (worse o (mails_outcome known limit format rest))) is
      ∙ ap (λ es. worse before (mails_outcome known limit format es)) (sym e)
      ∙ here

  pub mails_end : (done : List ℕ) (number : ℕ) (left : List Entry) (all : List ℕ) → left ≡ [] → done ++ lines_text (mails_lines references known limit format number left) ≡ all
      → done ≡ all
  mails_end done number left all e here =
      sym (append-nil done) ∙ ap (λ es. done ++ lines_text (mails_lines references known limit format number es)) (sym e) ∙ here

  pub outcome_end : (before : Outcome) (left : List Entry) (all : Outcome) → left ≡ [] → worse before (mails_outcome known limit format left) ≡ all → before ≡ all
  outcome_end before left all e here = sym (worse_clean before) ∙ ap (λ es. worse before (mails_outcome known limit format es)) (sym e) ∙ here
