-- Lemmas on how much of an input is read before its mails are.
use Rattle.std.proofs.Common.{◌≡◌, ℕ, Bool, true, false, List, ◌++◌, Option, length, drop, refl, sym, ap, ◌∙◌}
use Rattle.std.specs.Io.KnownBytes.{IsAtEnd}
use Rattle.std.proofs.lemmas.Bool.{and_from, false≢true, ltb-true}
use Rattle.mail_data.specs.LineEnds.{line_length}
use Rattle.mail_data.specs.Mailbox.{has_front, has_line, is_before_text}
use Rattle.mail_data.specs.Separator.{is_separator}
use Rattle.mail_data.proofs.lemmas.Mailbox.{front_length-none}
use Rattle.mail_data.proofs.lemmas.MailboxFound.{separator-stays}
use Rattle.mail_walk.specs.Kind.{is_mailbox}
use Rattle.mail_walk.specs.Wanted.{first_wanted, is_there}
use Rattle.mail_walk.specs.declared.kind.InputKind.{InputKind}
use Rattle.mail_walk.specs.declared.kind.InputKind.TheVariants.{Either, Mail, Mailbox}

-- once the bytes contain what is wanted first, no further bytes change that
pub form_stays : (kind : InputKind) (read more : List ℕ) → is_there (first_wanted kind) read ≡ true → is_mailbox kind (read ++ more) ≡ is_mailbox kind read
form_stays Either read more h = separator-stays read more (ltb-true (line_length read) (length read) h)
form_stays Mail read more h = refl
form_stays (Mailbox format) read more h = refl

-- a mailbox that begins with a separator and whose first line was read has its front
front_there : (read : List ℕ) → is_separator read ≡ true → has_line read ≡ true → has_front read ≡ true
unfolding has_front is_before_text
front_there read first line =
    ap (λ (n : ℕ). is_before_text (drop n read)) (sym (front_length-none read (sym first))) ∙ and_from (is_separator read) (has_line read) first line

pub form_front : (kind : InputKind) (read : List ℕ) → is_there (first_wanted kind) read ≡ true → is_mailbox kind read ≡ true → has_front read ≡ true
form_front Either read h first = front_there read first h
form_front Mail read h first = absurd (false≢true first)
form_front (Mailbox format) read h first = h

-- the reader is at its end if all bytes were wanted
pub all_read : (left : Option (List ℕ)) (has_ended : Bool) → (has_ended ≡ true → IsAtEnd left) → (has_ended ≡ false → false ≡ true) → IsAtEnd left
all_read left true ended more = ended refl
all_read left false ended more = absurd (false≢true (more refl))
