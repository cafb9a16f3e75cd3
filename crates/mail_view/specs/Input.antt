-- What is shown of an input that is a mail or a mailbox; the program's own form.
use Rattle.std.specs.Prelude.{◌≡◌, ℕ, ◌+◌, ◌^◌, ◌-◌, min, Bool, true, false, List, [], ◌∷◌, ◌++◌, take, Option, Result, Ok, Err, codes, decimal}
use Rattle.std.specs.Char.{is_ascii_whitespace}
use Rattle.std.specs.Io.KnownBytes.{Appends}
use Rattle.std.specs.List.{list_all}
use Rattle.mail_codec.specs.Charset.{Charsets}
use Rattle.mailparse.specs.Mail.{Tree}
use Rattle.mailparse.specs.Refusal.{Reads}
use Rattle.mail_data.specs.Mailbox.{Entry, front_length}
use Rattle.mail_data.specs.MailboxFormats.{entries_in, mail_in}
use Rattle.mail_read.specs.Reading.{mail_reading}
use Rattle.mail_data.specs.declared.mailbox.formats.Format.{Format}
use Rattle.mail_html.specs.declared.references.References.{References}
use Rattle.mail_program.specs.Fault.{IsEnd}
use Rattle.mail_program.specs.Outcome.{worse}
use Rattle.mail_program.specs.Refusal.{refusal_text}
use Rattle.mail_program.specs.declared.fault.Fault.{Fault}
use Rattle.mail_program.specs.declared.outcome.Outcome.{Outcome}
use Rattle.mail_program.specs.declared.outcome.Outcome.TheVariants as outcomes
use Rattle.mail_view.specs.Line.{Line, empty, line}
use Rattle.mail_view.specs.View.{view_lines}
use Rattle.mail_view.specs.declared.line.Prefix.TheVariants.{Title, Refused}

-- ---- what a call wrote

-- the text was written and nothing else, and the call returned this outcome; otherwise memory ran out or a write failed
abbrev pub WritesWith : Option (List ℕ) → Option (List ℕ) → Result Outcome Fault → List ℕ → Outcome → Type 0
WritesWith old new (Ok done) text outcome = (done ≡ outcome) × Appends old new text
WritesWith old new (Err fault) text outcome = IsEnd fault

-- ---- mails

-- the outcome of a reading
abbrev pub reading_outcome : Reads Tree → Outcome
reading_outcome (Ok mail) = outcomes.Clean
reading_outcome (Err refusal) = outcomes.Refused

-- the line before the things of this name
abbrev pub title : List ℕ → Line
title name = line Title (name ++ codes " --")

-- the number of the next mail; 64 bits are enough for those of any file
abbrev pub next_number : ℕ → ℕ
next_number number = min (number + 1) (2 ^ 64 - 1)

-- the lines for the text before the first mail of a mailbox: none, if it is whitespace
abbrev pub front_lines : Bool → List Line
front_lines true = []
front_lines false = line Refused (codes "The mailbox does not begin with a separator") ∷ empty ∷ []

abbrev pub front_outcome : Bool → Outcome
front_outcome true = outcomes.Clean
front_outcome false = outcomes.Refused

-- the text before the first mail of a mailbox is whitespace
abbrev pub is_front_white : List ℕ → Bool
is_front_white bytes = list_all is_ascii_whitespace (take (front_length bytes) bytes)

-- the outcome of the bytes of a mail, under the charsets that are known, and this limit on its messages, parts and headers
abbrev pub single_outcome : Charsets → ℕ → List ℕ → Outcome
single_outcome known limit bytes = reading_outcome (mail_reading known limit bytes)

-- Under the references of HTML, the charsets that are known, and this limit.
module _ (references : References) (known : Charsets) (limit : ℕ) where
  -- the lines of a mail that was read, or why it is refused
  abbrev pub reading_lines : Reads Tree → List Line
  reading_lines (Ok mail) = view_lines references known mail
  reading_lines (Err refusal) = line Refused (refusal_text refusal) ∷ []

  -- the lines of the bytes of a mail
  abbrev pub single_lines : List ℕ → List Line
  single_lines bytes = reading_lines (mail_reading known limit bytes)

-- Of a mailbox in this format, under the charsets that are known, and this limit.
module _ (known : Charsets) (limit : ℕ) (format : Format) where
  -- the worst outcome of mails
  abbrev pub mails_outcome : List Entry → Outcome
  mails_outcome [] = outcomes.Clean
  mails_outcome (entry ∷ entries) = worse (single_outcome known limit (mail_in format entry.mail)) (mails_outcome entries)

  -- the outcome of a mailbox
  abbrev pub mailbox_outcome : List ℕ → Outcome
  mailbox_outcome bytes = worse (front_outcome (is_front_white bytes)) (mails_outcome (entries_in format bytes))

-- The same, and under the references of HTML.
module _ (references : References) (known : Charsets) (limit : ℕ) (format : Format) where
  -- the lines of a mail with this number, between its title and an empty line
  abbrev pub numbered_lines : ℕ → Entry → List Line
  numbered_lines number entry =
      title (codes "mail " ++ decimal number) ∷ (single_lines references known limit (mail_in format entry.mail) ++ empty ∷ [])

  -- the lines of mails, the first of which has this number
  abbrev pub mails_lines : ℕ → List Entry → List Line
  mails_lines number [] = []
  mails_lines number (entry ∷ entries) = numbered_lines number entry ++ mails_lines (next_number number) entries

  -- the lines of a mailbox
  abbrev pub mailbox_lines : List ℕ → List Line
  mailbox_lines bytes = front_lines (is_front_white bytes) ++ mails_lines 1 (entries_in format bytes)
