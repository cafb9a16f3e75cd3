-- Which mails of a mailbox have a line: all, or those whose separator begins in a range of offsets; the program's own
-- form.
use Rattle.std.specs.Prelude.{◌≡◌, ◌<◌, ◌^◌, ℕ, Bool, true, false, not, ◌&&◌, nat_lt, List, [], Option, Some, None, take}
use Rattle.mail_json.specs.Options.{Options}
use Rattle.mail_data.specs.Mailbox.{Entry, front_length}
use Rattle.mail_data.specs.MailboxFormats.{entries_in, mail_in}
use Rattle.mail_data.specs.MailboxParts.{Placed, in_range, placed_from}
use Rattle.mail_data.specs.declared.mailbox.formats.Format.{Format}
use Rattle.mail_json.specs.JsonLines.{AreAfterFront, AreLines, IsLine, IsWholeLine, Lines, origin_at}
use Rattle.mail_walk.specs.Kind.{format_of, is_mailbox}
use Rattle.mail_walk.specs.Offsets.{saturating_add}
use Rattle.mail_json.specs.declared.selection.Selection.{Selection}
use Rattle.mail_json.specs.declared.selection.Selection.TheVariants.{Numbered, Within}
use Rattle.mail_walk.specs.declared.kind.InputKind.{InputKind}

-- a mail whose separator begins at this offset has a line
abbrev pub is_wanted : Selection → ℕ → Bool
is_wanted (Numbered number) at = true
is_wanted (Within from to) at = not (nat_lt at from) && nat_lt at to

-- no mail whose separator begins at this offset or later has one
abbrev pub is_past : Selection → ℕ → Bool
is_past (Numbered number) at = false
is_past (Within from to) at = not (nat_lt at to)

-- the mails of a range have lines
abbrev pub is_range : Selection → Bool
is_range (Numbered number) = false
is_range (Within from to) = true

-- the number of the next mail; in a range none is known
abbrev pub number_of : Selection → Option ℕ
number_of (Numbered number) = Some number
number_of (Within from to) = None

-- which mails after the next one have a line
abbrev pub next_selection : Selection → Selection
next_selection (Numbered number) = Numbered (saturating_add number 1)
next_selection (Within from to) = Within from to

-- the offsets of a range are numbers of 64 bits
abbrev pub Fits : Selection → Type 0
Fits (Numbered number) = Unit {0}
Fits (Within from to) = (from < 2 ^ 64) × (to < 2 ^ 64)

-- these lines, or none if they are not wanted
abbrev pub OnlyIf : Bool → Lines → Lines
OnlyIf true Are = Are
OnlyIf false Are = λ is_clean text. (is_clean ≡ true) × (text ≡ [])

-- Under these options.
module _ (options : Options) where
  -- the line of a mail of a mailbox in a format whose separator begins at this offset, if it has one
  abbrev pub IsEntryLine : Format → Option (List ℕ) → Selection → ℕ → Entry → Lines
  IsEntryLine format file selection at entry =
      OnlyIf (is_wanted selection at) (IsLine options (origin_at file (number_of selection) at entry) (mail_in format entry.mail))

  -- the lines of those that have one of these mails, in order
  abbrev pub AreChosen : Format → Option (List ℕ) → Selection → List Placed → Lines
  AreChosen format file (Numbered number) mails = AreLines options format file (Some number) mails
  AreChosen format file (Within from to) mails = AreLines options format file None (in_range from to mails)

  -- the lines of a mailbox: the error for the text before the first mail, and then those of the mails that have one
  abbrev pub AreMailboxChosen : Format → Option (List ℕ) → Selection → List ℕ → Lines
  AreMailboxChosen format file selection bytes =
      AreAfterFront file (take (front_length bytes) bytes) (AreChosen format file selection (placed_from (front_length bytes) (entries_in format bytes)))

  -- the lines of an input that is a mailbox in a format, or one mail
  abbrev pub AreChosenOf : Format → Bool → Option (List ℕ) → Selection → List ℕ → Lines
  AreChosenOf format true file selection bytes = AreMailboxChosen format file selection bytes
  AreChosenOf format false file selection bytes = IsWholeLine options file bytes

  -- the lines of an input of this kind
  abbrev pub AreInputChosen : InputKind → Option (List ℕ) → Selection → List ℕ → Lines
  AreInputChosen kind file selection bytes = AreChosenOf (format_of kind) (is_mailbox kind bytes) file selection bytes
