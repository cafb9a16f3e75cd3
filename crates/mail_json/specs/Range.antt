-- The lines of a part of an input: of the mails of a mailbox whose separator begins in it; the program's own form.
use Rattle.std.specs.Prelude.{◌≡◌, ℕ, zero, suc, ◌+◌, ◌-◌, Bool, true, false, List, ◌++◌, take, Option, None, Result, Ok, Err}
use Rattle.std.specs.Io.KnownBytes.{Consumes}
use Rattle.mail_json.specs.Options.{Options}
use Rattle.mail_program.specs.Streams.{IsReadFault}
use Rattle.mail_program.specs.declared.fault.Fault.{Fault}
use Rattle.mail_data.specs.Mailbox.{front_length}
use Rattle.mail_data.specs.MailboxFormats.{entries_in}
use Rattle.mail_data.specs.MailboxParts.{Placed, in_range, part_start, placed_from}
use Rattle.mail_data.specs.declared.mailbox.formats.Format.{Format}
use Rattle.mail_data.specs.declared.mailbox.formats.Format.TheVariants.{Plain, Quoted, Counted}
use Rattle.mail_json.specs.Selection.{AreInputChosen, OnlyIf}
use Rattle.mail_json.specs.JsonLines.{AreAfterFront, AreLines, IsWholeLine, Lines}
use Rattle.mail_walk.specs.Kind.{format_of, is_mailbox}
use Rattle.mail_json.specs.Stream.{HasLeft, WritesUpTo}
use Rattle.mail_json.specs.declared.selection.Selection.TheVariants.{Within}
use Rattle.mail_walk.specs.declared.kind.InputKind.{InputKind}
use Rattle.mail_json.specs.declared.written.Written.{Written}

-- the offset at which reading starts for a range that begins at this offset
abbrev pub reading_start : ℕ → ℕ
reading_start from = from - 3

-- a mailbox in this format can be read in parts: no mail gives its length
abbrev pub has_parts : Format → Bool
has_parts Plain = true
has_parts Quoted = true
has_parts Counted = false

-- the mails of a mailbox in a format with their offsets
abbrev pub placed_in : Format → List ℕ → List Placed
placed_in format bytes = placed_from (front_length bytes) (entries_in format bytes)

-- Under these options.
module _ (options : Options) where
  -- the lines of the mails of a mailbox that begin in a range of offsets
  abbrev pub AreRangeLines : Format → Option (List ℕ) → (from to : ℕ) → List ℕ → Lines
  AreRangeLines format file from to bytes = AreLines options format file None (in_range from to (placed_in format bytes))

  -- the same, if the bytes are those of the mailbox from an offset onwards
  abbrev pub AreRangeLinesAt : Format → Option (List ℕ) → (from to start : ℕ) → List ℕ → Lines
  AreRangeLinesAt format file from to start bytes =
      AreLines options format file None (in_range from to (placed_from (start + front_length bytes) (entries_in format bytes)))

  -- the lines of the first part of an input, which ends at this offset
  abbrev pub AreFirstLines : InputKind → Option (List ℕ) → ℕ → List ℕ → Lines
  AreFirstLines kind file to bytes = AreInputChosen options kind file (Within 0 to) bytes

  -- the lines of one of `count` parts, counted from 0: an input that is one mail is in the first
  abbrev pub ArePartLines : InputKind → Option (List ℕ) → List ℕ → (count number : ℕ) → Lines
  ArePartLines kind file bytes count zero = AreFirstLines kind file (part_start bytes count 1) bytes
  ArePartLines kind file bytes count (suc number) =
      OnlyIf (is_mailbox kind bytes) (AreRangeLines (format_of kind) file (part_start bytes count (suc number)) (part_start bytes count (suc (suc number))) bytes)

  -- the lines of an input without the numbers of mails, if it is a mailbox in a format, or one mail
  abbrev pub AreUnnumberedOf : Format → Bool → Option (List ℕ) → List ℕ → Lines
  AreUnnumberedOf format true file bytes = AreAfterFront file (take (front_length bytes) bytes) (AreLines options format file None (placed_in format bytes))
  AreUnnumberedOf format false file bytes = IsWholeLine options file bytes

  -- the lines of an input of this kind without the numbers of mails
  abbrev pub AreUnnumberedLines : InputKind → Option (List ℕ) → List ℕ → Lines
  AreUnnumberedLines kind file bytes = AreUnnumberedOf (format_of kind) (is_mailbox kind bytes) file bytes

-- the lines of bytes that were read and of what the reader has left were written, and nothing else, and the call
-- returned whether an error is among them; otherwise memory ran out, or a read or a write failed
abbrev pub WritesPart : (left_before left old new : Option (List ℕ)) → Result Written Fault → (List ℕ → Lines) → Type 0
WritesPart left_before left old new r Are = WritesUpTo HasLeft left_before left old new r Are

-- bytes were read, and the call returned whether they and what the reader has left are a mailbox
abbrev pub ShowsMailbox : InputKind → (left_before left : Option (List ℕ)) → Result Bool Fault → Type 0
ShowsMailbox kind left_before left (Ok is) =
    (read : List ℕ) × (later : List ℕ) × Consumes left_before left read × HasLeft left later × (is ≡ is_mailbox kind (read ++ later))
ShowsMailbox kind left_before left (Err fault) = IsReadFault fault
