-- The lines that are written of an input; the program's own form.
use Rattle.std.specs.Prelude.{◌≡◌, ℕ, Bool, true, false, ◌&&◌, List, [], ◌∷◌, ◌++◌, length, take, Option, Some, None, option_map, Result, Ok, Err, codes, if◌then◌else◌}
use Rattle.std.specs.Char.{is_ascii_whitespace}
use Rattle.std.specs.Io.KnownBytes.{Appends, Consumes, IsAtEnd}
use Rattle.std.specs.List.{list_all}
use Rattle.json.specs.Json.{Json}
use Rattle.mail_json.specs.Options.{Options}
use Rattle.mailparse.specs.Mail.{Tree}
use Rattle.mailparse.specs.Refusal.{Reads}
use Rattle.mail_program.specs.declared.fault.Fault.{Fault}
use Rattle.mail_data.specs.Mailbox.{Entry, front_length}
use Rattle.mail_data.specs.MailboxFormats.{entries_in, mail_in}
use Rattle.mail_data.specs.MailboxParts.{Placed, placed_from}
use Rattle.mail_read.specs.Reading as plain
use Rattle.mail_data.specs.declared.mailbox.formats.Format.{Format}
use Rattle.mail_program.specs.Refusal.{refusal_text}
use Rattle.mail_parts.specs.DecodedSize.{bounded_reading}
use Rattle.mail_json.specs.Origin.{Origin}
use Rattle.mail_walk.specs.Offsets.{saturating_add}
use Rattle.mail_json_text.specs.Printed.{line_of}
use Rattle.mail_json.specs.Values.{IsMailValue, error_value}
use Rattle.mail_program.specs.Fault.{IsEnd, IsFault}
use Rattle.mail_json.specs.Written.{is_clean}
use Rattle.mail_walk.specs.Kind.{format_of, is_mailbox}
use Rattle.mail_walk.specs.declared.kind.InputKind.{InputKind}
use Rattle.mail_json.specs.declared.written.Written.{Written}

-- the text that is written of mails, and whether no error is among it
abbrev pub Lines : Type 1
Lines = Bool → List ℕ → Type 0

-- the text before the first mail of a mailbox: an error, unless it is whitespace
abbrev pub IsFront : Option (List ℕ) → List ℕ → Lines
IsFront file front is_all_whitespace text =
    let origin : Origin = record { file = file; number = None; start = 0; end = length front } in
    (is_all_whitespace ≡ list_all is_ascii_whitespace front)
    × (text ≡ (if is_all_whitespace then [] else line_of (error_value origin (codes "The mailbox does not begin with a separator"))))

-- the error for the text before the first mail of a mailbox, and then these lines
abbrev pub AreAfterFront : Option (List ℕ) → List ℕ → Lines → Lines
AreAfterFront file front Are is_clean text =
    (is_all_whitespace : Bool) × (are_read : Bool) × (error : List ℕ) × (lines : List ℕ) × IsFront file front is_all_whitespace error
    × Are are_read lines × (is_clean ≡ (is_all_whitespace && are_read)) × (text ≡ error ++ lines)

-- the origin of a mail of a mailbox whose separator begins at this offset
abbrev pub origin_at : Option (List ℕ) → Option ℕ → ℕ → Entry → Origin
origin_at file number at entry =
    let start = saturating_add at (length entry.separator) in
    record { file = file; number = number; start = start; end = saturating_add start (length entry.mail) }

-- the offset of the separator of the next mail
abbrev pub after_entry : ℕ → Entry → ℕ
after_entry at entry =
    saturating_add (saturating_add (saturating_add at (length entry.separator)) (length entry.mail)) (length entry.ending)

-- the number of the next mail, if mails are numbered
abbrev pub next_number : Option ℕ → Option ℕ
next_number number = option_map (λ n. saturating_add n 1) number

-- the origin of a file that is one mail
abbrev pub whole_origin : Option (List ℕ) → List ℕ → Origin
whole_origin file bytes = record { file = file; number = None; start = 0; end = length bytes }

-- Under these options.
module _ (options : Options) where
  -- the line of a mail with this origin, or of its refusal
  abbrev pub IsLineOf : Origin → Reads Tree → Lines
  IsLineOf origin (Ok mail) is_clean text = (is_clean ≡ true) × (value : Json) × IsMailValue options origin mail value × (text ≡ line_of value)
  IsLineOf origin (Err refusal) is_clean text = (is_clean ≡ false) × (text ≡ line_of (error_value origin (refusal_text refusal)))

  -- the line of the bytes of a mail with this origin
  abbrev pub IsLine : Origin → List ℕ → Lines
  IsLine origin bytes = IsLineOf origin (bounded_reading options.known options.limit options.most_bytes bytes)

  -- the line of a file that is one mail
  abbrev pub IsWholeLine : Option (List ℕ) → List ℕ → Lines
  IsWholeLine file bytes = IsLine (whole_origin file bytes) bytes

  -- that of one which is read as `mail_data` reads it, whatever files are in its texts
  abbrev pub IsMailLine : Option (List ℕ) → List ℕ → Lines
  IsMailLine file bytes = IsLineOf (whole_origin file bytes) (plain.mail_reading options.known options.limit bytes)

  -- the lines of mails in a format at their offsets, in order; the first has this number, if they are numbered
  abbrev pub AreLines : Format → Option (List ℕ) → Option ℕ → List Placed → Lines
  AreLines format file number [] is_clean text = (is_clean ≡ true) × (text ≡ [])
  AreLines format file number (mail ∷ rest) is_clean text =
      (first : Bool) × (others : Bool) × (line : List ℕ) × (lines : List ℕ)
      × IsLine (origin_at file number mail.start mail.entry) (mail_in format mail.entry.mail) first line
      × AreLines format file (next_number number) rest others lines × (is_clean ≡ (first && others)) × (text ≡ line ++ lines)

  -- the lines of a mailbox in a format: the error for the text before the first mail, and then those of its mails
  abbrev pub AreMailboxLines : Format → Option (List ℕ) → List ℕ → Lines
  AreMailboxLines format file bytes =
      AreAfterFront file (take (front_length bytes) bytes) (AreLines format file (Some 1) (placed_from (front_length bytes) (entries_in format bytes)))

  -- the lines of an input that is a mailbox in a format, or one mail
  abbrev pub AreLinesOf : Format → Bool → Option (List ℕ) → List ℕ → Lines
  AreLinesOf format true file bytes = AreMailboxLines format file bytes
  AreLinesOf format false file bytes = IsWholeLine file bytes

  -- the lines of an input of this kind
  abbrev pub AreInputLines : InputKind → Option (List ℕ) → List ℕ → Lines
  AreInputLines kind file bytes = AreLinesOf (format_of kind) (is_mailbox kind bytes) file bytes

-- such lines were written, and nothing else, and the call returned whether an error is among them; otherwise memory ran
-- out or a write failed
abbrev pub WritesLines : Option (List ℕ) → Option (List ℕ) → Result Written Fault → Lines → Type 0
WritesLines old new (Ok written) Are = (text : List ℕ) × Are (is_clean written) text × Appends old new text
WritesLines old new (Err fault) Are = IsEnd fault

-- all that the reader had left was read, its lines were written, and nothing else, and the call returned whether an
-- error is among them; otherwise memory ran out, or a read or a write failed
abbrev pub WritesInput : (left_before left old new : Option (List ℕ)) → Result Written Fault → (List ℕ → Lines) → Type 0
WritesInput left_before left old new (Ok written) Are =
    (all : List ℕ) × Consumes left_before left all × IsAtEnd left × (text : List ℕ) × Are all (is_clean written) text × Appends old new text
WritesInput left_before left old new (Err fault) Are = IsFault fault
