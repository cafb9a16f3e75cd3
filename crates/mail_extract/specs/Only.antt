-- The only file of an input that a choice keeps, when it is written, and the lines of all files; the program's own rule.
use Rattle.std.specs.Prelude.{◌≡◌, ◌<◌, ℕ, Bool, true, false, List, [], ◌∷◌, length, flat_map, Option, is_some, Result, Ok, Err}
use Rattle.std.specs.Io.KnownBytes.{Appends, Consumes, IsAtEnd}
use Rattle.mail_codec.specs.Charset.{Charsets}
use Rattle.mailparse.specs.Mail.{Tree}
use Rattle.mailparse.specs.Refusal.{Reads}
use Rattle.mail_data.specs.MailboxFormats.{entries_in, mail_in}
use Rattle.mail_read.specs.Reading.{mail_placements}
use Rattle.mail_data.specs.declared.mailbox.formats.Format.{Format}
use Rattle.mail_parts.specs.DecodedSize.{bounded_reading}
use Rattle.mail_extract.specs.FileLine.{FileLine}
use Rattle.mail_walk.specs.Kind.{format_of, is_mailbox}
use Rattle.mail_program.specs.Fault.{IsFault}
use Rattle.mail_walk.specs.declared.kind.InputKind.{InputKind}
use Rattle.mail_program.specs.declared.fault.Fault.{Fault}
use Rattle.mail_program.specs.declared.outcome.Outcome.TheVariants.{Failed, Refused}
use Rattle.mail_extract.specs.Choice.{Choice}
use Rattle.mail_extract.specs.Directory.{File}
use Rattle.mail_extract.specs.Input.{Saves}
use Rattle.mail_extract.specs.Naming.{Options}
use Rattle.mail_extract.specs.Report.{lines_text, worst}
use Rattle.mail_extract.specs.Save.{Wanted, chosen, wanted_files}
use Rattle.mail_extract.specs.declared.hash.Hashing.TheVariants.{Off}
use Rattle.mail_extract.specs.declared.only.OnlyFile.{OnlyFile}
use Rattle.mail_extract.specs.declared.only.OnlyFile.TheVariants.{Missing, Several, Written}
use Rattle.mail_extract.specs.declared.options.Naming.TheVariants.{BySender}

-- a directory for one file may fail if it has one
abbrev pub fails_if_full : List File → Bool
fails_if_full [] = false
fails_if_full (file ∷ files) = true

-- the same options, with names by senders and without hashes
abbrev pub only_options : Options → Options
only_options options = record { limit = options.limit; most_bytes = options.most_bytes; hashing = Off; naming = BySender; choice = options.choice }

-- Under the known charsets, a limit on the messages, parts and headers of each mail, and a choice.
module _ (known : Charsets) (limit : ℕ) (choice : Choice) where
  -- the files of a mail that the choice keeps, with those of the mails inside it; a refused mail has none
  abbrev pub read_files : Reads Tree → List Wanted
  read_files (Ok t) = chosen choice (wanted_files known limit t (mail_placements t))
  read_files (Err refusal) = []

  -- and a limit on the bytes that are decoded for the mails inside each
  module _ (most_bytes : Option ℕ) where
    abbrev pub mail_files : List ℕ → List Wanted
    mail_files bytes = read_files (bounded_reading known limit most_bytes bytes)

    -- those of an input that is a mailbox in a format, or one mail
    abbrev pub input_files_of : Format → Bool → List ℕ → List Wanted
    input_files_of format true bytes = flat_map (λ entry. mail_files (mail_in format entry.mail)) (entries_in format bytes)
    input_files_of format false bytes = mail_files bytes

    -- those of an input of this kind
    abbrev pub input_files : InputKind → List ℕ → List Wanted
    input_files kind bytes = input_files_of (format_of kind) (is_mailbox kind bytes) bytes

-- what is returned of a written file is the worst outcome that lines report
abbrev pub IsWorst : OnlyFile → List FileLine → Type 0
IsWorst Missing lines = Unit {0}
IsWorst Several lines = worst lines ≡ Failed
IsWorst (Written outcome) lines = outcome ≡ worst lines

-- A writer that had some bytes and now has others, and a writer of lines.
module _ (old new old_lines new_lines : Option (List ℕ)) where
  -- of these files the only one was written, and the outcome says if it is damaged; or there is not exactly one, and nothing was written
  abbrev pub IsOnly : OnlyFile → List Wanted → Type 0
  IsOnly Missing files = (files ≡ []) × Appends old new []
  IsOnly Several files = (1 < length files) × Appends old new []
  IsOnly (Written outcome) files =
      (file : Wanted) × (files ≡ file ∷ []) × Appends old new file.content.bytes × (is_some file.content.fault ≡ true → outcome ≡ Refused)

  -- lines were written and nothing else: those of saving files, in this way, in an empty directory, with numbers from 2 on
  abbrev pub WritesLines : OnlyFile → Saves → Type 0
  WritesLines found Are =
      (lines : List FileLine) × Appends old_lines new_lines (lines_text lines) × IsWorst found lines
      × (next : ℕ) × (now : List File) × Are [] 2 lines next now

  -- all that the reader had left was read, and so it was of its files and their lines; or memory ran out, or a read or a write failed
  abbrev pub WritesOnly : (left_before left : Option (List ℕ)) → Result OnlyFile Fault → (List ℕ → List Wanted) → (List ℕ → Saves) → Type 0
  WritesOnly left_before left (Ok found) files Are =
      (all : List ℕ) × Consumes left_before left all × IsAtEnd left × IsOnly found (files all) × WritesLines found (Are all)
  WritesOnly left_before left (Err fault) files Are = IsFault fault
