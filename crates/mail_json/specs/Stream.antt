-- How much of an input is read, and which lines are written of it; the program's own form.
use Rattle.std.specs.Prelude.{◌≡◌, ℕ, Bool, ◌&&◌, List, [], ◌++◌, Option, Some, None, Result, Ok, Err}
use Rattle.std.specs.Io.KnownBytes.{Appends, Consumes, IsAtEnd}
use Rattle.mail_json.specs.Options.{Options}
use Rattle.mail_program.specs.declared.fault.Fault.{Fault}
use Rattle.mail_data.specs.Mailbox.{Entry}
use Rattle.mail_data.specs.MailboxFormats.{entries_in}
use Rattle.mail_data.specs.MailboxParts.{placed_from}
use Rattle.mail_data.specs.declared.mailbox.formats.Format.{Format}
use Rattle.mail_json.specs.Selection.{AreChosen, is_range}
use Rattle.mail_json.specs.JsonLines.{Lines}
use Rattle.mail_program.specs.Fault.{IsFault}
use Rattle.mail_json.specs.Written.{is_clean}
use Rattle.mail_json.specs.declared.selection.Selection.{Selection}
use Rattle.mail_json.specs.declared.selection.Selection.TheVariants.{Numbered, Within}
use Rattle.mail_json.specs.declared.written.Written.{Written}

-- what the reader has left
abbrev pub HasLeft : Option (List ℕ) → List ℕ → Type 0
HasLeft None bytes = Unit {0}
HasLeft (Some left) bytes = left ≡ bytes

-- bytes were read, the lines of these and of those that follow were written, and nothing else, and the call returned
-- whether an error is among them; otherwise memory ran out, or a read or a write failed
abbrev pub WritesUpTo : (Option (List ℕ) → List ℕ → Type 0) → (left_before left old new : Option (List ℕ)) → Result Written Fault → (List ℕ → Lines) → Type 0
WritesUpTo Follow left_before left old new (Ok written) Are =
    (read : List ℕ) × (later : List ℕ) × Consumes left_before left read × Follow left later × (text : List ℕ)
    × Are (read ++ later) (is_clean written) text × Appends old new text
WritesUpTo Follow left_before left old new (Err fault) Are = IsFault fault

-- the bytes after the end of reading: none, unless the mails of a range are wanted
abbrev pub Ends : Selection → Option (List ℕ) → List ℕ → Type 0
Ends (Numbered number) = λ left later. IsAtEnd left × (later ≡ [])
Ends (Within from to) = HasLeft

-- the lines of the mails that have one were written
abbrev pub WritesChosen : Selection → (left_before left old new : Option (List ℕ)) → Result Written Fault → (List ℕ → Lines) → Type 0
WritesChosen selection left_before left old new r Are = WritesUpTo (Ends selection) left_before left old new r Are

-- Under these options, of a file that is a mailbox in a format.
module _ (options : Options) (format : Format) (file : Option (List ℕ)) where
  -- the lines that were written of mails, the first of which begins at `start`, are completed by any lines of the mails
  -- that are left
  abbrev pub Continues : Selection → ℕ → List Entry → Selection → ℕ → List Entry → Bool → List ℕ → Type 0
  Continues first start all selection at left is_clean done =
      (others : Bool) (lines : List ℕ) → AreChosen options format file selection (placed_from at left) others lines
      → AreChosen options format file first (placed_from start all) (is_clean && others) (done ++ lines)

  -- the lines of the mails at the front of the bytes were written, up to the rest; with any further bytes, they are
  -- those of the first mails
  abbrev pub WritesSettled : (old new : Option (List ℕ)) → Selection → ℕ → List ℕ → Selection → ℕ → List ℕ → Bool → Type 0
  WritesSettled old new first start bytes selection at rest is_clean =
      (done : List ℕ) × Appends old new done
      × ((more : List ℕ) → Continues first start (entries_in format (bytes ++ more)) selection at (entries_in format (rest ++ more)) is_clean done)
      × (is_range selection ≡ is_range first)
