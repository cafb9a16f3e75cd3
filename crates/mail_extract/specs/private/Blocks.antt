-- What saving the files of the mails at the front of a mailbox does, whatever follows.
use Rattle.std.specs.Prelude.{ℕ, List, ◌++◌, Option, Bool, Result, Ok, Err}
use Rattle.std.specs.Io.KnownBytes.{Consumes, IsAtEnd}
use Rattle.mail_codec.specs.Charset.{Charsets}
use Rattle.mail_data.specs.MailboxFormats.{entries_in}
use Rattle.mail_data.specs.declared.mailbox.formats.Format.{Format}
use Rattle.mail_extract.specs.FileLine.{FileLine}
use Rattle.mail_program.specs.Fault.{IsFault}
use Rattle.mail_program.specs.declared.fault.Fault.{Fault}
use Rattle.mail_program.specs.declared.outcome.Outcome.{Outcome}
use Rattle.mail_extract.specs.Directory.{File}
use Rattle.mail_extract.specs.Input.{AreMails, Saved, Saves}
use Rattle.mail_extract.specs.Naming.{Options}

-- what was saved and written so far is completed by what is left, whatever bytes follow
abbrev pub Before : (All Left : List ℕ → Saves) → Saves
Before All Left files from done next mid =
    (later : List ℕ) (others : List FileLine) (last : ℕ) (now : List File) → Left later mid next others last now → All later files from (done ++ others) last now

-- A directory that had some files and now has others, and a writer that had some bytes and now has others.
module _ (held_old held_new : Option (List File)) (old new : Option (List ℕ)) (from next : ℕ) where
  -- more was read, to the end, and the files of these bytes and all that was read were saved
  abbrev pub EndsAfter : List ℕ → (left_before left : Option (List ℕ)) → Result Outcome Fault → (List ℕ → Saves) → Type 0
  EndsAfter read left_before left (Ok outcome) Are =
      (more : List ℕ) × Consumes left_before left more × IsAtEnd left × Saved held_old held_new old new from next outcome (Are (read ++ more))
  EndsAfter read left_before left (Err fault) Are = IsFault fault

  -- For an input with this name, a directory that may fail or not, options, the known charsets, and a mailbox in a format.
  module _ (file : Option (List ℕ)) (can_fail : List File → Bool) (options : Options) (known : Charsets) (format : Format) where
    -- the mails at the front of the bytes, the first of which has a number, were saved, up to the rest; with any further bytes, they are the first mails
    abbrev pub SavesFront : (first : ℕ) (bytes : List ℕ) (number : ℕ) (rest : List ℕ) → Outcome → Type 0
    SavesFront first bytes number rest outcome =
        Saved held_old held_new old new from next outcome
        (Before (λ later. AreMails file can_fail options known format first (entries_in format (bytes ++ later)))
        (λ later. AreMails file can_fail options known format number (entries_in format (rest ++ later))))
