-- What saving the files of an input does: the lines that are written, the directory, and the next number; the program's own form.
use Rattle.std.specs.Prelude.{◌≡◌, ℕ, Bool, true, false, List, [], ◌∷◌, ◌++◌, take, Option, Some, None, Result, Ok, Err, IfSome, codes, if◌then◌else◌}
use Rattle.std.specs.Char.{is_ascii_whitespace}
use Rattle.std.specs.Io.KnownBytes.{Appends, Consumes, IsAtEnd}
use Rattle.std.specs.List.{All, list_all}
use Rattle.std.specs.Option.{option_map_or}
use Rattle.mail_codec.specs.Charset.{Charsets}
use Rattle.mailparse.specs.Mail.{Tree}
use Rattle.mailparse.specs.Refusal.{Reads}
use Rattle.mail_read.specs.FileNames.{IsSafeName}
use Rattle.mail_read.specs.InnerMails.{InnerMail}
use Rattle.mail_data.specs.Mailbox.{Entry, front_length}
use Rattle.mail_data.specs.MailboxFormats.{entries_in, mail_in}
use Rattle.mail_read.specs.PartPlaces.{places}
use Rattle.mail_read.specs.Reading.{mail_placements}
use Rattle.mail_data.specs.declared.mailbox.formats.Format.{Format}
use Rattle.mail_parts.specs.DecodedSize.{bounded_reading}
use Rattle.mail_extract.specs.FileLine.{FileLine}
use Rattle.mail_walk.specs.Kind.{format_of, is_mailbox}
use Rattle.mail_program.specs.Refusal.{refusal_text}
use Rattle.mail_walk.specs.Offsets.{saturating_add}
use Rattle.mail_program.specs.Fault.{IsEnd, IsFault}
use Rattle.mail_parts.specs.Reading.{inner_mails_within}
use Rattle.mail_walk.specs.declared.kind.InputKind.{InputKind}
use Rattle.mail_program.specs.declared.fault.Fault.{Fault}
use Rattle.mail_program.specs.declared.outcome.Outcome as program
use Rattle.mail_extract.specs.Directory.{File}
use Rattle.mail_extract.specs.Naming.{Options}
use Rattle.mail_extract.specs.Report.{lines_text, worst}
use Rattle.mail_extract.specs.Save.{IsSaved, Outcome, Wanted, chosen, wanted_among, wanted_inside}
use Rattle.mail_extract.specs.declared.level.Level.TheVariants.{Own}

-- the files of a directory and the next number before, the lines that are written, and the next number and the files after
abbrev pub Saves : Type 1
Saves = List File → ℕ → List FileLine → ℕ → List File → Type 0

-- nothing is saved, and these lines are written
abbrev pub Only : List FileLine → Saves
Only these files from lines next now = (lines ≡ these) × (next ≡ from) × (now ≡ files)

-- first this, and then that
abbrev pub Then : Saves → Saves → Saves
Then First Second files from lines next now =
    (mid : List File) × (number : ℕ) × (first : List FileLine) × (others : List FileLine) × First files from first number mid
    × Second mid number others next now × (lines ≡ first ++ others)

-- each of these, one after another
abbrev pub Each : {X : Type 0} → (X → Saves) → List X → Saves
Each Is [] = Only []
Each Is (x ∷ others) = Then (Is x) (Each Is others)

-- the names under which files were saved are safe
abbrev pub AreSafe : List FileLine → Type 0
AreSafe lines = All (λ line. IfSome line.saved IsSafeName) lines

-- Of an input with this name, or standard input.
module _ (file : Option (List ℕ)) where
  -- the line of a file of the mail with this number, or of a mail by itself
  abbrev pub file_line : Option ℕ → Outcome → FileLine
  file_line number outcome = record {
    file = file;
    number = number;
    path = Some outcome.path;
    saved = outcome.saved;
    size = Some outcome.size;
    sha256 = outcome.sha256;
    error = outcome.error;
  }

  -- the line of a refusal: of an input, of its mail with this number, or of the mail in the part with this path
  abbrev pub refused_line : (number : Option ℕ) (path : Option (List ℕ)) (error : List ℕ) → FileLine
  refused_line number path error =
      record { file = file; number = number; path = path; saved = None; size = None; sha256 = None; error = Some error }

  -- the line of a mail inside, if it is refused
  abbrev pub inner_lines : Option ℕ → InnerMail → List FileLine
  inner_lines number mail = option_map_or (λ refusal. refused_line number (Some mail.path) (refusal_text refusal) ∷ []) mail.refusal []

  -- the text before the first mail of a mailbox: an error, unless it is whitespace
  abbrev pub front_lines : List ℕ → List FileLine
  front_lines front =
      if list_all is_ascii_whitespace front then [] else refused_line None None (codes "The mailbox does not begin with a separator") ∷ []

  -- For a directory that may fail if it has certain files, and under these options.
  module _ (can_fail : List File → Bool) (options : Options) where
    -- a file of a mail is saved, and has this line
    abbrev pub IsFile : Option ℕ → Wanted → Saves
    IsFile number wanted files from lines next now =
        (outcome : Outcome) × IsSaved can_fail options files wanted from outcome next now × (lines ≡ file_line number outcome ∷ [])

    -- files are saved, and the line of each follows it
    abbrev pub AreFiles : Option ℕ → List Wanted → Saves
    AreFiles number files = Each (IsFile number) files

    -- under the known charsets
    module _ (known : Charsets) where
      -- the chosen files of a mail inside a mail are saved and have lines, or it has a line, if it is refused
      abbrev pub IsInside : Option ℕ → InnerMail → Saves
      IsInside number inner = Then (AreFiles number (chosen options.choice (wanted_inside known options.limit inner))) (Only (inner_lines number inner))

      -- mails inside a mail, one after another
      abbrev pub AreInside : Option ℕ → List InnerMail → Saves
      AreInside number mails = Each (IsInside number) mails

      -- the chosen files of a mail are saved and have lines, and then those of each mail inside it; or the mail has a line, if it is refused
      abbrev pub IsMailOf : Option ℕ → Reads Tree → Saves
      IsMailOf number (Ok t) =
          Then (AreFiles number (chosen options.choice (wanted_among known options.limit Own (places t (mail_placements t)))))
          (AreInside number (inner_mails_within known options.limit 100 [] (Some 0) t (mail_placements t)))
      IsMailOf number (Err refusal) = Only (refused_line number None (refusal_text refusal) ∷ [])

      -- the same of the bytes of a mail
      abbrev pub IsMail : Option ℕ → List ℕ → Saves
      IsMail number bytes = IsMailOf number (bounded_reading known options.limit options.most_bytes bytes)

      -- mails of a mailbox in a format, one after another; the first has this number
      abbrev pub AreMails : Format → ℕ → List Entry → Saves
      AreMails format number [] = Only []
      AreMails format number (entry ∷ rest) = Then (IsMail (Some number) (mail_in format entry.mail)) (AreMails format (saturating_add number 1) rest)

      -- a mailbox in a format
      abbrev pub IsMailbox : Format → List ℕ → Saves
      IsMailbox format bytes = Then (Only (front_lines (take (front_length bytes) bytes))) (AreMails format 1 (entries_in format bytes))

      -- an input that is a mailbox in a format, or one mail
      abbrev pub IsInputOf : Format → Bool → List ℕ → Saves
      IsInputOf format true bytes = IsMailbox format bytes
      IsInputOf format false bytes = IsMail None bytes

      -- an input of this kind
      abbrev pub IsInput : InputKind → List ℕ → Saves
      IsInput kind bytes = IsInputOf (format_of kind) (is_mailbox kind bytes) bytes

-- A directory that had some files and now has others, and a writer that had some bytes and now has others.
module _ (held_old held_new : Option (List File)) (old new : Option (List ℕ)) (from next : ℕ) where
  -- the lines were written and nothing else, the names in them are safe, the outcome is the worst of theirs, and the files were saved
  abbrev pub Saved : program.Outcome → Saves → Type 0
  Saved outcome Are =
      (lines : List FileLine) × Appends old new (lines_text lines) × (outcome ≡ worst lines) × AreSafe lines
      × ((files : List File) → held_old ≡ Some files → (now : List File) × (held_new ≡ Some now) × Are files from lines next now)

  -- so it was, or memory ran out, or a write failed
  abbrev pub Ends : Result program.Outcome Fault → Saves → Type 0
  Ends (Ok outcome) Are = Saved outcome Are
  Ends (Err fault) Are = IsEnd fault

  -- all that the reader had left was read, and so it was; or memory ran out, or a read or a write failed
  abbrev pub EndsInput : (left_before left : Option (List ℕ)) → Result program.Outcome Fault → (List ℕ → Saves) → Type 0
  EndsInput left_before left (Ok outcome) Are = (all : List ℕ) × Consumes left_before left all × IsAtEnd left × Saved outcome (Are all)
  EndsInput left_before left (Err fault) Are = IsFault fault
