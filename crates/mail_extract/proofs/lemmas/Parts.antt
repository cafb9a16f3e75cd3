-- Lemmas on the files among the parts of a mail.
use Rattle.std.proofs.Common.{◌≡◌, ℕ, Bool, List, [], ◌∷◌, Option, Some, Result, Ok, Err, IfSome, refl, sym, subst}
use Rattle.std.proofs.lemmas.List.Elements.{All-nil, All-push}
use Rattle.mail_read.specs.FileNames.{IsSafeName}
use Rattle.mail_extract.specs.FileLine.{FileLine}
use Rattle.mail_program.specs.declared.fault.Fault.{Fault}
use Rattle.mail_program.specs.declared.outcome.Outcome as program
use Rattle.mail_program.specs.declared.outcome.Outcome.TheVariants.{Clean}
use Rattle.mail_extract.specs.Directory.{File}
use Rattle.mail_extract.specs.Input.{AreFiles, Ends, Saved, file_line}
use Rattle.mail_extract.specs.Naming.{Options}
use Rattle.mail_extract.specs.Report.{WritesAll}
use Rattle.mail_extract.specs.Save.{IsSaved, Outcome, Wanted}
use Rattle.mail_extract.proofs.lemmas.Saves.{saved_none}

-- For an input with this name, a directory that may fail or not, options, the number of the mail, and some of its files.
module _ (file : Option (List ℕ)) (can_fail : List File → Bool) (options : Options) (number : Option ℕ) (files : List Wanted) where
  -- there are none
  pub files_none : files ≡ [] → (held : Option (List File)) (old : Option (List ℕ)) (from : ℕ) → Saved held held old old from from Clean (AreFiles file can_fail options number files)
  files_none e held old from =
      subst (λ (ws : List Wanted). Saved held held old old from from Clean (AreFiles file can_fail options number ws)) (sym e) (saved_none held old from)

  -- they are the same by another name
  pub files_as : (same : List Wanted) → same ≡ files → (held_old held_new : Option (List File)) (old new : Option (List ℕ)) (from next : ℕ) (r : Result program.Outcome Fault)
      → Ends held_old held_new old new from next r (AreFiles file can_fail options number same) → Ends held_old held_new old new from next r (AreFiles file can_fail options number files)
  files_as same e held_old held_new old new from next r h =
      subst (λ (ws : List Wanted). Ends held_old held_new old new from next r (AreFiles file can_fail options number ws)) e h

  -- there is one, which was saved and has its line
  pub file_saved : (wanted : Wanted) → files ≡ wanted ∷ [] → (held_old held_new : Option (List File)) (old new : Option (List ℕ)) (from next : ℕ) (r : Result program.Outcome Fault) (outcome : Outcome)
      → ((before : List File) → held_old ≡ Some before → (now : List File) × (held_new ≡ Some now) × IsSaved can_fail options before wanted from outcome next now)
      → IfSome outcome.saved IsSafeName → WritesAll old new r (file_line file number outcome ∷ [])
      → Ends held_old held_new old new from next r (AreFiles file can_fail options number files)
  file_saved wanted e held_old held_new old new from next (Ok done) outcome one safe h =
      let line = file_line file number outcome in
      subst (λ (ws : List Wanted). Saved held_old held_new old new from next done (AreFiles file can_fail options number ws)) (sym e) (
        line ∷ [],
        h.0,
        h.1,
        All-push (λ (l : FileLine). IfSome l.saved IsSafeName) [] line (All-nil (λ (line : FileLine). IfSome line.saved IsSafeName)) safe,
        λ before is. let after = one before is in (after.0, after.1, (after.0, next, line ∷ [], [], (outcome, after.2, refl), (refl, refl, refl), refl)),
      )
  file_saved wanted e held_old held_new old new from next (Err fault) outcome one safe h = h
