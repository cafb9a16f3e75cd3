-- Lemmas on the files in a text, which are saved one after another.
use Rattle.std.proofs.Common.{◌≡◌, ◌∙◌, ℕ, ◌+◌, ◌<◌, Bool, List, [], ◌∷◌, length, map, drop, drop-cons, get_or, add-one, Option, sym, ap}
use Rattle.mail_data.specs.TextFiles.{text_file_path}
use Rattle.mail_data.specs.TextFileViews.{text_file_view}
use Rattle.mail_data.specs.declared.text_files.TextFile as code
use Rattle.mail_program.specs.Outcome.{worse}
use Rattle.mail_program.specs.declared.outcome.Outcome.{Outcome}
use Rattle.mail_extract.specs.Directory.{File}
use Rattle.mail_extract.specs.Input.{AreFiles, IsFile, Saved, Saves}
use Rattle.mail_extract.specs.Naming.{Options}
use Rattle.mail_extract.specs.Save.{chosen, text_wanted, texts_wanted}
use Rattle.mail_extract.specs.private.Blocks.{Before}
use Rattle.mail_extract.proofs.lemmas.Save.{texts-cons}
use Rattle.mail_extract.proofs.lemmas.Saves.{before_more, each_first}

-- the first of the files that are left, and the others
files_left : (files : List code.TextFile) (i : ℕ) (d : code.TextFile) → i < length files
    → map text_file_view (drop i files) ≡ text_file_view (get_or files i d) ∷ map text_file_view (drop (i + 1) files)
files_left files i d below =
    ap (map text_file_view) (drop-cons files i d below)
    ∙ ap (λ n. text_file_view (get_or files i d) ∷ map text_file_view (drop n files)) (sym (add-one i))

-- For an input with this name, a directory that may fail or not, options, the number of the mail, the path of the part, and the files in its text.
module _ (file : Option (List ℕ)) (can_fail : List File → Bool) (options : Options) (number : Option ℕ) (path : List ℕ) (files : List code.TextFile) where
  -- the chosen files from an index on, the first of which has the number after this one
  abbrev pub TextsFrom : ℕ → ℕ → Saves
  TextsFrom i position =
      AreFiles file can_fail options number (chosen options.choice (texts_wanted path (position + 1) (map text_file_view (drop i files))))

  -- the next one was saved, or was not chosen
  pub texts_more : (i position : ℕ) (d : code.TextFile) (own : List ℕ) (All : Saves) (held_old held_mid held_new : Option (List File)) (old mid new : Option (List ℕ)) (from middle next : ℕ) (a b both : Outcome)
      → i < length files → own ≡ text_file_path path (position + 1) → both ≡ worse a b
      → Saved held_mid held_new mid new middle next b (AreFiles file can_fail options number (chosen options.choice (text_wanted own (text_file_view (get_or files i d)) ∷ [])))
      → Saved held_old held_mid old mid from middle a (Before (λ later. All) (λ later. TextsFrom i position))
      → Saved held_old held_new old new from next both (Before (λ later. All) (λ later. TextsFrom (i + 1) (position + 1)))
  texts_more i position d own All held_old held_mid held_new old mid new from middle next a b both below is_own is_both one here =
      let file_here = text_file_view (get_or files i d) in
      let left = map text_file_view (drop i files) in
      let rest = map text_file_view (drop (i + 1) files) in
      before_more held_old held_mid held_new old mid new from middle next a b both (λ later. All) (λ later. TextsFrom i position) (λ later. TextsFrom (i + 1) (position + 1))
      (AreFiles file can_fail options number (chosen options.choice (text_wanted own file_here ∷ []))) is_both
      (λ later. each_first (IsFile file can_fail options number) (chosen options.choice (texts_wanted path (position + 1) left)) (chosen options.choice (text_wanted own file_here ∷ []))
      (chosen options.choice (texts_wanted path (position + 1 + 1) rest)) (texts-cons options.choice path own (position + 1) left rest file_here (files_left files i d below) is_own))
      one here
