-- What creating a file does to a directory; the program's own words.
use Rattle.std.specs.Prelude.{◌≡◌, ℕ, Bool, true, false, ◌&&◌, List, [], ◌∷◌, ◌++◌, Option, Some}
use Rattle.std.specs.List.{list_any}
use Rattle.std.specs.Str.{bytes_eq}
use Rattle.mail_extract.specs.declared.directory.Created.{Created}
use Rattle.mail_extract.specs.declared.directory.Created.TheVariants.{Made, Taken, Failed}

-- a file: its name and its bytes
abbrev pub File : Type 0
File = List ℕ × List ℕ

-- a file with that name is among them
abbrev pub has_file : List ℕ → List File → Bool
has_file name files = list_any (λ file. bytes_eq file.0 name) files

-- a file with that name and these bytes is among them
abbrev pub has_copy : (name bytes : List ℕ) → List File → Bool
has_copy name bytes files = list_any (λ file. bytes_eq file.0 name && bytes_eq file.1 bytes) files

-- The directory has these files, and a file with this name and these bytes is to be created.
module _ (files : List File) (name bytes : List ℕ) where
  -- it is there now, and was not before; or the name is taken; or it could not be created. The other files are unchanged
  abbrev pub Creates : (List File → Bool) → Option (List File) → Created → Type 0
  Creates can_fail now Made = (has_file name files ≡ false) × (now ≡ Some (files ++ (name, bytes) ∷ []))
  Creates can_fail now Taken = (has_file name files ≡ true) × (now ≡ Some files)
  Creates can_fail now (Failed error) = (can_fail files ≡ true) × (now ≡ Some files)
