-- The names under which files are saved; the program's own rule. A text is the list of its bytes in UTF-8.
use Rattle.std.specs.Prelude.{◌≡◌, ℕ, ◌<◌, ◌≤◌, Bool, ◌||◌, ◌==◌, List, [], ◌∷◌, ◌++◌, take, Option, codes, decimal, if◌then◌else◌}
use Rattle.std.specs.Option.{unwrap_or}
use Rattle.std.specs.Str.{IsCharBoundary, NoCharPasses}
use Rattle.mail_codec.specs.Places.{begins}
use Rattle.mail_read.specs.FileNames.{safe_name}
use Rattle.mail_read.specs.WindowsNames.{windows_name}
use Rattle.mail_extract.specs.declared.options.Naming.{Naming}
use Rattle.mail_extract.specs.declared.options.Naming.TheVariants.{BySender, ForWindows, ByHash}

-- a character with which no saved name begins: `.`, which hides a file, and `-`, which makes its name an option
abbrev pub is_refused_first : ℕ → Bool
is_refused_first c = c == 46 || c == 45

-- a safe name, with `_` before one that begins with such a character
unfoldable pub visible_name : List ℕ → List ℕ
visible_name name = safe_name (if begins is_refused_first name then codes "_" ++ name else name)

-- the wanted name of a file: the sender's, or `unnamed` with an ending if there is none
abbrev pub wanted_name : Option (List ℕ) → List ℕ → List ℕ
wanted_name name ending = visible_name (unwrap_or name (codes "unnamed" ++ ending))

abbrev pub is_dot : ℕ → Bool
is_dot c = c == 46

-- the ending of a name: its last `.` and the rest, or nothing if it has no `.`
abbrev pub IsEnding : List ℕ → List ℕ → Type 0
IsEnding name [] = NoCharPasses is_dot name
IsEnding name (b ∷ rest) = (b ≡ 46) × NoCharPasses is_dot rest

-- the longest front of a text that consists of whole characters and has at most `most` bytes
pub record IsFrontOf (most : ℕ) (text front : List ℕ) : Type 0 where
  pub count : ℕ
  pub taken : front ≡ take count text
  pub short : count ≤ most
  pub whole : IsCharBoundary text count
  pub longest : (n : ℕ) → count < n → n ≤ most → ¬ (IsCharBoundary text n)

-- a name made safe, or a name that Windows takes if that is asked for
abbrev pub made_name : Naming → List ℕ → List ℕ
made_name BySender name = safe_name name
made_name ForWindows name = windows_name name
made_name ByHash name = safe_name name

-- a text with a hyphen and a number before an ending; at most 200 bytes of the text are kept, so that the number fits
abbrev pub IsNumberedBefore : Naming → List ℕ → List ℕ → ℕ → List ℕ → Type 0
IsNumberedBefore naming stem ending number text =
    (front : List ℕ) × IsFrontOf 200 stem front × (text ≡ made_name naming (front ++ (codes "-" ++ (decimal number ++ ending))))

-- a name with a number before its ending
pub record IsNumbered (naming : Naming) (name : List ℕ) (number : ℕ) (text : List ℕ) : Type 0 where
  pub stem : List ℕ
  pub ending : List ℕ
  pub cut : name ≡ stem ++ ending
  pub is_ending : IsEnding name ending
  pub numbered : IsNumberedBefore naming stem ending number text
