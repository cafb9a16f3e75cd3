-- Values in the usual form.
use Rattle.std.specs.Prelude.{◌≡◌, ℕ, ◌+◌, ◌<◌, ◌≤◌, Bool, true, false, ◌&&◌, ◌||◌, ◌==◌, nat_lt, List, [], ◌∷◌, ◌++◌, None, Some, drop, take, length, slice_range}
use Rattle.std.specs.List.{list_any}
use Rattle.std.specs.Str.{IsAscii, str_to_ascii_lowercase, trim}
use Rattle.mail_codec.specs.Ascii.{backslash, equals_sign, semicolon, slash}
use Rattle.mailparse.specs.Pairs.{Texts, last_of, pair_of, pairs_in}
use Rattle.mailparse.specs.Sections.{is_star}
use Rattle.mailparse.specs.Segments.{IsSegment, segments, unescape}
use Rattle.mail_read.specs.lenient.Repairs.{lacks_nothing}
use Rattle.mail_read.specs.declared.lenient.repairs.Position.TheVariants.{BeforeText, InName}
use Rattle.mail_read.specs.declared.lenient.usual.Parameter.{Parameter}
use Rattle.mail_read.specs.declared.lenient.usual.Text.{Text}

-- a byte that may end a word, a name or a text: one before `-` or after `~` in ASCII, `/`, `;`, `=` or backslash
abbrev pub ends_run : ℕ → Bool
ends_run b = (nat_lt b 45 || nat_lt 126 b) || ((b == slash || b == semicolon) || (b == equals_sign || b == backslash))

-- bytes none of which ends a run
abbrev pub IsRun : List ℕ → Type 0
IsRun [] = Unit
IsRun (b ∷ bytes) = (ends_run b ≡ false) × IsRun bytes

-- a value ends before these characters, and nothing is missing in them
abbrev pub ends_value : List ℕ → Bool
ends_value [] = true
ends_value (c ∷ cs) = (c == semicolon) && lacks_nothing InName cs

-- the segments that begin after a semicolon here; none at the end
abbrev pub segments_left : List ℕ → List (List ℕ)
segments_left [] = []
segments_left (c ∷ cs) = segments cs

-- the first of the segments of some bytes ends before others, and has this key, in any case, and this text
abbrev pub HasPair : List ℕ → List ℕ → List ℕ → List ℕ → Type 0
HasPair bytes left key text =
    (segment : List ℕ) × (segments bytes ≡ segment ∷ segments_left left)
    × (pair_of segment ≡ Some (str_to_ascii_lowercase key, text))

-- a text after the `=` at an offset, with or without quotes
pub record IsText (bytes : List ℕ) (from : ℕ) (found : Text) : Type 0 where
  pub order : (from ≤ found.start) × (found.start ≤ found.stop) × (found.stop ≤ found.end) × (found.end ≤ length bytes)
  pub ends : ends_value (drop found.end bytes) ≡ true → lacks_nothing BeforeText (drop from bytes) ≡ true
  pub means : IsAscii bytes → (value : List ℕ) × (drop from bytes ≡ value ++ drop found.end bytes) × IsSegment true value
      × (unescape (trim value) ≡ slice_range bytes found.start found.stop)

-- a parameter after the semicolon at an offset
pub record IsParameter (bytes : List ℕ) (at : ℕ) (found : Parameter) : Type 0 where
  pub order : (at < found.name) × (found.name ≤ found.equals) × (found.equals < found.text.start) × (found.text.start ≤ found.text.stop)
      × (found.text.stop ≤ found.text.end) × (found.text.end ≤ length bytes)
  pub ends : ends_value (drop found.text.end bytes) ≡ true → ends_value (drop at bytes) ≡ true
  pub named : IsRun (slice_range bytes found.name found.equals)
  pub means : IsAscii bytes → ends_value (drop found.text.end bytes) ≡ true
      → HasPair (drop (at + 1) bytes) (drop found.text.end bytes) (slice_range bytes found.name found.equals)
      (slice_range bytes found.text.start found.text.stop)

-- the bytes before an offset are a whole segment, and have no whitespace around them
abbrev pub IsValue : List ℕ → ℕ → Type 0
IsValue bytes end = IsSegment true (take end bytes) × (trim (take end bytes) ≡ take end bytes)

-- these are the parameters that follow at an offset, in the usual form, and no name of theirs has a star
pub record Holds (bytes : List ℕ) (from : ℕ) (params : Texts) : Type 0 where
  pub ends : ends_value (drop from bytes) ≡ true
  pub same : params ≡ last_of (pairs_in (segments_left (drop from bytes)))
  pub starless : (q : List ℕ) → list_any is_star q ≡ true → params q ≡ None
