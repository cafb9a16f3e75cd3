-- Values that are their own text, which one search finds out.
use Rattle.std.specs.Prelude.{◌≡◌, ℕ, Bool, true, ◌||◌, ◌==◌, List, length}
use Rattle.std.specs.Char.{is_ascii_graphic}
use Rattle.mail_codec.specs.Ascii.{line_feed, question_mark}
use Rattle.mail_codec.specs.Places.{begins, first_place}

-- a byte that ends a line, or that may be the second byte of an encoded word
abbrev pub cuts_value : ℕ → Bool
cuts_value b = b == line_feed || b == question_mark

-- the bytes begin with a visible character of ASCII, and none of them cuts a value
pub record IsBare (bytes : List ℕ) : Type 0 where
  pub visible : begins is_ascii_graphic bytes ≡ true
  pub uncut : first_place (begins cuts_value) bytes ≡ length bytes
