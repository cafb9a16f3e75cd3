-- The contracts between the functions that search for delimiters.
use Rattle.std.specs.Prelude.{◌≡◌, ℕ, ◌∷◌, ◌<◌, List, length, drop}
use Rattle.mail_codec.specs.Ascii.{line_feed}

-- a LF and then the dash-boundary, which is not empty
pub record IsLineDelimiter (line_delimiter : List ℕ) : Type 0 where
  pub feed : line_delimiter ≡ line_feed ∷ drop 1 line_delimiter
  pub some : 0 < length (drop 1 line_delimiter)
