-- The Latin-1 text of bytes (IANA's ISO-8859-1, whose 256 characters are the first 256 of Unicode).
use Rattle.std.specs.Prelude.{ℕ, List, encode_utf8_all}

-- the text in UTF-8 of one character for each byte, the one with its number
abbrev pub latin1_text : List ℕ → List ℕ
latin1_text bytes = encode_utf8_all bytes
