-- Texts of others in messages on a terminal; our own form.
use Rattle.std.specs.Prelude.{ℕ, false, List, ◌++◌, flat_map, codes, chars, if◌then◌else◌}
use Rattle.std.specs.Char.{encode_utf8}
use Rattle.std.specs.Fmt.{radix_digits}
use Rattle.mail_codec.specs.Hidden.{is_hidden}

-- a character as its number: `\u{1b}` for U+001B
abbrev pub escape : ℕ → List ℕ
escape c = codes "\\u{" ++ (radix_digits 16 false c ++ codes "}")

-- the text that is shown of a character: its number if it is hidden, otherwise itself
unfoldable pub shown_character : ℕ → List ℕ
shown_character c = if is_hidden c then escape c else encode_utf8 c

-- the text that is shown of a text
abbrev pub shown : List ℕ → List ℕ
shown text = flat_map shown_character (chars text)
