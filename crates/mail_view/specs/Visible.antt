-- Text as a terminal shows it, without characters that move its cursor; the crate's own rule.
use Rattle.std.specs.Prelude.{ℕ, ◌==◌, List, flat_map, codes, chars, if◌then◌else◌}
use Rattle.std.specs.Char.{encode_utf8}
use Rattle.mail_codec.specs.Hidden.{is_hidden}

-- the text that is shown of a character: four spaces of a tab, U+FFFD of any other that is hidden, otherwise itself
unfoldable pub shown_character : ℕ → List ℕ
shown_character c = if c == 9 then codes "    " else encode_utf8 (if is_hidden c then 0xFFFD else c)

-- the text that is shown of a text
abbrev pub visible : List ℕ → List ℕ
visible text = flat_map shown_character (chars text)
