-- Labels of charsets that may be missing or unknown: bytes under such a label are read in UTF-8 if
-- they are UTF-8, otherwise in windows-1252; the crate's own rule (RFC 2231, section 4, for the
-- labels of extended values).
use Rattle.std.specs.Prelude.{ℕ, List, Some}
use Rattle.mail_codec.specs.Charset.{Charsets, known_by_either, text_of}
use Rattle.mail_read.specs.lenient.Texts.{charset_by_bytes}

-- the text of bytes whose charset is unknown
unfoldable pub guessed : List ℕ → List ℕ
guessed bytes = text_of (charset_by_bytes bytes) bytes

-- every label names this reading
abbrev pub any_label : Charsets
any_label label = Some guessed

-- the charsets that are known, and under every other label this reading
abbrev pub or_guessed : Charsets → Charsets
or_guessed known = known_by_either known any_label
