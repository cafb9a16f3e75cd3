-- The transfer encoding of a body with more text beside its name: whitespace, a comment or a
-- parameter (RFC 2045, section 6.1; RFC 5322, section 3.2.2). And uuencode, which no RFC defines as
-- one, but mail programs use.
use Rattle.std.specs.Prelude.{ℕ, Bool, false, not, ◌||◌, ◌==◌, List, take, Option, Some, None, option_map, codes, if◌then◌else◌}
use Rattle.std.specs.Char.{is_ascii_whitespace}
use Rattle.std.specs.List.{prefix_len}
use Rattle.std.specs.Str.{bytes_eq, str_to_ascii_lowercase}
use Rattle.mail_codec.specs.Ascii.{opening_parenthesis, semicolon}
use Rattle.mail_codec.specs.Places.{trimmed_at_start}
use Rattle.mailparse.specs.Body.{BodyKind, kind_named}
use Rattle.mailparse.specs.Mail.{Node}
use Rattle.mailparse.specs.Map.{first_value}

-- a byte that ends the name of an encoding: whitespace, `(` or `;`
abbrev pub ends_name : ℕ → Bool
ends_name b = is_ascii_whitespace b || (b == opening_parenthesis || b == semicolon)

-- the name at the front of a text, after whitespace
unfoldable pub name_at : List ℕ → List ℕ
name_at text =
    let rest = trimmed_at_start is_ascii_whitespace text in
    take (prefix_len (λ b. not (ends_name b)) rest) rest

-- the transfer encodings of a body that is read leniently: those of the port, and uuencode
pub data LenientKind : Type 0 where
  standard : BodyKind → LenientKind
  in_uuencode : LenientKind

-- a name, if there is one, is one of uuencode, in lower case
abbrev pub names_uuencode : Option (List ℕ) → Bool
names_uuencode None = false
names_uuencode (Some name) =
    bytes_eq name (codes "x-uuencode") || (bytes_eq name (codes "uuencode")
    || (bytes_eq name (codes "x-uue") || bytes_eq name (codes "uue")))

-- the encoding with exactly this name, in lower case; any other name, or none, means 7bit
unfoldable pub lenient_kind_named : Option (List ℕ) → LenientKind
lenient_kind_named name =
    if names_uuencode name then in_uuencode else standard (kind_named name)

-- the encoding that a text names, ignoring case
unfoldable pub lenient_kind : Option (List ℕ) → LenientKind
lenient_kind value =
    lenient_kind_named (option_map (λ text. name_at (str_to_ascii_lowercase text)) value)

-- the transfer encoding of the body of a message, by its first `Content-Transfer-Encoding`
abbrev pub lenient_body_kind : Node → LenientKind
lenient_body_kind node = lenient_kind (first_value (codes "Content-Transfer-Encoding") node.headers)
