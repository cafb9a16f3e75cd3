-- The text of a body with a wrong label, and of a damaged body; the crate's own rule.
use Rattle.std.specs.Prelude.{ℕ, Bool, not, ◌||◌, List, is_some, codes, if◌then◌else◌}
use Rattle.std.specs.Option.{option_map_or}
use Rattle.std.specs.Str.{is_utf8, str_eq_ignore_ascii_case, trim}
use Rattle.mail_codec.specs.Charset.{Charsets, mark_at_start, marked_text_of}
use Rattle.mail_codec.specs.declared.charset.built_in.Charset.{Charset}
use Rattle.mail_codec.specs.declared.charset.built_in.Charset.TheVariants.{Utf8, Windows1252, Utf16Le, Utf16Be}
use Rattle.mailparse.specs.Body.{text_under_in}
use Rattle.mailparse.specs.ContentType.{default_charset}
use Rattle.mailparse.specs.Mail.{Node}
use Rattle.mail_read.specs.lenient.Content.{Content, message_content}

-- the name of a charset
abbrev pub charset_name : Charset → List ℕ
charset_name Utf8 = codes "utf-8"
charset_name Windows1252 = codes "windows-1252"
charset_name Utf16Le = codes "utf-16le"
charset_name Utf16Be = codes "utf-16be"

-- a label means ASCII, and so does a missing one (RFC 2045, section 5.2): the labels of ASCII in the
-- Encoding Standard, without whitespace around them
unfoldable pub is_default : List ℕ → Bool
is_default label =
    str_eq_ignore_ascii_case (trim label) default_charset
    || str_eq_ignore_ascii_case (trim label) (codes "ascii")
    || str_eq_ignore_ascii_case (trim label) (codes "ansi_x3.4-1968")

-- the charset of bytes under such a label, or under an unknown one: UTF-8 if they are UTF-8,
-- otherwise windows-1252
unfoldable pub charset_by_bytes : List ℕ → Charset
charset_by_bytes bytes = if is_utf8 bytes then Utf8 else Windows1252

-- Under the charsets that are known.
module _ (known : Charsets) where
  -- a label names no charset: it is missing, means ASCII or is unknown
  unfoldable pub names_none : List ℕ → Bool
  names_none label = is_default label || not (is_some (known label))

  -- the text of bytes under a label
  unfoldable pub lenient_text : List ℕ → List ℕ → List ℕ
  lenient_text label bytes =
      if names_none label then marked_text_of (charset_by_bytes bytes) bytes
      else text_under_in known label bytes

  -- the name of the charset in which they are read: of a byte order mark, or the label without
  -- whitespace around it
  unfoldable pub charset_used : List ℕ → List ℕ → List ℕ
  charset_used label bytes =
      option_map_or (λ mark. charset_name mark.0) (mark_at_start bytes)
      (if names_none label then charset_name (charset_by_bytes bytes) else trim label)

-- the text of a body, the charset in which it is read, and whether it is damaged
pub record BodyText : Type 0 where
  pub text : List ℕ
  pub charset : List ℕ
  pub is_damaged : Bool

abbrev pub text_read : Charsets → List ℕ → Content → BodyText
text_read known label content = record {
  text = lenient_text known label content.bytes;
  charset = charset_used known label content.bytes;
  is_damaged = is_some content.fault;
}

-- the same of the body of a message
abbrev pub body_text : Charsets → Node → BodyText
body_text known node = text_read known node.ctype.charset (message_content node)
