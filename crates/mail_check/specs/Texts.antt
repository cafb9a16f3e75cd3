-- The bytes of texts that other programs may read as another text; this crate's own words.
use Rattle.std.specs.Prelude.{ℕ, Bool, ◌&&◌, ◌||◌, List, is_some, codes}
use Rattle.mail_codec.specs.Charset.{Charsets, mark_at_start}
use Rattle.mail_codec.specs.Places.{byte_place}
use Rattle.mailparse.specs.Mail.{Node}
use Rattle.mail_read.specs.lenient.Content.{message_content}
use Rattle.mail_check.specs.Charsets.{is_lacking}
use Rattle.mail_check.specs.Lines.{begins_type}

-- bytes that programs read as different texts in any charset: they have a NUL, or begin with a byte order mark
abbrev pub is_binary : List ℕ → Bool
is_binary octets = is_some (byte_place octets 0) || is_some (mark_at_start octets)

-- Under the charsets that are known.
module _ (known : Charsets) where
  -- bytes that programs read as different texts under a label
  abbrev pub is_bad_text : List ℕ → List ℕ → Bool
  is_bad_text label octets = is_binary octets || is_lacking known label octets

  -- the type of a message begins with `text/`, and the bytes of its body, without the transfer encoding, are such
  abbrev pub has_bad_text : Node → Bool
  has_bad_text node =
      begins_type (codes "text/") node.ctype
      && is_bad_text node.ctype.charset (message_content node).bytes
