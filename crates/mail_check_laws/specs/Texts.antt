-- The texts of strict messages, without the transfer encoding. Which bytes these are, this takes from the decoding of the body.
use Rattle.std.specs.Prelude.{◌≡◌, ℕ, true, not, ◌&&◌, ◌==◌, List, codes}
use Rattle.std.specs.List.{list_all}
use Rattle.mail_codec.specs.Charset.{Charsets}
use Rattle.mail_codec.specs.Places.{has_prefix}
use Rattle.mail_read.specs.Files.{is_leaf}
use Rattle.mail_read.specs.lenient.Content.{message_content}
use Rattle.mailparse.specs.Mail.{Tree, root}
use Rattle.mail_check_laws.specs.Charsets.{HasNoMark, IsInCharset}

-- bytes of a text under a label: no byte is NUL, they begin with no byte order mark, and the charset has them
pub record IsReadableText (known : Charsets) (label octets : List ℕ) : Type 0 where
  pub no_nul : list_all (λ b. not (b == 0)) octets ≡ true
  pub mark : HasNoMark octets
  pub charset : IsInCharset known label octets

-- the text of a message, if that has no parts and its type begins with `text/`
pub record HasStrictText (known : Charsets) (t : Tree) : Type 0 where
  pub readable : (is_leaf t && not (has_prefix (codes "multipart") (root t).ctype.mimetype)) ≡ true
      → has_prefix (codes "text/") (root t).ctype.mimetype ≡ true
      → IsReadableText known (root t).ctype.charset (message_content (root t)).bytes
