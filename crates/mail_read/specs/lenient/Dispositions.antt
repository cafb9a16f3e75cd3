-- Dispositions, read leniently: RFC 2183, section 2. Comments in them are left out (RFC 2045, section
-- 5.1); that they are read in the text that people see is the crate's own rule.
use Rattle.std.specs.Prelude.{ℕ, List, Option, option_map, codes}
use Rattle.mail_codec.specs.Charset.{Charsets}
use Rattle.mailparse.specs.Disposition.{Kind, disposition_of}
use Rattle.mailparse.specs.Mail.{Node}
use Rattle.mail_read.specs.lenient.Comments.{without_comments}
use Rattle.mail_read.specs.lenient.Values.{first_header_text}

-- the kind of the disposition in a text: that of the text without its comments
unfoldable pub lenient_kind : List ℕ → Kind
lenient_kind text = (disposition_of (without_comments text)).kind

-- the kind of the disposition of a message: that in the text of its first `Content-Disposition`, if
-- it has one
unfoldable pub lenient_disposition : Charsets → Node → Option Kind
lenient_disposition known node =
    option_map lenient_kind (first_header_text known (codes "Content-Disposition") node.headers)
