-- The text of a mail that is to be read (RFC 2046, sections 4.1 and 5.1.4).
use Rattle.std.specs.Prelude.{ℕ, Bool, true, false, not, ◌&&◌, ◌||◌, List, [], ◌∷◌, find, Option, Some, None, codes, if◌then◌else◌}
use Rattle.std.specs.Str.{bytes_eq}
use Rattle.mail_codec.specs.Charset.{Charsets}
use Rattle.mail_codec.specs.Places.{is_empty}
use Rattle.mailparse.specs.Mail.{Tree, root, trees_within}
use Rattle.mail_read.specs.Attachments.{is_attachment_disposition, is_attachment}
use Rattle.mail_data.specs.Reports.{has_type}
use Rattle.mail_read.specs.lenient.Dispositions.{lenient_disposition}
use Rattle.mail_read.specs.lenient.Shown.{is_undivided}

-- the first of two trees that exists
abbrev pub first_tree : Option Tree → Option Tree → Option Tree
first_tree (Some t) other = Some t
first_tree None other = other

-- the type of a text: an empty type, and `text` alone, are plain text (RFC 2045, section 5.2)
abbrev pub text_type : List ℕ → List ℕ
text_type mimetype =
    if is_empty mimetype || bytes_eq mimetype (codes "text") then codes "text/plain" else mimetype

-- the type as which the body of a message is read: that of its text, but a multipart that has no
-- parts is plain text
abbrev pub text_type_of : Tree → List ℕ
text_type_of t = if is_undivided t then codes "text/plain" else text_type (root t).ctype.mimetype

-- Under the charsets that are known.
module _ (known : Charsets) where
  -- a part is no text: its disposition is `attachment`, or it is a file although a text may not
  -- have a name
  unfoldable pub is_no_text : Bool → Tree → Bool
  is_no_text true t = is_attachment_disposition (lenient_disposition known (root t))
  is_no_text false t = is_attachment known t

  -- a part is a text of this type
  unfoldable pub is_text_of_type : Bool → List ℕ → Tree → Bool
  is_text_of_type may_have_name mimetype t =
      bytes_eq (text_type_of t) mimetype && not (is_no_text may_have_name t)

  -- the first text of this type in a mail; the mail itself comes first, and each part before its
  -- own parts
  unfoldable pub first_text_of_type : Bool → List ℕ → Tree → Option Tree
  first_text_of_type may_have_name mimetype t =
      find (is_text_of_type may_have_name mimetype) (trees_within t)

  -- the first `text/plain`, otherwise the first `text/html`
  unfoldable pub first_text : Bool → Tree → Option Tree
  first_text may_have_name t =
      first_tree (first_text_of_type may_have_name (codes "text/plain") t)
      (first_text_of_type may_have_name (codes "text/html") t)

  -- the text of a part: of a `multipart/alternative` the first plain text in it, otherwise the first
  -- HTML text (RFC 2046, section 5.1.4); any other part that is a text is its own
  unfoldable pub own_text : Bool → Tree → Option Tree
  own_text may_have_name t =
      if has_type (codes "multipart/alternative") (root t) then first_text may_have_name t else
      if is_text_of_type may_have_name (codes "text/plain") t then Some t else
      if is_text_of_type may_have_name (codes "text/html") t then Some t else None

  -- the text of the first of some parts that has one
  abbrev pub first_own_text : Bool → List Tree → Option Tree
  first_own_text may_have_name [] = None
  first_own_text may_have_name (t ∷ ts) =
      first_tree (own_text may_have_name t) (first_own_text may_have_name ts)

  -- the text of the first part of a mail that has one; the mail itself comes first, and each part
  -- before its own parts
  unfoldable pub shown_text : Bool → Tree → Option Tree
  shown_text may_have_name t = first_own_text may_have_name (trees_within t)

  -- the part that is to be read: the first text without a name, otherwise the first with one
  unfoldable pub text_part : Tree → Option Tree
  text_part t = first_tree (shown_text false t) (shown_text true t)
