-- The text to be read of a mail: plain text, or the text of its HTML.
use Rattle.std.specs.Prelude.{ℕ, Bool, false, not, List, [], ◌∷◌, Option, Some, None, option_map, codes, if◌then◌else◌}
use Rattle.std.specs.Option.{option_or, unwrap_or}
use Rattle.std.specs.Str.{bytes_eq, trim}
use Rattle.mail_codec.specs.Charset.{Charsets}
use Rattle.mail_codec.specs.Places.{is_empty}
use Rattle.mailparse.specs.ContentType.{ContentType}
use Rattle.mailparse.specs.Mail.{Node, Tree, root, trees_within}
use Rattle.mail_html.specs.Text.{html_text}
use Rattle.mail_html.specs.declared.links.Links.{Links}
use Rattle.mail_html.specs.declared.references.References.{References}
use Rattle.mail_data.specs.Texts.{is_text_of_type, text_part}
use Rattle.mail_read.specs.lenient.Texts.{BodyText, body_text}

-- the text of a body of this type as it is read: that of HTML, or itself
unfoldable pub readable_of : Links → References → ContentType → List ℕ → List ℕ
readable_of links references ctype text =
    if bytes_eq ctype.mimetype (codes "text/html") then html_text links references text else text

-- a text has a character that is not whitespace
abbrev pub has_text : BodyText → Bool
has_text read = not (is_empty (trim read.text))

-- a text, if it has such a character
abbrev pub if_text : BodyText → Option BodyText
if_text read = if has_text read then Some read else None

-- Under the charsets that are known.
module _ (known : Charsets) where
  -- the text of a part as it is read
  unfoldable pub part_text : Links → References → Node → BodyText
  part_text links references node =
      let read = body_text known node in
      record read { text = readable_of links references node.ctype read.text }

  -- the text of an HTML part that is not a file, if it has one
  unfoldable pub html_part_text : Links → References → Tree → Option BodyText
  html_part_text links references t =
      if is_text_of_type known false (codes "text/html") t
      then if_text (part_text links references (root t)) else None

  -- that of the first of some parts that has one
  abbrev pub first_html_text : Links → References → List Tree → Option BodyText
  first_html_text links references [] = None
  first_html_text links references (t ∷ ts) =
      option_or (html_part_text links references t) (first_html_text links references ts)

  -- the text of a part of a mail, or if this consists of whitespace, that of the first HTML part of
  -- the mail that has one
  unfoldable pub text_or_html : Links → References → Tree → BodyText → BodyText
  text_or_html links references t read =
      if has_text read then read
      else unwrap_or (first_html_text links references (trees_within t)) read

  -- the text to be read of a mail, if it has one
  unfoldable pub readable_text : Links → References → Tree → Option BodyText
  readable_text links references t =
      option_map (λ part. text_or_html links references t (part_text links references (root part)))
      (text_part known t)
