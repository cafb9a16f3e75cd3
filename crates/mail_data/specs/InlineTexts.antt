-- The texts of a mail that are read one after another (RFC 2046, sections 5.1.3 and 5.1.4).
use Rattle.std.specs.Prelude.{ℕ, suc, Bool, ◌||◌, List, [], ◌∷◌, ◌++◌, flat_map, Option, Some, None, option_and_then, codes, if◌then◌else◌}
use Rattle.mail_codec.specs.Charset.{Charsets}
use Rattle.mailparse.specs.Mail.{Tree, Forest, tree, no_parts, part_and, root}
use Rattle.mail_html.specs.declared.links.Links.{Links}
use Rattle.mail_html.specs.declared.references.References.{References}
use Rattle.mail_read.specs.Attachments.{is_attachment}
use Rattle.mail_read.specs.Files.{is_leaf, path_under, whole_path}
use Rattle.mail_data.specs.Readable.{if_text, readable_text}
use Rattle.mail_data.specs.Reports.{has_type}
use Rattle.mail_read.specs.lenient.Texts.{BodyText}

-- a text to be read, and the path of the part that it is the text of
pub record InlineText : Type 0 where
  pub path : List ℕ
  pub read : BodyText

-- a part has one text: it has no parts, or its parts are alternatives of each other
abbrev pub has_one_text : Tree → Bool
has_one_text t = is_leaf t || has_type (codes "multipart/alternative") (root t)

-- the parts of a message with this path that have one text each, with their paths, in order
abbrev mutual
  pub text_parts : List ℕ → Tree → List (List ℕ × Tree)
  text_parts path (tree node parts) =
      if has_one_text (tree node parts) then (path, tree node parts) ∷ []
      else text_parts_in path 1 parts

  -- the same of some parts, the first of which has this number
  pub text_parts_in : List ℕ → ℕ → Forest → List (List ℕ × Tree)
  text_parts_in path number no_parts = []
  text_parts_in path number (part_and t ts) =
      text_parts (path_under path number) t ++ text_parts_in path (suc number) ts

-- a text of the part with this path, if there is one
abbrev pub text_at : List ℕ → Option BodyText → List InlineText
text_at path None = []
text_at path (Some read) = record { path = path; read = read } ∷ []

-- texts, or if there are none, these
abbrev pub or_these : List InlineText → List InlineText → List InlineText
or_these [] others = others
or_these (text ∷ texts) others = text ∷ texts

-- Under the charsets that are known.
module _ (known : Charsets) where
  -- the text to be read of a part that is no file, unless it consists of whitespace
  unfoldable pub inline_text : Links → References → Tree → Option BodyText
  inline_text links references t =
      if is_attachment known t then None
      else option_and_then if_text (readable_text known links references t)

  -- those of some parts, with their paths
  abbrev pub texts_among : Links → References → List (List ℕ × Tree) → List InlineText
  texts_among links references parts =
      flat_map (λ (m : List ℕ × Tree). text_at m.0 (inline_text links references m.1)) parts

  -- the texts of a mail that are read one after another; without any, the text to be read of the
  -- mail, if it has one
  unfoldable pub inline_texts : Links → References → Tree → List InlineText
  inline_texts links references t =
      or_these (texts_among links references (text_parts (whole_path t) t))
      (text_at (whole_path t) (readable_text known links references t))
