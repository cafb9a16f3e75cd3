-- The names of the files that a mail carries (RFC 2183, section 2.3; RFC 2046, section 5.2.1), and
-- the paths of its parts (RFC 3501, section 6.4.5). The reading of a name in an unknown charset (RFC
-- 2231, section 4) is the crate's own rule.
use Rattle.std.specs.Prelude.{ℕ, suc, Bool, true, false, not, ◌&&◌, ◌||◌, List, [], ◌∷◌, ◌++◌, Option, Some, None, option_map, codes, decimal, if◌then◌else◌}
use Rattle.std.specs.List.{after_first, list_any}
use Rattle.std.specs.Str.{bytes_eq, is_utf8, trim}
use Rattle.mail_codec.specs.Charset.{Charsets, text_of}
use Rattle.mail_codec.specs.Places.{is_empty}
use Rattle.mailparse.specs.ContentType.{ContentType}
use Rattle.mailparse.specs.Disposition.{Disposition}
use Rattle.mailparse.specs.ExtendedValues.{is_apostrophe, text_in}
use Rattle.mailparse.specs.Mail.{Node, Tree, Forest, tree, no_parts, part_and}
use Rattle.mailparse.specs.Pairs.{Texts}
use Rattle.mail_read.specs.lenient.Refused.{was_kept}
use Rattle.mail_codec.specs.declared.charset.built_in.Charset.TheVariants.{Windows1252}
use Rattle.percent_encoding.specs.Percent.{percent_decode}

-- no charset is known: encoded words stay as they are
abbrev pub no_charsets : Charsets
no_charsets label = None

-- the first of two texts that is there
abbrev pub first_text : Option (List ℕ) → Option (List ℕ) → Option (List ℕ)
first_text (Some text) other = Some text
first_text None other = other

-- a text that is there and does not consist of whitespace
abbrev pub filled : Option (List ℕ) → Option (List ℕ)
filled None = None
filled (Some text) = if is_empty (trim text) then None else Some text

-- an extended value without its charset and its language: the text after its second apostrophe, or
-- the whole value if it has fewer than two
unfoldable pub untagged : List ℕ → List ℕ
untagged value =
    if list_any is_apostrophe (after_first is_apostrophe value) then text_in value else value

-- the text of bytes in an unknown charset: in UTF-8 if they are UTF-8, otherwise in windows-1252
unfoldable pub text_of_octets : List ℕ → List ℕ
text_of_octets bytes = if is_utf8 bytes then bytes else text_of Windows1252 bytes

-- the text of an extended value in an unknown charset
unfoldable pub left_over_text : List ℕ → List ℕ
left_over_text value = text_of_octets (percent_decode (untagged value))

-- the name among parameters: the text of one key, otherwise the value that is left over at its
-- extended key; whitespace counts as missing
abbrev pub name_among : Texts → List ℕ → List ℕ → Option (List ℕ)
name_among params key extended =
    first_text (filled (params key)) (filled (option_map left_over_text (params extended)))

-- the `filename` of a disposition, and the `name` of a type
abbrev pub shown_name : Disposition → Option (List ℕ)
shown_name disposition =
    name_among disposition.params (codes "filename") (codes "filename*")

abbrev pub typed_name : ContentType → Option (List ℕ)
typed_name ctype = name_among ctype.params (codes "name") (codes "name*")

-- the file name in a disposition and a type: that of the first, otherwise that of the second
abbrev pub name_in : Disposition → ContentType → Option (List ℕ)
name_in disposition ctype = first_text (shown_name disposition) (typed_name ctype)

-- a message has no parts; a forwarded message has no parts, since it is not parsed
abbrev pub is_leaf : Tree → Bool
is_leaf (tree node no_parts) = true
is_leaf (tree node (part_and t ts)) = false

-- a type is that of a text that mail readers show: plain text, including `text` without a subtype
-- and an empty type, or HTML
abbrev pub is_shown_type : List ℕ → Bool
is_shown_type mimetype =
    is_empty mimetype
    || bytes_eq mimetype (codes "text/plain")
    || bytes_eq mimetype (codes "text/html")
    || bytes_eq mimetype (codes "text")

-- a message is such a text, and was not kept although its headers could not be read: it may be a
-- file then
abbrev pub is_shown : Node → Bool
is_shown node = not (was_kept node) && is_shown_type node.ctype.mimetype

-- the path of the part with this number in the message with this path: the numbers from the
-- outermost, separated by dots
unfoldable pub path_under : List ℕ → ℕ → List ℕ
path_under [] number = decimal number
path_under (c ∷ path) number = (c ∷ path) ++ (codes "." ++ decimal number)

-- a message with its path, and then its parts with theirs, each before its own parts
abbrev mutual
  pub with_paths : List ℕ → Tree → List (List ℕ × Tree)
  with_paths path (tree node parts) = (path, tree node parts) ∷ parts_with_paths path 1 parts

  -- the same of some parts, the first of which has this number
  pub parts_with_paths : List ℕ → ℕ → Forest → List (List ℕ × Tree)
  parts_with_paths path number no_parts = []
  parts_with_paths path number (part_and t ts) =
      with_paths (path_under path number) t ++ parts_with_paths path (suc number) ts

-- the path of a whole message: that of its body if it has no parts
abbrev pub whole_path : Tree → List ℕ
whole_path t = if is_leaf t then codes "1" else []
