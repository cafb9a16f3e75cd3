-- Outlines of messages: their written bytes, when they are well formed, and the messages that they represent. The form is that of RFC
-- 5322, section 2.1 (headers, a blank line, a body), and of RFC 2046, section 5.1.1 (a delimiter before each part, and the close-delimiter);
-- which outlines are well formed is the project's own rule.
use Rattle.std.specs.Prelude.{◌≡◌, ◌⊎◌, ℕ, suc, max, Bool, true, false, ◌&&◌, not, ◌||◌, ◌==◌, nat_le, List, [], ◌∷◌, ◌++◌, map, Option, is_some, codes, find, flat_map, if◌then◌else◌}
use Rattle.std.specs.Char.{is_ascii_alphanumeric, is_ascii_graphic}
use Rattle.std.specs.List.{list_all}
use Rattle.std.specs.Option.{option_map_or}
use Rattle.std.specs.Str.{bytes_eq, is_utf8, str_eq_ignore_ascii_case, str_to_ascii_lowercase}
use Rattle.mail_codec.specs.Ascii.{line_feed, colon}
use Rattle.mail_codec.specs.Charset.{Charsets}
use Rattle.mail_codec.specs.Places.{is_empty, has_prefix, text_place}
use Rattle.mail_codec.specs.QuotedPrintable.{cr_lf}
use Rattle.mailparse.specs.Header.{Header}
use Rattle.mailparse.specs.ContentType.{ContentType, content_type_in, default_type}
use Rattle.mailparse.specs.Mail.{Node, Tree, tree, Forest, no_parts, part_and}
use Rattle.mailparse.specs.Pairs.{value_of}
use Rattle.mailparse.specs.Value.{lenient_value_in}
use Rattle.mail_laws.specs.Boundaries.{boundary_type}
use Rattle.mail_address.specs.Encode.{KnowUtf8, is_plain_value, written_value}

-- an outline of a message: its headers, each a key and the text of a value, and its body; or its headers, the boundary of its parts, and the
-- parts, each an outline of its own
mutual
  pub data OutlineTree : Type 0 where
    leaf : List Header → List ℕ → OutlineTree
    branch : List Header → List ℕ → OutlineForest → OutlineTree

  pub data OutlineForest : Type 0 where
    no_outlines : OutlineForest
    outline_and : OutlineTree → OutlineForest → OutlineForest

-- the outlines of a list
abbrev pub forest_of : List OutlineTree → OutlineForest
forest_of [] = no_outlines
forest_of (o ∷ os) = outline_and o (forest_of os)

-- the headers of the outline itself
abbrev pub headers_of : OutlineTree → List Header
headers_of (leaf headers body) = headers
headers_of (branch headers boundary parts) = headers

-- ---- the written bytes of an outline

-- a value: a text by `written_value`, and bytes that are not UTF-8 as they are
abbrev pub written_bytes : List ℕ → List ℕ
written_bytes value = if is_utf8 value then written_value value else value

-- a header with its value as it is written
abbrev pub written_header : Header → Header
written_header h = record { key = h.key; value = written_bytes h.value }

-- headers with their values as they are written, in order
abbrev pub written_headers : List Header → List Header
written_headers headers = map written_header headers

-- a header with its written value: its key, `: `, its value and CR LF
abbrev pub header_line : Header → List ℕ
header_line h = h.key ++ (codes ": " ++ (h.value ++ cr_lf))

-- the header block of such headers: each in order, and then the blank line
abbrev pub header_block : List Header → List ℕ
header_block headers = flat_map header_line headers ++ cr_lf

-- the dash-boundary: `--` and the boundary
abbrev pub dash_boundary : List ℕ → List ℕ
dash_boundary boundary = codes "--" ++ boundary

-- an outline: its header block, and then its body or its parts
abbrev mutual
  pub rendered : OutlineTree → List ℕ
  rendered (leaf headers body) = header_block (written_headers headers) ++ body
  rendered (branch headers boundary parts) = header_block (written_headers headers) ++ rendered_parts boundary parts

  -- for each part the dash-boundary, CR LF, the part and CR LF; at the end the dash-boundary, `--` and CR LF
  pub rendered_parts : List ℕ → OutlineForest → List ℕ
  rendered_parts boundary no_outlines = dash_boundary boundary ++ (codes "--" ++ cr_lf)
  rendered_parts boundary (outline_and part parts) =
      dash_boundary boundary ++ (cr_lf ++ (rendered part ++ (cr_lf ++ rendered_parts boundary parts)))

-- ---- the eight conditions of a well-formed outline

-- a printable byte of ASCII other than a space or a colon (RFC 5322, section 2.2)
abbrev pub is_key_byte : ℕ → Bool
is_key_byte b = is_ascii_graphic b && not (b == colon)

-- one such byte or more
abbrev pub is_key : List ℕ → Bool
is_key key = list_all is_key_byte key && not (is_empty key)

-- 1. each key is that
abbrev pub has_keys : OutlineTree → Bool
has_keys outline = list_all (λ h. is_key h.key) (headers_of outline)

-- 2. each value is UTF-8
abbrev pub has_texts : OutlineTree → Bool
has_texts outline = list_all (λ h. is_utf8 h.value) (headers_of outline)

-- the key is `Content-Type`, ignoring ASCII case
abbrev pub has_type_key : Header → Bool
has_type_key h = str_eq_ignore_ascii_case h.key (codes "Content-Type")

-- the first header with that key, if there is one
abbrev pub type_header : List Header → Option Header
type_header headers = find has_type_key headers

-- 3. a branch has that header, and its value is exactly `multipart/mixed; boundary=` and the boundary
abbrev pub names_its_boundary : OutlineTree → Bool
names_its_boundary (leaf headers body) = true
names_its_boundary (branch headers boundary parts) =
    option_map_or (λ h. bytes_eq h.value (boundary_type boundary)) (type_header headers) false

-- 4. a boundary is one or more letters and digits of ASCII
abbrev pub has_plain_boundary : OutlineTree → Bool
has_plain_boundary (leaf headers body) = true
has_plain_boundary (branch headers boundary parts) = list_all is_ascii_alphanumeric boundary && not (is_empty boundary)

-- the mimetype that a text names: the text before its first semicolon outside of quotes, without whitespace around it, in lower case
abbrev pub mimetype_of : List ℕ → List ℕ
mimetype_of text = str_to_ascii_lowercase (value_of text)

-- 5. in a leaf, the mimetype of the first `Content-Type`, if there is one, does not begin with `multipart`
abbrev pub is_not_multipart : OutlineTree → Bool
is_not_multipart (leaf headers body) =
    option_map_or (λ h. not (has_prefix (codes "multipart") (mimetype_of h.value))) (type_header headers) true
is_not_multipart (branch headers boundary parts) = true

-- 6. a branch has one part or more
abbrev pub has_some_part : OutlineTree → Bool
has_some_part (leaf headers body) = true
has_some_part (branch headers boundary no_outlines) = false
has_some_part (branch headers boundary (outline_and part parts)) = true

-- the dash-boundary is at the start of the bytes or after a LF in them
abbrev pub contains_delimiter : List ℕ → List ℕ → Bool
contains_delimiter boundary bytes =
    has_prefix (dash_boundary boundary) bytes || is_some (text_place bytes (line_feed ∷ dash_boundary boundary))

-- no part, as it is written, contains a delimiter
abbrev pub contain_no_delimiter : List ℕ → OutlineForest → Bool
contain_no_delimiter boundary no_outlines = true
contain_no_delimiter boundary (outline_and part parts) =
    not (contains_delimiter boundary (rendered part)) && contain_no_delimiter boundary parts

-- 7. no part of a branch contains a delimiter
abbrev pub has_clear_parts : OutlineTree → Bool
has_clear_parts (leaf headers body) = true
has_clear_parts (branch headers boundary parts) = contain_no_delimiter boundary parts

-- the greatest level of an outline: this one is at level 0, its parts at level 1, and so on
abbrev mutual
  pub depth : OutlineTree → ℕ
  depth (leaf headers body) = 0
  depth (branch headers boundary parts) = depth_of_parts parts

  -- the same of the parts of an outline
  pub depth_of_parts : OutlineForest → ℕ
  depth_of_parts no_outlines = 0
  depth_of_parts (outline_and part parts) = max (suc (depth part)) (depth_of_parts parts)

-- 8. no outline is at a level above 100
abbrev pub is_within_levels : OutlineTree → Bool
is_within_levels outline = nat_le (depth outline) 100

-- the first seven, of an outline by itself
abbrev pub is_well_formed_here : OutlineTree → Bool
is_well_formed_here outline =
    has_keys outline && (has_texts outline && (names_its_boundary outline && (has_plain_boundary outline
    && (is_not_multipart outline && (has_some_part outline && has_clear_parts outline)))))

-- the same, of an outline and of every outline inside it
abbrev mutual
  pub is_well_formed_within : OutlineTree → Bool
  is_well_formed_within (leaf headers body) = is_well_formed_here (leaf headers body)
  is_well_formed_within (branch headers boundary parts) =
      is_well_formed_here (branch headers boundary parts) && are_well_formed_within parts

  -- the same of each part
  pub are_well_formed_within : OutlineForest → Bool
  are_well_formed_within no_outlines = true
  are_well_formed_within (outline_and part parts) = is_well_formed_within part && are_well_formed_within parts

-- an outline is well formed: all eight hold
abbrev pub well_formed : OutlineTree → Bool
well_formed outline = is_well_formed_within outline && is_within_levels outline

abbrev pub IsWellFormed : OutlineTree → Type 0
IsWellFormed outline = well_formed outline ≡ true

-- ---- the message that an outline represents

-- the type: that of the first `Content-Type`, and without one plain text
abbrev pub type_of : Charsets → List Header → ContentType
type_of known headers = option_map_or (λ h. content_type_in known h.value) (type_header headers) default_type

-- a message of these bytes, with these headers, each with its value as it is written, and this body
abbrev pub node_of : Charsets → List ℕ → List Header → List ℕ → Node
node_of known bytes headers body = record {
  bytes = bytes;
  block = header_block (written_headers headers);
  headers = written_headers headers;
  ctype = type_of known headers;
  body = body;
}

-- the message that an outline represents: its headers, its body, which is empty in a branch, and its parts in order
abbrev mutual
  pub stands_for : Charsets → OutlineTree → Tree
  stands_for known (leaf headers body) = tree (node_of known (rendered (leaf headers body)) headers body) no_parts
  stands_for known (branch headers boundary parts) =
      tree (node_of known (rendered (branch headers boundary parts)) headers []) (stand_for known parts)

  -- the messages that the parts represent
  pub stand_for : Charsets → OutlineForest → Forest
  stand_for known no_outlines = no_parts
  stand_for known (outline_and part parts) = part_and (stands_for known part) (stand_for known parts)

-- ---- the texts of its headers

-- no value of the outline itself is written as encoded words
abbrev pub has_plain_values : OutlineTree → Bool
has_plain_values outline = list_all (λ h. is_plain_value h.value) (headers_of outline)

-- the same of the outline and of every outline inside it
abbrev mutual
  pub is_plain_within : OutlineTree → Bool
  is_plain_within (leaf headers body) = has_plain_values (leaf headers body)
  is_plain_within (branch headers boundary parts) = has_plain_values (branch headers boundary parts) && are_plain_within parts

  -- the same of each part
  pub are_plain_within : OutlineForest → Bool
  are_plain_within no_outlines = true
  are_plain_within (outline_and part parts) = is_plain_within part && are_plain_within parts

-- the charsets know the words that an outline is written with: they know UTF-8 by its label, or no value is written as encoded words
abbrev pub KnowItsWords : Charsets → OutlineTree → Type 0
KnowItsWords known outline = KnowUtf8 known ⊎ (is_plain_within outline ≡ true)

-- a header with the text that its value shows
abbrev pub shown_header : Charsets → Header → Header
shown_header known h = record { key = h.key; value = lenient_value_in known h.value }

-- the headers of an outline and of every outline inside it, each outline before its parts
abbrev mutual
  pub headers_within : OutlineTree → List (List Header)
  headers_within (leaf headers body) = headers ∷ []
  headers_within (branch headers boundary parts) = headers ∷ headers_in parts

  -- the headers of each part
  pub headers_in : OutlineForest → List (List Header)
  headers_in no_outlines = []
  headers_in (outline_and part parts) = headers_within part ++ headers_in parts
