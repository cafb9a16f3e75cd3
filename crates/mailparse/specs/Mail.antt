-- Reading a message: its header block, its type, its body and its parts, each of which is a message itself (RFC 5322,
-- section 2.1; RFC 2046, section 5.1).
use Rattle.std.specs.Prelude.{ℕ, zero, suc, Bool, false, List, [], ◌∷◌, ◌++◌, length, take, map, ◌&&◌, Option, None, is_none, option_map, Ok, Err, codes, if◌then◌else◌}
use Rattle.std.specs.Option.{option_map_or}
use Rattle.std.specs.Str.{bytes_eq, str_to_ascii_lowercase}
use Rattle.mail_codec.specs.Charset.{Charsets, four_charsets}
use Rattle.mail_codec.specs.Ascii.{line_feed}
use Rattle.mail_codec.specs.Places.{byte_place, has_prefix}
use Rattle.mailparse.specs.Refusal.{◌>>=◌, recursion_limit, Reads}
use Rattle.mailparse.specs.Header.{Header}
use Rattle.mailparse.specs.Block.{HeaderList, read_block}
use Rattle.mailparse.specs.ContentType.{ContentType, default_type, content_type_in}
use Rattle.mailparse.specs.Manner.{Manner}
use Rattle.mailparse.specs.Disposition.{Disposition, disposition_in, default_disposition}
use Rattle.mailparse.specs.Delimiters.{Cut, cut_parts_as}
use Rattle.mailparse.specs.Body.{BodyKind, kind_named, decoded, decoded_text_in}
use Rattle.mailparse.specs.Map.{first_with_key, first_value, first_value_in}
use Rattle.mailparse.specs.Ranges.{slice}
use Rattle.mailparse.specs.Value.{lenient_value_in}

-- a header block: its bytes, including the blank line, and its headers
pub record HeaderBlock : Type 0 where
  pub bytes : List ℕ
  pub headers : List Header

-- one message without its parts: all its bytes, those of its block with the blank line, its headers, its type, and its body
pub record Node : Type 0 where
  pub bytes : List ℕ
  pub block : List ℕ
  pub headers : List Header
  pub ctype : ContentType
  pub body : List ℕ

-- the header block of a message
abbrev pub block_of : Node → HeaderBlock
block_of node = record { bytes = node.block; headers = node.headers }

-- the transfer encoding of a message's body: that named by its first `Content-Transfer-Encoding`, in lower case
abbrev pub body_kind : Node → BodyKind
body_kind node = kind_named (option_map str_to_ascii_lowercase (first_value (codes "Content-Transfer-Encoding") node.headers))

-- the decoded bytes of the body of a message
abbrev pub body_bytes : Node → Reads (List ℕ)
body_bytes node = decoded (body_kind node) node.body

-- Under the charsets that are known.
module _ (known : Charsets) where
  -- the text of the body of a message, in the charset of its type
  abbrev pub body_text_in : Node → Reads (List ℕ)
  body_text_in node = decoded_text_in known (body_kind node) node.ctype.charset node.body

  -- how a message is to be shown: the disposition in its first `Content-Disposition`, otherwise `inline`
  abbrev pub shown_as_in : Node → Disposition
  shown_as_in node =
      option_map_or (disposition_in known) (first_value_in known (codes "Content-Disposition") node.headers) default_disposition

-- the same under the four charsets
abbrev pub body_text : Node → Reads (List ℕ)
body_text node = body_text_in four_charsets node

abbrev pub shown_as : Node → Disposition
shown_as node = shown_as_in four_charsets node

-- a message and its parts, in order, each with its own parts
mutual
  pub data Tree : Type 0 where
    tree : Node → Forest → Tree

  pub data Forest : Type 0 where
    no_parts : Forest
    part_and : Tree → Forest → Forest

-- the message itself
abbrev pub root : Tree → Node
root (tree node parts) = node

-- its parts
abbrev pub parts_of : Tree → Forest
parts_of (tree node parts) = parts

-- the parts of a list
abbrev pub forest : List Tree → Forest
forest [] = no_parts
forest (t ∷ ts) = part_and t (forest ts)

-- a message, then its parts, each before its own parts (preorder)
abbrev mutual
  pub trees_within : Tree → List Tree
  trees_within (tree node parts) = tree node parts ∷ trees_in parts

  -- the same for each of some parts
  pub trees_in : Forest → List Tree
  trees_in no_parts = []
  trees_in (part_and t ts) = trees_within t ++ trees_in ts

-- the same without their parts
abbrev pub nodes : Tree → List Node
nodes t = map root (trees_within t)

-- the default type of a part: a message in a digest, otherwise plain text
abbrev pub part_type : Bool → ContentType
part_type in_digest = if in_digest then record default_type { mimetype = codes "message/rfc822" } else default_type

-- the default type of the parts is a message
abbrev pub is_digest : ContentType → Bool
is_digest ctype = bytes_eq ctype.mimetype (codes "multipart/digest")

-- the dash-boundary of this type, if it may have parts: `--` and the boundary
abbrev pub dash_boundary_of : ContentType → Option (List ℕ)
dash_boundary_of ctype =
    if has_prefix (codes "multipart") ctype.mimetype
    then option_map (λ boundary. codes "--" ++ boundary) (ctype.params (codes "boundary"))
    else None

-- whole lines are asked for, but only of a dash-boundary without a LF
abbrev pub whole_lines_for : Bool → List ℕ → Bool
whole_lines_for whole dash_boundary = whole && is_none (byte_place dash_boundary line_feed)

-- how a message of this type is split whose body starts at i: at its delimiters; without a dash-boundary the body is all that follows
abbrev pub cut_of_as : Bool → ContentType → List ℕ → ℕ → Cut
cut_of_as whole ctype bytes i =
    option_map_or (λ dash_boundary. cut_parts_as (whole_lines_for whole dash_boundary) dash_boundary bytes i) (dash_boundary_of ctype)
    (record { body = record { start = i; end = length bytes }; parts = [] })

-- the same if whole lines are not asked for
abbrev pub cut_of : ContentType → List ℕ → ℕ → Cut
cut_of ctype bytes i = cut_of_as false ctype bytes i

-- the message with this block and this type that is split this way
abbrev pub node_with : List ℕ → HeaderList → ContentType → Cut → Node
node_with bytes block ctype cut = record {
  bytes = bytes;
  block = take block.index bytes;
  headers = block.headers;
  ctype = ctype;
  body = slice bytes cut.body;
}

-- the readings of all parts, in order; the first refusal refuses all
abbrev pub read_each : (List ℕ → Reads Tree) → List (List ℕ) → Reads Forest
read_each read [] = Ok no_parts
read_each read (part ∷ parts) = do
  first ← read part
  others ← read_each read parts
  Ok (part_and first others)

-- Under the charsets that are known.
module _ (known : Charsets) where
  -- the type of a message with these headers: that in its first `Content-Type`, otherwise the default type of a part
  unfoldable pub node_type : Bool → List Header → ContentType
  node_type in_digest headers =
      option_map_or (λ h. content_type_in known (lenient_value_in known h.value))
      (first_with_key (codes "Content-Type") headers) (part_type in_digest)

  -- the manner of the port
  abbrev pub strict : Manner
  strict = record { type_of = node_type; keeps_refused = false; whole_lines = false; lenient_headers = false }

-- a refused message that is kept: plain text without headers, with all its bytes as its body
abbrev pub kept_message : List ℕ → Tree
kept_message bytes = tree (record { bytes = bytes; block = []; headers = []; ctype = default_type; body = bytes }) no_parts

-- the reading of these bytes, or the message that is kept if they are refused
abbrev pub kept_if_refused : List ℕ → Reads Tree → Reads Tree
kept_if_refused bytes (Ok t) = Ok t
kept_if_refused bytes (Err refusal) = Ok (kept_message bytes)

-- In this manner.
module _ (manner : Manner) where
  -- the same if refused messages are kept, otherwise the reading itself
  abbrev pub or_kept : List ℕ → Reads Tree → Reads Tree
  or_kept bytes reading = if manner.keeps_refused then kept_if_refused bytes reading else reading

  -- the message with this block and this type; `read` reads its parts, and is given whether it is a digest
  abbrev pub read_parts : (Bool → List ℕ → Reads Tree) → List ℕ → HeaderList → ContentType → Reads Tree
  read_parts read bytes block ctype = do
    let cut = cut_of_as manner.whole_lines ctype bytes block.index
    parts ← read_each (read (is_digest ctype)) (map (slice bytes) cut.parts)
    Ok (tree (node_with bytes block ctype cut) parts)

  -- the message in the bytes, if its own level is left; `read` reads its parts
  abbrev pub read_message : (Bool → List ℕ → Reads Tree) → Bool → List ℕ → Reads Tree
  read_message read in_digest bytes = do
    block ← read_block manner.lenient_headers bytes
    read_parts read bytes block (manner.type_of in_digest block.headers)

  -- the message in the bytes, with at most `levels` levels, including its own; it is refused if that is 0, otherwise for its own
  -- headers, otherwise for the first of its parts that is refused
  unfoldable pub read_levels : ℕ → Bool → List ℕ → Reads Tree
  read_levels zero in_digest bytes = or_kept bytes (Err recursion_limit)
  read_levels (suc levels) in_digest bytes = or_kept bytes (read_message (read_levels levels) in_digest bytes)

  -- the message in the bytes, with parts down to a greatest level; the message itself is at level 0
  abbrev pub read_mail_as : ℕ → List ℕ → Reads Tree
  read_mail_as greatest bytes = read_levels (suc greatest) false bytes

-- the same in the manner of the port, under the charsets that are known
unfoldable pub read_mail_in : Charsets → ℕ → List ℕ → Reads Tree
read_mail_in known greatest bytes = read_mail_as (strict known) greatest bytes

-- the message in the bytes, with parts down to level 100, or the first refusal
unfoldable pub read_mail : List ℕ → Reads Tree
read_mail bytes = read_mail_in four_charsets 100 bytes
