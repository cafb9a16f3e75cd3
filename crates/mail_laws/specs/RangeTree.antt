-- The tree of a message as ranges of the mail: those of the message and of each of its parts, and in each those of its header block with the
-- blank line, of the keys and values of its headers, and of its body. All places are counted from the first byte of the mail.
use Rattle.std.specs.Prelude.{◌≡◌, ℕ, zero, suc, ◌<◌, ◌≤◌, Bool, false, List, [], ◌∷◌, ◌++◌, length, map, Ok, Err, if◌then◌else◌}
use Rattle.std.specs.List.{flat_map}
use Rattle.mail_codec.specs.Charset.{Charsets}
use Rattle.mail_codec.specs.Places.{values_below}
use Rattle.mailparse.specs.Refusal.{◌>>=◌, recursion_limit, Reads}
use Rattle.mailparse.specs.Header.{Header}
use Rattle.mailparse.specs.Block.{HeaderList, header_count, header_part, read_block}
use Rattle.mailparse.specs.ContentType.{ContentType, default_type}
use Rattle.mailparse.specs.Manner.{Manner}
use Rattle.mailparse.specs.Delimiters.{Cut}
use Rattle.mailparse.specs.Mail.{Node, Tree, tree, Forest, no_parts, part_and, cut_of_as, is_digest, strict}
use Rattle.mailparse.specs.Placement.{Placement}
use Rattle.mailparse.specs.Ranges.{Range, Apart, moved, slice}
use Rattle.mail_laws.specs.Spans.{key_range_as, value_range}

-- the ranges of the key and the value of a header
pub record HeaderRanges : Type 0 where
  pub key : Range
  pub value : Range

-- one message without its parts: its range, with its block, its headers, its type and its body
pub record RangeNode : Type 0 where
  pub whole : Range
  pub block : Range
  pub headers : List HeaderRanges
  pub ctype : ContentType
  pub body : Range

-- a message and its parts, in order, each with its own parts
mutual
  pub data RangeTree : Type 0 where
    range_tree : RangeNode → RangeForest → RangeTree

  pub data RangeForest : Type 0 where
    no_ranges : RangeForest
    ranges_and : RangeTree → RangeForest → RangeForest

-- the message itself
abbrev pub range_root : RangeTree → RangeNode
range_root (range_tree node parts) = node

-- ---- the bytes of the ranges

-- In a mail.
module _ (mail : List ℕ) where
  -- the header at these ranges
  abbrev pub header_there : HeaderRanges → Header
  header_there header = record { key = slice mail header.key; value = slice mail header.value }

  -- the message at these ranges, without its parts
  abbrev pub node_there : RangeNode → Node
  node_there node = record {
    bytes = slice mail node.whole;
    block = slice mail node.block;
    headers = map header_there node.headers;
    ctype = node.ctype;
    body = slice mail node.body;
  }

  abbrev mutual
    -- the message and its parts
    pub tree_there : RangeTree → Tree
    tree_there (range_tree node parts) = tree (node_there node) (forest_there parts)

    -- the same of each of some parts
    pub forest_there : RangeForest → Forest
    forest_there no_ranges = no_parts
    forest_there (ranges_and t ts) = part_and (tree_there t) (forest_there ts)

-- the tree at the ranges, if they were read
abbrev pub read_there : List ℕ → Reads RangeTree → Reads Tree
read_there mail ranges = do
  t ← ranges
  Ok (tree_there mail t)

-- ---- the reading

-- In this manner headers are read leniently, or not.
module _ (lenient : Bool) where
  -- the ranges of the header with this number in bytes at this place of the mail
  abbrev pub header_ranges : ℕ → List ℕ → ℕ → HeaderRanges
  header_ranges place bytes j = record { key = moved place (key_range_as lenient bytes j); value = moved place (value_range bytes j) }

  -- those of all headers
  abbrev pub headers_at : ℕ → List ℕ → List HeaderRanges
  headers_at place bytes = values_below (header_count bytes) (header_ranges place bytes)

  -- the message at this range with these bytes, this block, this type and this cut
  abbrev pub range_node : Range → List ℕ → HeaderList → ContentType → Cut → RangeNode
  range_node whole bytes block ctype cut = record {
    whole = whole;
    block = moved whole.start (record { start = 0; end = block.index });
    headers = headers_at whole.start (header_part lenient bytes);
    ctype = ctype;
    body = moved whole.start cut.body;
  }

-- what is read at each range, in order; the first refusal refuses all
abbrev pub range_each : (Range → Reads RangeTree) → List Range → Reads RangeForest
range_each read [] = Ok no_ranges
range_each read (part ∷ parts) = do
  first ← read part
  others ← range_each read parts
  Ok (ranges_and first others)

-- a refused message that is kept, at this range: without headers, with all its bytes as its body
abbrev pub kept_range : Range → RangeTree
kept_range whole = range_tree (record { whole = whole; block = record { start = whole.start; end = whole.start }; headers = []; ctype = default_type; body = whole }) no_ranges

-- the reading at this range, or the message that is kept if it is refused
abbrev pub kept_if_refused_at : Range → Reads RangeTree → Reads RangeTree
kept_if_refused_at whole (Ok t) = Ok t
kept_if_refused_at whole (Err refusal) = Ok (kept_range whole)

-- Of a mail, in this manner.
module _ (manner : Manner) (mail : List ℕ) where
  -- the same if refused messages are kept, otherwise the reading itself
  abbrev pub or_kept_at : Range → Reads RangeTree → Reads RangeTree
  or_kept_at whole reading = if manner.keeps_refused then kept_if_refused_at whole reading else reading

  -- the message at this range, with this block and this type
  abbrev pub range_parts : (Bool → Range → Reads RangeTree) → Range → HeaderList → ContentType → Reads RangeTree
  range_parts read whole block ctype = do
    let cut = cut_of_as manner.whole_lines ctype (slice mail whole) block.index
    parts ← range_each (read (is_digest ctype)) (map (moved whole.start) cut.parts)
    Ok (range_tree (range_node manner.lenient_headers whole (slice mail whole) block ctype cut) parts)

  -- the message at this range, if its own level is left
  abbrev pub range_message : (Bool → Range → Reads RangeTree) → Bool → Range → Reads RangeTree
  range_message read in_digest whole = do
    block ← read_block manner.lenient_headers (slice mail whole)
    range_parts read whole block (manner.type_of in_digest block.headers)

  -- the message at a range, with at most `levels` levels, its own included
  unfoldable pub range_levels : ℕ → Bool → Range → Reads RangeTree
  range_levels zero in_digest whole = or_kept_at whole (Err recursion_limit)
  range_levels (suc levels) in_digest whole = or_kept_at whole (range_message (range_levels levels) in_digest whole)

  -- the tree of ranges of the mail, whose parts may be down to a greatest level
  unfoldable pub ranges_as : ℕ → Reads RangeTree
  ranges_as greatest = range_levels (suc greatest) false (record { start = 0; end = length mail })

-- the same in the manner of the port, under the charsets that are known
unfoldable pub ranges_in : Charsets → List ℕ → ℕ → Reads RangeTree
ranges_in known mail greatest = ranges_as (strict known) mail greatest

-- ---- how the ranges of a tree lie

-- the ranges of the keys and the values of headers, in order
abbrev pub header_fields : List HeaderRanges → List Range
header_fields headers = flat_map (λ header. header.key ∷ header.value ∷ []) headers

-- the range of each of some parts
abbrev pub wholes : RangeForest → List Range
wholes no_ranges = []
wholes (ranges_and t ts) = (range_root t).whole ∷ wholes ts

-- the ranges of one message lie in order, its parts at these
pub record LieInOrder (node : RangeNode) (ranges : List Range) : Type 0 where
  -- the block starts where the message does
  pub front : node.block.start ≡ node.whole.start
  -- keys and values follow one another within the block
  pub fields : Apart 0 node.block.start (header_fields node.headers) node.block.end
  -- the body follows the block
  pub next : node.body.start ≡ node.block.end
  pub body : node.body.start ≤ node.body.end
  -- the parts follow the body one after another within the message, with three bytes or more before each
  pub parts : Apart 3 node.body.end ranges node.whole.end

abbrev mutual
  -- so they lie in a message and in all its parts
  pub AreNested : RangeTree → Type 0
  AreNested (range_tree node parts) = LieInOrder node (wholes parts) × AllNested parts

  -- and in each of some parts
  pub AllNested : RangeForest → Type 0
  AllNested no_ranges = Unit
  AllNested (ranges_and t ts) = AreNested t × AllNested ts

abbrev mutual
  -- the block and the body of a message, then those of its parts, each before those of its own parts (preorder)
  pub blocks_and_bodies : RangeTree → List Range
  blocks_and_bodies (range_tree node parts) = node.block ∷ node.body ∷ blocks_and_bodies_in parts

  -- the same of each of some parts
  pub blocks_and_bodies_in : RangeForest → List Range
  blocks_and_bodies_in no_ranges = []
  blocks_and_bodies_in (ranges_and t ts) = blocks_and_bodies t ++ blocks_and_bodies_in ts

abbrev mutual
  -- the ranges of a message and its body, then those of its parts, each before its own parts (preorder)
  pub wholes_and_bodies : RangeTree → List Placement
  wholes_and_bodies (range_tree node parts) = record { whole = node.whole; body = node.body } ∷ wholes_and_bodies_in parts

  -- the same of each of some parts
  pub wholes_and_bodies_in : RangeForest → List Placement
  wholes_and_bodies_in no_ranges = []
  wholes_and_bodies_in (ranges_and t ts) = wholes_and_bodies t ++ wholes_and_bodies_in ts

-- the place is in the range
abbrev pub IsInRange : Range → ℕ → Type 0
IsInRange range place = (range.start ≤ place) × (place < range.end)
