-- The ranges of a message give its tree, and are disjoint in the mail.
use Rattle.std.proofs.Common.{◌≡◌, ℕ, zero, suc, ◌+◌, ◌-◌, ◌<◌, ◌≤◌, Bool, true, false, List, [], ◌∷◌, ◌++◌, length, map, take, drop, get_or, Ok, Err, refl, sym, ap, ◌∙◌, subst, arith}
use Rattle.std.specs.Prelude.{if◌then◌else◌}
use Rattle.std.proofs.lemmas.List.{length-take, take_all, take-take, drop-take, drop-drop}
use Rattle.mail_codec.specs.Charset.{Charsets}
use Rattle.mail_codec.specs.Places.{values_below}
use Rattle.mailparse.specs.Refusal.{◌>>=◌, recursion_limit, Reads}
use Rattle.mailparse.specs.Header.{Header, header_of}
use Rattle.mailparse.specs.Block.{HeaderList, header_as, header_count, header_part, header_place, read_block, read_headers, rest_at}
use Rattle.mailparse.specs.ContentType.{ContentType, default_type}
use Rattle.mailparse.specs.Manner.{Manner}
use Rattle.mailparse.specs.Mail.{strict, Node, Tree, tree, Forest, no_parts, part_and, cut_of_as, is_digest, node_with, read_each, kept_message, kept_if_refused, or_kept, read_levels, read_mail_as, read_mail_in, read_message, read_parts}
use Rattle.mailparse.specs.Ranges.{Range, Apart, moved, slice}
use Rattle.mailparse.proofs.lemmas.Block.{header_place-≤, header_place-first, read_headers-index, read_headers-list, values_below-same}
use Rattle.mailparse.proofs.lemmas.HeaderPart.{header_part-front, header_part-≤, read_block-bounded, read_block-from}
use Rattle.mailparse.proofs.lemmas.Ranges.{cut_of_as-apart}
use Rattle.mailparse.proofs.lemmas.Refusal.{read_map}
use Rattle.mail_laws.specs.Spans.{AreOrderedBefore, header_at_as, key_range_as, value_range}
use Rattle.mail_laws.specs.RangeTree.{HeaderRanges, RangeNode, RangeTree, range_tree, RangeForest, no_ranges, ranges_and, range_root, header_there, node_there, tree_there, forest_there, header_ranges, headers_at, range_node, range_each, kept_range, kept_if_refused_at, or_kept_at, range_parts, range_message, range_levels, ranges_as, ranges_in, header_fields, wholes, LieInOrder, AreNested, AllNested, blocks_and_bodies, blocks_and_bodies_in, IsInRange}
use Rattle.mail_laws.proofs.lemmas.Spans.{header-at, ranges-in_order}

-- ---- slices of slices

slice-length : (mail : List ℕ) (whole : Range) → length (slice mail whole) ≤ whole.end - whole.start
slice-length mail whole = let size = length-take (whole.end - whole.start) (drop whole.start mail) in omega arith

slice-of_front : (mail : List ℕ) (place size from to : ℕ) → from ≤ to → to ≤ size
    → take (to - from) (drop from (take size (drop place mail))) ≡ take ((place + to) - (place + from)) (drop (place + from) mail)
slice-of_front mail place size from to order within =
    let whole : size ≡ from + (size - from) = omega arith in
    let same : to - from ≡ (place + to) - (place + from) = omega arith in
    ap (λ n. take (to - from) (drop from (take n (drop place mail)))) whole
    ∙ ap (take (to - from)) (drop-take from (size - from) (drop place mail))
    ∙ take-take (to - from) (size - from) (drop from (drop place mail)) (omega arith)
    ∙ ap (take (to - from)) (drop-drop from place mail)
    ∙ ap (λ n. take n (drop (place + from) mail)) same

-- the bytes of a range of a slice are those of the moved range of the mail
pub slice-moved : (mail : List ℕ) (whole r : Range) → r.start ≤ r.end → r.end ≤ length (slice mail whole) → slice (slice mail whole) r ≡ slice mail (moved whole.start r)
slice-moved mail whole r order within =
    let size = slice-length mail whole in
    slice-of_front mail whole.start (whole.end - whole.start) r.start r.end order (omega arith)

-- ---- the message at a range

header_from : List ℕ → List ℕ → Header
header_from key value = record { key = key; value = value }

map-values : {X Y : Type 0} (f : X → Y) (n : ℕ) (g : ℕ → X) → map f (values_below n g) ≡ values_below n (λ j. f (g j))
map-values f zero g = refl
map-values {Y = Y} f (suc n) g = ap (λ (ys : List Y). f (g 0) ∷ ys) (map-values f n (λ k. g (suc k)))

module _ (mail : List ℕ) (whole : Range) where
  header-there : (lenient : Bool) (j : ℕ) → header_at_as lenient (slice mail whole) j ≡ header_there mail (header_ranges lenient whole.start (slice mail whole) j)
  unfolding header_from
  header-there lenient j =
      let raw = slice mail whole in
      let order = ranges-in_order lenient raw j in
      let place = header_place-≤ raw (suc j) in
      let first = order.first_is_range in
      let apart = order.apart in
      let second = order.second_is_range in
      let ends = order.ends in
      ap (λ (key : List ℕ). header_from key (slice raw (value_range raw j))) (slice-moved mail whole (key_range_as lenient raw j) first (omega arith))
      ∙ ap (header_from (slice mail (moved whole.start (key_range_as lenient raw j)))) (slice-moved mail whole (value_range raw j) second (omega arith))

  headers-there : (lenient : Bool) (block : HeaderList) → read_headers (slice mail whole) ≡ Ok block
      → map (header_there mail) (headers_at lenient whole.start (slice mail whole)) ≡ map (header_as lenient) block.headers
  headers-there lenient block read =
      let raw = slice mail whole in
      let count = header_count raw in
      let own : ℕ → Header = λ j. header_of (rest_at raw j) in
      map-values (header_there mail) count (header_ranges lenient whole.start raw)
      ∙ sym (ap (map (header_as lenient)) (read_headers-list raw block read) ∙ map-values (header_as lenient) count own
      ∙ values_below-same count (λ j. header_as lenient (own j)) (λ j. header_there mail (header_ranges lenient whole.start raw j))
      (λ j. header-at lenient raw j ∙ header-there lenient j))

  -- the headers that are read from the front of the bytes
  front-there : (lenient : Bool) → slice mail (record { start = whole.start; end = whole.start + length (header_part lenient (slice mail whole)) }) ≡ header_part lenient (slice mail whole)
  front-there lenient =
      let raw = slice mail whole in
      let size = length (header_part lenient raw) in
      let within = header_part-≤ lenient raw in
      let fits = slice-length mail whole in
      let same : whole.start + size - whole.start ≡ size = omega arith in
      ap (λ n. take n (drop whole.start mail)) same
      ∙ sym (header_part-front lenient raw ∙ take-take size (whole.end - whole.start) (drop whole.start mail) (omega arith))

pub front-headers : (mail : List ℕ) (whole : Range) (lenient : Bool) (block : HeaderList) → read_block lenient (slice mail whole) ≡ Ok block
    → map (header_there mail) (headers_at lenient whole.start (header_part lenient (slice mail whole))) ≡ block.headers
front-headers mail whole lenient block read =
    let part = header_part lenient (slice mail whole) in
    let found = read_block-from lenient (slice mail whole) block read in
    let front : Range = record { start = whole.start; end = whole.start + length part } in
    let there : slice mail front ≡ part = front-there mail whole lenient in
    ap (λ (bytes : List ℕ). map (header_there mail) (headers_at lenient whole.start bytes)) (sym there)
    ∙ headers-there mail front lenient found.whole (ap read_headers there ∙ found.read) ∙ sym found.headers

module _ (mail : List ℕ) (whole : Range) where
  pub block-there : (index : ℕ) → index ≤ length (slice mail whole) → slice mail (moved whole.start (record { start = 0; end = index })) ≡ take index (slice mail whole)
  block-there index within =
      let same : index - 0 ≡ index = omega arith in
      sym (slice-moved mail whole (record { start = 0; end = index }) (omega arith) within) ∙ ap (λ n. take n (slice mail whole)) same

-- ---- the tree at the ranges

pub Apart-order : (gap from : ℕ) (rs : List Range) (to : ℕ) → Apart gap from rs to → from ≤ to
Apart-order gap from [] to h = h
Apart-order gap from (r ∷ rs) to h = let more = Apart-order gap r.end rs to h.2 in omega (arith, h.0, h.1, more)

node_of : List ℕ → List ℕ → List Header → ContentType → List ℕ → Node
node_of bytes block headers ctype body = record { bytes = bytes; block = block; headers = headers; ctype = ctype; body = body }

-- the message with this block, without its parts
node-there : (lines lenient : Bool) (mail : List ℕ) (whole : Range) (block : HeaderList) (ctype : ContentType) → read_block lenient (slice mail whole) ≡ Ok block
    → node_there mail (range_node lenient whole (slice mail whole) block ctype (cut_of_as lines ctype (slice mail whole) block.index))
    ≡ node_with (slice mail whole) block ctype (cut_of_as lines ctype (slice mail whole) block.index)
unfolding node_of
node-there lines lenient mail whole block ctype read =
    let raw = slice mail whole in
    let index = (read_block-bounded lenient raw block read).index in
    let cut = cut_of_as lines ctype raw block.index in
    let apart = cut_of_as-apart lines ctype raw block.index index in
    let front = slice mail (moved whole.start (record { start = 0; end = block.index })) in
    let fields = map (header_there mail) (headers_at lenient whole.start (header_part lenient raw)) in
    let order : cut.body.start ≤ cut.body.end = omega (arith, apart.0, apart.1) in
    ap (λ (x : List ℕ). node_of raw x fields ctype (slice mail (moved whole.start cut.body))) (block-there mail whole block.index index)
    ∙ ap (λ (x : List Header). node_of raw (take block.index raw) x ctype (slice mail (moved whole.start cut.body))) (front-headers mail whole lenient block read)
    ∙ ap (λ (x : List ℕ). node_of raw (take block.index raw) block.headers ctype x)
    (sym (slice-moved mail whole cut.body order (Apart-order 3 cut.body.end cut.parts (length raw) apart.2)))

-- a message and its parts, if they were read
tree-there : (mail : List ℕ) (node : RangeNode) (n : Node) → node_there mail node ≡ n → (parts : Reads RangeForest)
    → read_map (tree_there mail) (read_map (range_tree node) parts) ≡ read_map (tree n) (read_map (forest_there mail) parts)
tree-there mail node n e (Ok parts) = ap (λ (x : Node). Ok (tree x (forest_there mail parts))) e
tree-there mail node n e (Err refusal) = refl

-- each of some parts
first-there : (mail : List ℕ) (first : Reads RangeTree) (rest : Reads RangeForest)
    → read_map (forest_there mail) (◌>>=◌ first (λ t. read_map (ranges_and t) rest))
    ≡ ◌>>=◌ (read_map (tree_there mail) first) (λ t. read_map (part_and t) (read_map (forest_there mail) rest))
first-there mail (Ok t) (Ok rest) = refl
first-there mail (Ok t) (Err refusal) = refl
first-there mail (Err refusal) rest = refl

-- a message read at a range is read from the bytes there
abbrev Gives : List ℕ → (Range → Reads RangeTree) → (List ℕ → Reads Tree) → Type 0
Gives mail ranges read = (whole : Range) → read_map (tree_there mail) (ranges whole) ≡ read (slice mail whole)

each-there : (mail : List ℕ) (ranges : Range → Reads RangeTree) (read : List ℕ → Reads Tree) → Gives mail ranges read → (whole : Range) (gap from : ℕ) (rs : List Range)
    → Apart gap from rs (length (slice mail whole))
    → read_map (forest_there mail) (range_each ranges (map (moved whole.start) rs)) ≡ read_each read (map (slice (slice mail whole)) rs)
each-there mail ranges read gives whole gap from [] apart = refl
each-there mail ranges read gives whole gap from (r ∷ rs) apart =
    let rest = each-there mail ranges read gives whole gap r.end rs apart.2 in
    let here = gives (moved whole.start r) ∙ ap read (sym (slice-moved mail whole r apart.1 (Apart-order gap r.end rs (length (slice mail whole)) apart.2))) in
    first-there mail (ranges (moved whole.start r)) (range_each ranges (map (moved whole.start) rs))
    ∙ ap (λ (x : Reads Tree). ◌>>=◌ x (λ t. read_map (part_and t) (read_map (forest_there mail) (range_each ranges (map (moved whole.start) rs))))) here
    ∙ ap (λ (x : Reads Forest). ◌>>=◌ (read (slice (slice mail whole) r)) (λ t. read_map (part_and t) x)) rest

-- a refused message that is kept
kept-there : (mail : List ℕ) (whole : Range) → tree_there mail (kept_range whole) ≡ kept_message (slice mail whole)
unfolding node_of
kept-there mail whole =
    let none : whole.start - whole.start ≡ 0 = omega arith in
    ap (λ n. tree (node_of (slice mail whole) (take n (drop whole.start mail)) [] default_type (slice mail whole)) no_parts) none

-- In a manner of reading.
module _ (manner : Manner) (mail : List ℕ) where
  or_kept-there : (whole : Range) (ranges : Reads RangeTree) (reading : Reads Tree) → read_map (tree_there mail) ranges ≡ reading
      → read_map (tree_there mail) (or_kept_at manner mail whole ranges) ≡ or_kept manner (slice mail whole) reading
  or_kept-there whole ranges reading e = by_manner manner.keeps_refused ranges e
    where
      by_manner : (k : Bool) (r : Reads RangeTree) → read_map (tree_there mail) r ≡ reading
          → read_map (tree_there mail) (if k then kept_if_refused_at whole r else r) ≡ (if k then kept_if_refused (slice mail whole) reading else reading)
      by_manner false r h = h
      by_manner true (Ok t) h = ap (kept_if_refused (slice mail whole)) h
      by_manner true (Err refusal) h = ap Ok (kept-there mail whole) ∙ ap (kept_if_refused (slice mail whole)) h

  parts-there : (ranges : Bool → Range → Reads RangeTree) (read : Bool → List ℕ → Reads Tree) → ((digest : Bool) → Gives mail (ranges digest) (read digest))
      → (whole : Range) (block : HeaderList) (ctype : ContentType) → read_block manner.lenient_headers (slice mail whole) ≡ Ok block
      → read_map (tree_there mail) (range_parts manner mail ranges whole block ctype) ≡ read_parts manner read (slice mail whole) block ctype
  parts-there ranges read gives whole block ctype headers =
      let raw = slice mail whole in
      let cut = cut_of_as manner.whole_lines ctype raw block.index in
      let apart = cut_of_as-apart manner.whole_lines ctype raw block.index (read_block-bounded manner.lenient_headers raw block headers).index in
      tree-there mail (range_node manner.lenient_headers whole raw block ctype cut) (node_with raw block ctype cut) (node-there manner.whole_lines manner.lenient_headers mail whole block ctype headers)
      (range_each (ranges (is_digest ctype)) (map (moved whole.start) cut.parts))
      ∙ ap (read_map (tree (node_with raw block ctype cut)))
      (each-there mail (ranges (is_digest ctype)) (read (is_digest ctype)) (gives (is_digest ctype)) whole 3 cut.body.end cut.parts apart.2)

  levels-there : (levels : ℕ) (in_digest : Bool) → Gives mail (range_levels manner mail levels in_digest) (read_levels manner levels in_digest)
  unfolding range_levels read_levels
  levels-there zero in_digest whole = or_kept-there whole (Err recursion_limit) (Err recursion_limit) refl
  levels-there (suc levels) in_digest whole =
      or_kept-there whole (range_message manner mail (range_levels manner mail levels) in_digest whole) (read_message manner (read_levels manner levels) in_digest (slice mail whole))
      (by_block (read_block manner.lenient_headers (slice mail whole)) refl (λ digest. levels-there levels digest))
    where
      by_block : (block : Reads HeaderList) → read_block manner.lenient_headers (slice mail whole) ≡ block
          → ((digest : Bool) → Gives mail (range_levels manner mail levels digest) (read_levels manner levels digest))
          → read_map (tree_there mail) (◌>>=◌ block (λ b. range_parts manner mail (range_levels manner mail levels) whole b (manner.type_of in_digest b.headers)))
          ≡ ◌>>=◌ block (λ b. read_parts manner (read_levels manner levels) (slice mail whole) b (manner.type_of in_digest b.headers))
      by_block (Err refusal) headers ih = refl
      by_block (Ok block) headers ih =
          parts-there (range_levels manner mail levels) (read_levels manner levels) ih whole block (manner.type_of in_digest block.headers) headers

  pub ranges_as-there : (greatest : ℕ) → read_map (tree_there mail) (ranges_as manner mail greatest) ≡ read_mail_as manner greatest mail
  unfolding ranges_as
  ranges_as-there greatest = levels-there (suc greatest) false (record { start = 0; end = length mail })
      ∙ ap (read_levels manner (suc greatest) false) (take_all (length mail - 0) mail (omega arith))

pub ranges_in-there : (known : Charsets) (mail : List ℕ) (greatest : ℕ) → read_map (tree_there mail) (ranges_in known mail greatest) ≡ read_mail_in known greatest mail
unfolding ranges_in read_mail_in
ranges_in-there known mail greatest = ranges_as-there (strict known) mail greatest

-- ---- the ranges are disjoint

-- the same between wider places
Apart-wider : (gap from : ℕ) (rs : List Range) (to less more : ℕ) → less ≤ from → to ≤ more → Apart gap from rs to → Apart gap less rs more
Apart-wider gap from [] to less more low high h = omega (arith, h)
Apart-wider gap from (r ∷ rs) to less more low high h = (omega (arith, h.0), h.1, Apart-wider gap r.end rs to r.end more (omega arith) high h.2)

-- the same further on
Apart-moved : (place gap from : ℕ) (rs : List Range) (to : ℕ) → Apart gap from rs to → Apart gap (place + from) (map (moved place) rs) (place + to)
Apart-moved place gap from [] to h = omega (arith, h)
Apart-moved place gap from (r ∷ rs) to h = (omega (arith, h.0), omega (arith, h.1), Apart-moved place gap r.end rs to h.2)

-- one list and then another
Apart-append : (gap from : ℕ) (rs ss : List Range) (between to : ℕ) → Apart gap from rs between → Apart gap between ss to → Apart gap from (rs ++ ss) to
Apart-append gap from [] ss between to h k = Apart-wider gap between ss to from to h (omega arith) k
Apart-append gap from (r ∷ rs) ss between to h k = (h.0, h.1, Apart-append gap r.end rs ss between to h.2 k)

-- keys and values, each header from one place to the next
abbrev FieldsFit : (ℕ → HeaderRanges) → (ℕ → ℕ) → Type 0
FieldsFit f place = (j : ℕ) → (place j ≤ (f j).key.start) × AreOrderedBefore (f j).key (f j).value (place (suc j))

fields-apart : (n : ℕ) (f : ℕ → HeaderRanges) (place : ℕ → ℕ) → FieldsFit f place → Apart 0 (place 0) (header_fields (values_below n f)) (place n)
fields-apart zero f place fit = omega arith
fields-apart (suc n) f place fit =
    let more = fields-apart n (λ j. f (suc j)) (λ j. place (suc j)) (λ j. fit (suc j)) in
    let order = (fit 0).1 in
    let rest = Apart-wider 0 (place 1) (header_fields (values_below n (λ j. f (suc j)))) (place (suc n)) (f 0).value.end (place (suc n)) order.ends (omega arith) more in
    (omega (arith, (fit 0).0), order.first_is_range, (omega (arith, order.apart), order.second_is_range, rest))

module _ (mail : List ℕ) (whole : Range) (lenient : Bool) (block : HeaderList) (read : read_block lenient (slice mail whole) ≡ Ok block) where
  fields-within : Apart 0 (moved whole.start (record { start = 0; end = block.index })).start (header_fields (headers_at lenient whole.start (header_part lenient (slice mail whole))))
      (moved whole.start (record { start = 0; end = block.index })).end
  fields-within =
      let raw = header_part lenient (slice mail whole) in
      let f = header_ranges lenient whole.start raw in
      let fit : FieldsFit f (λ j. whole.start + header_place raw j) = λ j.
      let order = ranges-in_order lenient raw j in (
        omega arith,
        record {
          first_is_range = omega (arith, order.first_is_range);
          apart = omega (arith, order.apart);
          second_is_range = omega (arith, order.second_is_range);
          ends = omega (arith, order.ends);
        },
      ) in
      let first = header_place-first raw in
      let found = read_block-from lenient (slice mail whole) block read in
      let same = found.index in
      let index = read_headers-index raw found.whole found.read in
      Apart-wider 0 (whole.start + header_place raw 0) (header_fields (headers_at lenient whole.start raw)) (whole.start + header_place raw (header_count raw))
      (whole.start + 0) (whole.start + block.index) (omega arith) (omega arith) (fields-apart (header_count raw) f (λ j. whole.start + header_place raw j) fit)

  node-in_order : (lines : Bool) (ctype : ContentType) → whole.start ≤ whole.end
      → LieInOrder (range_node lenient whole (slice mail whole) block ctype (cut_of_as lines ctype (slice mail whole) block.index))
      (map (moved whole.start) (cut_of_as lines ctype (slice mail whole) block.index).parts)
  node-in_order lines ctype order =
      let raw = slice mail whole in
      let cut = cut_of_as lines ctype raw block.index in
      let apart = cut_of_as-apart lines ctype raw block.index (read_block-bounded lenient raw block read).index in
      let size = slice-length mail whole in
      let start = apart.0 in
      let end = apart.1 in
      record {
        front = omega arith;
        fields = fields-within;
        next = omega arith;
        body = omega arith;
        parts = Apart-wider 3 (whole.start + cut.body.end) (map (moved whole.start) cut.parts) (whole.start + length raw) (whole.start + cut.body.end) whole.end
            (omega arith) (omega arith) (Apart-moved whole.start 3 cut.body.end cut.parts (length raw) apart.2);
      }

-- a property of each message that is read, if a message has it whenever its parts do
abbrev pub FitEach : (Range → RangeTree → Type 0) → List Range → RangeForest → Type 0
FitEach Fits [] no_ranges = Unit {0}
FitEach Fits (r ∷ rs) (ranges_and t ts) = Fits r t × FitEach Fits rs ts
FitEach Fits _ _ = ⊥

module _ (manner : Manner) (mail : List ℕ) (Fits : Range → RangeTree → Type 0) where
  each-fits : (ranges : Range → Reads RangeTree) → ((whole : Range) (t : RangeTree) → ranges whole ≡ Ok t → Fits whole t) → (rs : List Range) (parts : RangeForest)
      → range_each ranges rs ≡ Ok parts → FitEach Fits rs parts
  each-fits ranges fits [] parts e = let same : no_ranges ≡ parts = cc in subst (FitEach Fits []) same tt
  each-fits ranges fits (r ∷ rs) parts e = by_part (ranges r) (range_each ranges rs) refl e (each-fits ranges fits rs)
    where
      by_part : (first : Reads RangeTree) (rest : Reads RangeForest) → ranges r ≡ first → ◌>>=◌ first (λ t. read_map (ranges_and t) rest) ≡ Ok parts
          → ((others : RangeForest) → rest ≡ Ok others → FitEach Fits rs others) → FitEach Fits (r ∷ rs) parts
      by_part (Err refusal) rest f h ih = absurd (cc)
      by_part (Ok t) (Err refusal) f h ih = absurd (cc)
      by_part (Ok t) (Ok others) f h ih = let same : ranges_and t others ≡ parts = cc in subst (FitEach Fits (r ∷ rs)) same (fits r t f, ih others refl)

  module _ (kept : (whole : Range) → Fits whole (kept_range whole))
      (step : (whole : Range) (block : HeaderList) (ctype : ContentType) → read_block manner.lenient_headers (slice mail whole) ≡ Ok block → (parts : RangeForest)
      → FitEach Fits (map (moved whole.start) (cut_of_as manner.whole_lines ctype (slice mail whole) block.index).parts) parts
      → Fits whole (range_tree (range_node manner.lenient_headers whole (slice mail whole) block ctype (cut_of_as manner.whole_lines ctype (slice mail whole) block.index)) parts)) where
    or_kept-fits : (whole : Range) (ranges : Reads RangeTree) (t : RangeTree) → or_kept_at manner mail whole ranges ≡ Ok t → (ranges ≡ Ok t → Fits whole t) → Fits whole t
    or_kept-fits whole ranges t e fits = by_manner manner.keeps_refused ranges e fits
      where
        by_manner : (k : Bool) (r : Reads RangeTree) → if k then kept_if_refused_at whole r else r ≡ Ok t → (r ≡ Ok t → Fits whole t) → Fits whole t
        by_manner false r h fits = fits h
        by_manner true (Ok u) h fits = fits h
        by_manner true (Err refusal) h fits =
            let here : ◌≡◌ {A = Reads RangeTree} (Ok (kept_range whole)) (Ok t) = h in
            let same : kept_range whole ≡ t = cc in
            subst (Fits whole) same (kept whole)

    pub levels-fit : (levels : ℕ) (in_digest : Bool) (whole : Range) (t : RangeTree) → range_levels manner mail levels in_digest whole ≡ Ok t → Fits whole t
    unfolding range_levels
    levels-fit zero in_digest whole t e = or_kept-fits whole (Err recursion_limit) t e (λ h. absurd (cc))
    levels-fit (suc levels) in_digest whole t e =
        or_kept-fits whole (range_message manner mail (range_levels manner mail levels) in_digest whole) t e (λ h. by_block (read_block manner.lenient_headers (slice mail whole)) refl h (levels-fit levels))
      where
        by_parts : (block : HeaderList) (ctype : ContentType) → read_block manner.lenient_headers (slice mail whole) ≡ Ok block → (parts : Reads RangeForest)
            → read_map (range_tree (range_node manner.lenient_headers whole (slice mail whole) block ctype (cut_of_as manner.whole_lines ctype (slice mail whole) block.index))) parts ≡ Ok t
            → ((found : RangeForest) → parts ≡ Ok found → FitEach Fits (map (moved whole.start) (cut_of_as manner.whole_lines ctype (slice mail whole) block.index).parts) found) → Fits whole t
        by_parts block ctype read (Err refusal) h each = absurd (cc)
        by_parts block ctype read (Ok parts) h each =
            let same : range_tree (range_node manner.lenient_headers whole (slice mail whole) block ctype (cut_of_as manner.whole_lines ctype (slice mail whole) block.index)) parts ≡ t = cc in
            subst (Fits whole) same (step whole block ctype read parts (each parts refl))

        by_block : (block : Reads HeaderList) → read_block manner.lenient_headers (slice mail whole) ≡ block
            → ◌>>=◌ block (λ b. range_parts manner mail (range_levels manner mail levels) whole b (manner.type_of in_digest b.headers)) ≡ Ok t
            → ((digest : Bool) (part : Range) (u : RangeTree) → range_levels manner mail levels digest part ≡ Ok u → Fits part u) → Fits whole t
        by_block (Err refusal) read h ih = absurd (cc)
        by_block (Ok block) read h ih =
            let ctype = manner.type_of in_digest block.headers in
            by_parts block ctype read _ h (each-fits (range_levels manner mail levels (is_digest ctype)) (ih (is_digest ctype)) _)

-- a message is at the range where it was read, and the ranges within it are in order
abbrev IsNested : Range → RangeTree → Type 0
IsNested whole t = whole.start ≤ whole.end → ((range_root t).whole ≡ whole) × AreNested t

each-nested : (gap from : ℕ) (rs : List Range) (to : ℕ) → Apart gap from rs to → (parts : RangeForest) → FitEach IsNested rs parts
    → (wholes parts ≡ rs) × AllNested parts
each-nested gap from [] to apart no_ranges each = (refl, tt)
each-nested gap from [] to apart (ranges_and t ts) each = absurd each
each-nested gap from (r ∷ rs) to apart no_ranges each = absurd each
each-nested gap from (r ∷ rs) to apart (ranges_and t ts) each =
    let here = each.0 apart.1 in
    let more = each-nested gap r.end rs to apart.2 ts each.1 in
    (ap (λ (x : Range). x ∷ wholes ts) here.0 ∙ ap (λ (xs : List Range). r ∷ xs) more.0, (here.1, more.1))

-- so it is with a refused message that is kept
kept-nested : (whole : Range) → IsNested whole (kept_range whole)
kept-nested whole order = (refl, (record { front = refl; fields = omega arith; next = refl; body = order; parts = omega arith }, tt))

module _ (manner : Manner) (mail : List ℕ) where
  levels-nested : (levels : ℕ) (in_digest : Bool) (whole : Range) (t : RangeTree) → range_levels manner mail levels in_digest whole ≡ Ok t → IsNested whole t
  levels-nested = levels-fit manner mail IsNested kept-nested (λ whole block ctype read parts each order.
      let cut = cut_of_as manner.whole_lines ctype (slice mail whole) block.index in
      let node = range_node manner.lenient_headers whole (slice mail whole) block ctype cut in
      let lie = node-in_order mail whole manner.lenient_headers block read manner.whole_lines ctype order in
      let all = each-nested 3 node.body.end (map (moved whole.start) cut.parts) whole.end lie.parts parts each in
      (refl, (subst (LieInOrder node) (sym all.0) lie, all.1)))

mutual
  -- so the blocks and the bodies are disjoint
  tree-apart : (t : RangeTree) → AreNested t → Apart 0 (range_root t).whole.start (blocks_and_bodies t) (range_root t).whole.end
  tree-apart (range_tree node parts) nested =
      let lie = nested.0 in
      let front = lie.front in
      let next = lie.next in
      let block = Apart-order 0 node.block.start (header_fields node.headers) node.block.end lie.fields in
      (omega arith, block, (omega arith, lie.body, forest-apart parts node.body.end node.whole.end nested.1 lie.parts))

  forest-apart : (ts : RangeForest) (from to : ℕ) → AllNested ts → Apart 3 from (wholes ts) to → Apart 0 from (blocks_and_bodies_in ts) to
  forest-apart no_ranges from to nested apart = apart
  forest-apart (ranges_and t ts) from to nested apart =
      let whole = (range_root t).whole in
      Apart-append 0 from (blocks_and_bodies t) (blocks_and_bodies_in ts) whole.end to
      (Apart-wider 0 whole.start (blocks_and_bodies t) whole.end from whole.end (omega (arith, apart.0)) (omega arith) (tree-apart t nested.0))
      (forest-apart ts whole.end to nested.1 apart.2)

-- a range of the list starts at the place or after it
later-start : (from : ℕ) (rs : List Range) (to j : ℕ) (d : Range) → Apart 0 from rs to → j < length rs → from ≤ (get_or rs j d).start
later-start from [] to j d apart low = absurd (omega arith)
later-start from (r ∷ rs) to zero d apart low = omega (arith, apart.0)
later-start from (r ∷ rs) to (suc j) d apart low =
    let more = later-start r.end rs to j d apart.2 (omega arith) in
    omega (arith, apart.0, apart.1, more)

-- no place is in two of them
held-once : (from : ℕ) (rs : List Range) (to place i j : ℕ) (d : Range) → Apart 0 from rs to → i < length rs → j < length rs
    → IsInRange (get_or rs i d) place → IsInRange (get_or rs j d) place → i ≡ j
held-once from [] to place i j d apart low high here there = absurd (omega arith)
held-once from (r ∷ rs) to place zero zero d apart low high here there = refl
held-once from (r ∷ rs) to place zero (suc j) d apart low high here there =
    let later = later-start r.end rs to j d apart.2 (omega arith) in
    absurd (omega (arith, here.1, there.0, later))
held-once from (r ∷ rs) to place (suc i) zero d apart low high here there =
    let later = later-start r.end rs to i d apart.2 (omega arith) in
    absurd (omega (arith, here.0, there.1, later))
held-once from (r ∷ rs) to place (suc i) (suc j) d apart low high here there =
    ap suc (held-once r.end rs to place i j d apart.2 (omega arith) (omega arith) here there)

module _ (manner : Manner) (mail : List ℕ) (greatest : ℕ) (t : RangeTree) (read : ranges_as manner mail greatest ≡ Ok t) where
  pub ranges_as-nested : ((range_root t).whole ≡ record { start = 0; end = length mail }) × AreNested t
  unfolding ranges_as
  ranges_as-nested = levels-nested manner mail (suc greatest) false (record { start = 0; end = length mail }) t read (omega arith)

  pub ranges_as-apart : Apart 0 0 (blocks_and_bodies t) (length mail)
  ranges_as-apart =
      let nested = ranges_as-nested in
      subst (λ (whole : Range). Apart 0 whole.start (blocks_and_bodies t) whole.end) nested.0 (tree-apart t nested.1)

  pub ranges_as-once : (place i j : ℕ) (d : Range) → i < length (blocks_and_bodies t) → j < length (blocks_and_bodies t)
      → IsInRange (get_or (blocks_and_bodies t) i d) place → IsInRange (get_or (blocks_and_bodies t) j d) place → i ≡ j
  ranges_as-once place i j d low high here there = held-once 0 (blocks_and_bodies t) (length mail) place i j d ranges_as-apart low high here there

-- so it is in the manner of the port
module _ (known : Charsets) (mail : List ℕ) (greatest : ℕ) (t : RangeTree) (read : ranges_in known mail greatest ≡ Ok t) where
  ranges_in-as : ranges_as (strict known) mail greatest ≡ Ok t
  unfolding ranges_in
  ranges_in-as = read

  pub ranges_in-nested : ((range_root t).whole ≡ record { start = 0; end = length mail }) × AreNested t
  ranges_in-nested = ranges_as-nested (strict known) mail greatest t ranges_in-as

  pub ranges_in-apart : Apart 0 0 (blocks_and_bodies t) (length mail)
  ranges_in-apart = ranges_as-apart (strict known) mail greatest t ranges_in-as

  pub ranges_in-once : (place i j : ℕ) (d : Range) → i < length (blocks_and_bodies t) → j < length (blocks_and_bodies t)
      → IsInRange (get_or (blocks_and_bodies t) i d) place → IsInRange (get_or (blocks_and_bodies t) j d) place → i ≡ j
  ranges_in-once = ranges_as-once (strict known) mail greatest t ranges_in-as
