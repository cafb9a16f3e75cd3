-- Lemmas on messages: their types, their trees, and how they are read.
use Rattle.std.proofs.Common.{◌≡◌, ℕ, zero, suc, ◌-◌, ◌<◌, ◌≤◌, Bool, true, false, List, [], ◌∷◌, ◌++◌, length, map, take, drop, slice_range, Option, Some, None, option_map, Ok, Err, refl, sym, ap, ◌∙◌, subst, arith, Result}
use Rattle.std.specs.Prelude.{codes, if◌then◌else◌}
use Rattle.mail_codec.specs.Places.{has_prefix}
use Rattle.mailparse.specs.Refusal.{◌>>=◌, Refusal, Reads, recursion_limit}
use Rattle.mailparse.specs.Header.{Header}
use Rattle.mailparse.specs.Block.{HeaderList, read_block}
use Rattle.mailparse.specs.ContentType.{ContentType, content_type_in}
use Rattle.mailparse.specs.Manner.{Manner}
use Rattle.mail_codec.specs.Charset.{Charsets}
use Rattle.mailparse.specs.Value.{lenient_value_in}
use Rattle.mailparse.specs.Ranges.{Range, slice}
use Rattle.mailparse.specs.Delimiters.{first_part_as, next_part_as, end_from_as, preamble_end_as, Cut, cut_parts_as}
use Rattle.mailparse.specs.Mail.{Tree, tree, Forest, no_parts, part_and, forest, is_digest, dash_boundary_of, whole_lines_for, cut_of_as, node_with, read_each, kept_if_refused, or_kept, read_parts, read_message, node_type, read_levels, part_type, trees_within, trees_in}
use Rattle.mailparse.specs.private.Delimiters.{IsLineDelimiter}
use Rattle.mailparse.proofs.lemmas.Refusal.{read_map}
use Rattle.std.specs.Option.{option_map_or}
use Rattle.mailparse.specs.Map.{first_with_key}
use Rattle.mailparse.specs.Views.{tree_step, tree_of}
use Rattle.mailparse.specs.declared.mail.message.ParsedMail.{ParsedMail}
use Rattle.mailparse.specs.declared.mail.message.ParsedMail.TheViews.{out-ParsedMail}
use Rattle.mailparse.specs.declared.mail.message.ParsedMail.TheFolds.{fold_out-ParsedMail}
use Rattle.mailparse.proofs.lemmas.Delimiters.{part_ranges_as-none, part_ranges_as-some, part_ranges_as}
use Rattle.std.proofs.lemmas.List.{map-append, append-nil, drop_all}

-- ---- the type of a message

-- Under the charsets that are known.
module _ (known : Charsets) where
  -- the type of a message whose first `Content-Type` has this text
  pub node_type-some : (in_digest : Bool) (headers : List Header) (h : Header) (text : List ℕ) → Some h ≡ first_with_key (codes "Content-Type") headers
      → ◌≡◌ {A = Result (List ℕ) Refusal} (Ok (lenient_value_in known h.value)) (Ok text) → content_type_in known text ≡ node_type known in_digest headers
  unfolding node_type
  node_type-some in_digest headers h text first e =
      let same : lenient_value_in known h.value ≡ text = cc in
      ap (content_type_in known) (sym same)
      ∙ ap (λ o. option_map_or (λ (x : Header). content_type_in known (lenient_value_in known x.value)) o (part_type in_digest)) first

  -- the type of a message without a `Content-Type`
  pub node_type-none : (in_digest : Bool) (headers : List Header) → None ≡ first_with_key (codes "Content-Type") headers
      → part_type in_digest ≡ node_type known in_digest headers
  unfolding node_type
  node_type-none in_digest headers none =
      ap (λ o. option_map_or (λ (x : Header). content_type_in known (lenient_value_in known x.value)) o (part_type in_digest)) none

-- ---- trees

-- the message itself, and then its parts
pub trees_within-out : (m : ParsedMail) → trees_within (tree_of m) ≡ tree_of m ∷ trees_in (forest (map tree_of (out-ParsedMail m).subparts.items))
trees_within-out m =
    let e = fold_out-ParsedMail Tree tree_step m in
    ap trees_within e ∙ ap (λ (t : Tree). t ∷ trees_in (forest (map tree_of (out-ParsedMail m).subparts.items))) (sym e)

-- ---- the readings of the parts

-- some parts, followed by others
abbrev pub forest_and : List Tree → Forest → Forest
forest_and [] rest = rest
forest_and (t ∷ ts) rest = part_and t (forest_and ts rest)

-- one more part
pub forest_and-push : (front : List Tree) (t : Tree) (rest : Forest) → forest_and front (part_and t rest) ≡ forest_and (front ++ t ∷ []) rest
forest_and-push [] t rest = refl
forest_and-push (u ∷ front) t rest = ap (part_and u) (forest_and-push front t rest)

-- no more parts
pub forest_and-none : (front : List Tree) → forest_and front no_parts ≡ forest front
forest_and-none [] = refl
forest_and-none (u ∷ front) = ap (part_and u) (forest_and-none front)

-- parts that were read, followed by the readings of the others
abbrev pub with_trees : List Tree → Reads Forest → Reads Forest
with_trees front rest = read_map (forest_and front) rest

pub with_trees-none : (rest : Reads Forest) → with_trees [] rest ≡ rest
with_trees-none (Ok rest) = refl
with_trees-none (Err e) = refl

with_trees-push : (front : List Tree) (t : Tree) (rest : Reads Forest) → with_trees front (read_map (part_and t) rest) ≡ with_trees (front ++ t ∷ []) rest
with_trees-push front t (Ok rest) = ap Ok (forest_and-push front t rest)
with_trees-push front t (Err e) = refl

-- In a manner of reading.
module _ (manner : Manner) where
  -- the readings of the parts from one on
  abbrev pub parts_from : ℕ → Bool → List ℕ → List ℕ → Option ℕ → Reads Forest
  parts_from levels in_digest dash_boundary raw next = read_each (read_levels manner levels in_digest) (map (slice raw) (part_ranges_as (whole_lines_for manner.whole_lines dash_boundary) dash_boundary raw next))

  module _ (levels : ℕ) (in_digest : Bool) (dash_boundary raw : List ℕ) where
    part_bytes : ℕ → List ℕ
    part_bytes s = slice_range raw s (end_from_as (whole_lines_for manner.whole_lines dash_boundary) dash_boundary raw s (length raw))

    abbrev rest_from : ℕ → Tree → Reads Forest
    rest_from s t = read_map (part_and t) (parts_from levels in_digest dash_boundary raw (next_part_as (whole_lines_for manner.whole_lines dash_boundary) dash_boundary raw s))

    parts_from-some : (s : ℕ) → parts_from levels in_digest dash_boundary raw (Some s)
        ≡ ◌>>=◌ (read_levels manner levels in_digest (part_bytes s)) (rest_from s)
    unfolding part_bytes
    parts_from-some s = ap (λ (rs : List Range). read_each (read_levels manner levels in_digest) (map (slice raw) rs)) (part_ranges_as-some (whole_lines_for manner.whole_lines dash_boundary) dash_boundary raw s)

    -- one more part
    pub parts_step : (front : List Tree) (all : Reads Forest) (s part_end : ℕ) (after : Option ℕ) (t : Tree) → part_end ≡ end_from_as (whole_lines_for manner.whole_lines dash_boundary) dash_boundary raw s (length raw)
        → after ≡ next_part_as (whole_lines_for manner.whole_lines dash_boundary) dash_boundary raw s → read_levels manner levels in_digest (slice_range raw s part_end) ≡ Ok t
        → with_trees front (parts_from levels in_digest dash_boundary raw (Some s)) ≡ all
        → with_trees (front ++ t ∷ []) (parts_from levels in_digest dash_boundary raw after) ≡ all
    unfolding part_bytes
    parts_step front all s part_end after t ends next read before =
        let here : read_levels manner levels in_digest (part_bytes s) ≡ Ok t =
        ap (λ e. read_levels manner levels in_digest (slice_range raw s e)) (sym ends) ∙ read in
        ap (λ (o : Option ℕ). with_trees (front ++ t ∷ []) (parts_from levels in_digest dash_boundary raw o)) next
        ∙ sym (with_trees-push front t (parts_from levels in_digest dash_boundary raw (next_part_as (whole_lines_for manner.whole_lines dash_boundary) dash_boundary raw s)))
        ∙ ap (λ (r : Reads Tree). with_trees front (◌>>=◌ r (rest_from s))) (sym here)
        ∙ ap (with_trees front) (sym (parts_from-some s)) ∙ before

    -- a part that is refused
    pub parts_refused : (front : List Tree) (all : Reads Forest) (s part_end : ℕ) (e : Refusal) → part_end ≡ end_from_as (whole_lines_for manner.whole_lines dash_boundary) dash_boundary raw s (length raw)
        → read_levels manner levels in_digest (slice_range raw s part_end) ≡ Err e
        → with_trees front (parts_from levels in_digest dash_boundary raw (Some s)) ≡ all → all ≡ Err e
    unfolding part_bytes
    parts_refused front all s part_end e ends read before =
        let here : read_levels manner levels in_digest (part_bytes s) ≡ Err e =
        ap (λ n. read_levels manner levels in_digest (slice_range raw s n)) (sym ends) ∙ read in
        sym before ∙ ap (with_trees front) (parts_from-some s) ∙ ap (λ (r : Reads Tree). with_trees front (◌>>=◌ r (rest_from s))) here

    -- all parts
    pub parts_end : (front : List Tree) (all : Reads Forest) → with_trees front (parts_from levels in_digest dash_boundary raw None) ≡ all → all ≡ Ok (forest front)
    parts_end front all before =
        sym before ∙ ap (λ (rs : List Range). with_trees front (read_each (read_levels manner levels in_digest) (map (slice raw) rs))) (part_ranges_as-none (whole_lines_for manner.whole_lines dash_boundary) dash_boundary raw)
        ∙ ap Ok (forest_and-none front)

-- ---- the reading of a message

-- In a manner of reading.
module _ (manner : Manner) where
  -- a message with no levels left is refused
  pub read_levels-none : (levels : ℕ) (in_digest : Bool) (raw : List ℕ) → levels ≡ 0 → read_levels manner levels in_digest raw ≡ or_kept manner raw (Err recursion_limit)
  unfolding read_levels
  read_levels-none zero in_digest raw e = refl
  read_levels-none (suc levels) in_digest raw e = absurd (omega arith)

  -- the reading of one with levels left
  abbrev pub reading : ℕ → Bool → List ℕ → Reads Tree
  reading levels in_digest raw = read_message manner (read_levels manner (levels - 1)) in_digest raw

  pub read_levels-step : (levels : ℕ) (in_digest : Bool) (raw : List ℕ) → 0 < levels → read_levels manner levels in_digest raw ≡ or_kept manner raw (reading levels in_digest raw)
  unfolding read_levels
  read_levels-step zero in_digest raw some = absurd (omega arith)
  read_levels-step (suc levels) in_digest raw some =
      let less : levels ≡ suc levels - 1 = omega arith in
      ap (λ (n : ℕ). or_kept manner raw (read_message manner (read_levels manner n) in_digest raw)) less

  -- a message that was read
  pub or_kept-read : (raw : List ℕ) (r : Reads Tree) (t : Tree) → r ≡ Ok t → or_kept manner raw r ≡ Ok t
  or_kept-read raw r t e = by_manner manner.keeps_refused
    where
      by_manner : (k : Bool) → if k then kept_if_refused raw r else r ≡ Ok t
      by_manner true = ap (kept_if_refused raw) e
      by_manner false = e

  pub read_levels-read : (levels : ℕ) (in_digest : Bool) (raw : List ℕ) (t : Tree) → 0 < levels → reading levels in_digest raw ≡ Ok t → read_levels manner levels in_digest raw ≡ Ok t
  read_levels-read levels in_digest raw t some e = read_levels-step levels in_digest raw some ∙ or_kept-read raw (reading levels in_digest raw) t e

  -- only a manner that does not keep refused messages refuses one
  or_kept-refused : (raw : List ℕ) (r : Reads Tree) (e : Refusal) → or_kept manner raw r ≡ Err e → manner.keeps_refused ≡ false
  or_kept-refused raw r e h = by_manner manner.keeps_refused r h
    where
      by_manner : (k : Bool) (r : Reads Tree) → if k then kept_if_refused raw r else r ≡ Err e → k ≡ false
      by_manner false r h = refl
      by_manner true (Ok t) h = absurd (cc)
      by_manner true (Err refusal) h = absurd (cc)

  pub refuses : (levels : ℕ) (in_digest : Bool) (raw : List ℕ) (e : Refusal) → read_levels manner levels in_digest raw ≡ Err e → manner.keeps_refused ≡ false
  unfolding read_levels
  refuses zero in_digest raw e h = or_kept-refused raw (Err recursion_limit) e h
  refuses (suc levels) in_digest raw e h = or_kept-refused raw (read_message manner (read_levels manner levels) in_digest raw) e h

  -- a message that has a refused part
  pub read_levels-refused : (levels : ℕ) (in_digest : Bool) (raw : List ℕ) (e : Refusal) (digest : Bool) (part : List ℕ) → 0 < levels → read_levels manner (levels - 1) digest part ≡ Err e
      → reading levels in_digest raw ≡ Err e → read_levels manner levels in_digest raw ≡ Err e
  read_levels-refused levels in_digest raw e digest part some refused h =
      read_levels-step levels in_digest raw some
      ∙ ap (λ (k : Bool). if k then kept_if_refused raw (reading levels in_digest raw) else reading levels in_digest raw) (refuses (levels - 1) digest part e refused) ∙ h

  -- a message that is refused for its own headers
  pub reading-refused : (levels : ℕ) (in_digest : Bool) (raw : List ℕ) (e : Refusal) → read_block manner.lenient_headers raw ≡ Err e → reading levels in_digest raw ≡ Err e
  reading-refused levels in_digest raw e refused = rw refused refl

  -- a message with this block and this type
  module _ (levels : ℕ) (in_digest : Bool) (raw : List ℕ) (headers : List Header) (index : ℕ) (ctype : ContentType) where
    typed : read_block manner.lenient_headers raw ≡ Ok (record { headers = headers; index = index }) → manner.type_of in_digest headers ≡ ctype
        → reading levels in_digest raw ≡ read_parts manner (read_levels manner (levels - 1)) raw (record { headers = headers; index = index }) ctype
    typed read type =
        ap (λ (r : Reads HeaderList). ◌>>=◌ r (λ block. read_parts manner (read_levels manner (levels - 1)) raw block (manner.type_of in_digest block.headers))) read
        ∙ ap (λ (t : ContentType). read_parts manner (read_levels manner (levels - 1)) raw (record { headers = headers; index = index }) t) type

    -- one that has no parts
    pub read_levels-leaf : 0 < levels → read_block manner.lenient_headers raw ≡ Ok (record { headers = headers; index = index }) → manner.type_of in_digest headers ≡ ctype
        → dash_boundary_of ctype ≡ None
        → read_levels manner levels in_digest raw
        ≡ Ok (tree (record { bytes = raw; block = take index raw; headers = headers; ctype = ctype; body = slice_range raw index (length raw) }) no_parts)
    read_levels-leaf some read type none = read_levels-read levels in_digest raw _ some (typed read type ∙ (rw none refl))

    cut_at : (dash_boundary : List ℕ) → dash_boundary_of ctype ≡ Some dash_boundary → cut_of_as manner.whole_lines ctype raw index ≡ cut_parts_as (whole_lines_for manner.whole_lines dash_boundary) dash_boundary raw index
    cut_at dash_boundary e = rw e refl

    -- one that may have parts
    pub reading-parts : (dash_boundary : List ℕ) → read_block manner.lenient_headers raw ≡ Ok (record { headers = headers; index = index })
        → manner.type_of in_digest headers ≡ ctype → dash_boundary_of ctype ≡ Some dash_boundary
        → reading levels in_digest raw
        ≡ read_map (tree (record { bytes = raw; block = take index raw; headers = headers; ctype = ctype; body = slice_range raw index (preamble_end_as (whole_lines_for manner.whole_lines dash_boundary) dash_boundary raw index) }))
        (parts_from manner (levels - 1) (is_digest ctype) dash_boundary raw (first_part_as (whole_lines_for manner.whole_lines dash_boundary) dash_boundary raw index))
    unfolding cut_parts_as
    reading-parts dash_boundary read type delimiter =
        typed read type
        ∙ ap (λ (cut : Cut). read_map (tree (node_with raw (record { headers = headers; index = index }) ctype cut))
        (read_each (read_levels manner (levels - 1) (is_digest ctype)) (map (slice raw) cut.parts))) (cut_at dash_boundary delimiter)

-- ---- the dash-boundary of a type, and the LF before it

pub line_delimiter_some : (line_delimiter : List ℕ) (o : Option (List ℕ)) → Some line_delimiter ≡ option_map (λ dash_boundary. 10 ∷ dash_boundary) o → (o ≡ Some (drop 1 line_delimiter)) × (line_delimiter ≡ 10 ∷ drop 1 line_delimiter)
line_delimiter_some line_delimiter None e = let clash : Some line_delimiter ≡ None = e in absurd (cc)
line_delimiter_some line_delimiter (Some dash_boundary) e =
    let here : Some line_delimiter ≡ Some (10 ∷ dash_boundary) = e in
    let same : line_delimiter ≡ 10 ∷ dash_boundary = cc in
    (ap (λ (l : List ℕ). Some (drop 1 l)) (sym same), same ∙ ap (λ (l : List ℕ). 10 ∷ drop 1 l) (sym same))

pub line_delimiter_none : (o : Option (List ℕ)) → None ≡ option_map (λ dash_boundary. 10 ∷ dash_boundary) o → o ≡ None
line_delimiter_none None e = refl
line_delimiter_none (Some dash_boundary) e = let clash : None ≡ Some (10 ∷ dash_boundary) = e in absurd (cc)

-- a dash-boundary has at least the two bytes before the boundary
pub dash_boundary_of-length : (ctype : ContentType) (dash_boundary : List ℕ) → dash_boundary_of ctype ≡ Some dash_boundary → 2 ≤ length dash_boundary
dash_boundary_of-length ctype dash_boundary e = by_tests (has_prefix (codes "multipart") ctype.mimetype) (ctype.params (codes "boundary")) e
  where
    by_tests : (t : Bool) (o : Option (List ℕ)) → if t then option_map (λ b. codes "--" ++ b) o else None ≡ Some dash_boundary → 2 ≤ length dash_boundary
    by_tests false o h = let clash : None ≡ Some dash_boundary = h in absurd (cc)
    by_tests true None h = let clash : None ≡ Some dash_boundary = h in absurd (cc)
    by_tests true (Some b) h =
        let here : Some (codes "--" ++ b) ≡ Some dash_boundary = h in
        let same : codes "--" ++ b ≡ dash_boundary = cc in
        subst (λ (x : List ℕ). 2 ≤ length x) same (omega arith)

pub IsLineDelimiter-of : (line_delimiter : List ℕ) (ctype : ContentType) → Some line_delimiter ≡ option_map (λ dash_boundary. 10 ∷ dash_boundary) (dash_boundary_of ctype) → IsLineDelimiter line_delimiter
IsLineDelimiter-of line_delimiter ctype e =
    let parts = line_delimiter_some line_delimiter (dash_boundary_of ctype) e in
    let long = dash_boundary_of-length ctype (drop 1 line_delimiter) parts.0 in
    record { feed = parts.1; some = omega arith }

-- In a manner of reading.
module _ (manner : Manner) where
  -- the reading of a message that may have parts, in the terms of the code
  pub reading-whole : (levels : ℕ) (in_digest : Bool) (raw : List ℕ) (headers : List Header) (index : ℕ) (ctype : ContentType) (line_delimiter : List ℕ) (digest : Bool) (end : ℕ)
      → read_block manner.lenient_headers raw ≡ Ok (record { headers = headers; index = index }) → manner.type_of in_digest headers ≡ ctype
      → Some line_delimiter ≡ option_map (λ dash_boundary. 10 ∷ dash_boundary) (dash_boundary_of ctype) → digest ≡ is_digest ctype → end ≡ preamble_end_as (whole_lines_for manner.whole_lines (drop 1 line_delimiter)) (drop 1 line_delimiter) raw index
      → reading manner levels in_digest raw
      ≡ read_map (tree (record { bytes = raw; block = take index raw; headers = headers; ctype = ctype; body = slice_range raw index end }))
      (parts_from manner (levels - 1) digest (drop 1 line_delimiter) raw (first_part_as (whole_lines_for manner.whole_lines (drop 1 line_delimiter)) (drop 1 line_delimiter) raw index))
  reading-whole levels in_digest raw headers index ctype line_delimiter digest end read type made is ends =
      let dash_boundary = drop 1 line_delimiter in
      reading-parts manner levels in_digest raw headers index ctype dash_boundary read type (line_delimiter_some line_delimiter (dash_boundary_of ctype) made).0
      ∙ ap (λ (b : Bool). read_map (tree (record { bytes = raw; block = take index raw; headers = headers; ctype = ctype; body = slice_range raw index (preamble_end_as (whole_lines_for manner.whole_lines dash_boundary) dash_boundary raw index) }))
      (parts_from manner (levels - 1) b dash_boundary raw (first_part_as (whole_lines_for manner.whole_lines dash_boundary) dash_boundary raw index))) (sym is)
      ∙ ap (λ (n : ℕ). read_map (tree (record { bytes = raw; block = take index raw; headers = headers; ctype = ctype; body = slice_range raw index n }))
      (parts_from manner (levels - 1) digest dash_boundary raw (first_part_as (whole_lines_for manner.whole_lines dash_boundary) dash_boundary raw index))) (sym ends)

-- the parts of a message, in order
pub ruleset parts_within = (map-append, append-nil, drop_all, trees_within-out)

-- the type of a message
pub ruleset node_types = (node_type-some, node_type-none)
