-- Mails inside a mail are at their offsets of the input, and so are their parts.
use Rattle.std.proofs.Common.{◌≡◌, ℕ, zero, suc, ◌+◌, ◌-◌, ◌^◌, ◌<◌, ◌≤◌, true, List, [], ◌∷◌, ◌++◌, length, map, take, drop, Option, Some, None, Ok, Err, refl, sym, ap, subst, ◌∙◌, arith}
use Rattle.std.specs.Prelude.{flat_map, min}
use Rattle.std.specs.List.{AllByRecursion}
use Rattle.std.specs.Option.{option_map_or}
use Rattle.std.specs.Result.{result_ok}
use Rattle.std.proofs.lemmas.Bool.{cond_both}
use Rattle.std.proofs.lemmas.List.{length-take, length-drop, map-append}
use Rattle.mail_codec.specs.Charset.{Charsets}
use Rattle.mailparse.specs.Body.{decoded, in_base64, in_quoted_printable, in_7bit, in_8bit, in_binary}
use Rattle.mailparse.specs.Mail.{strict, Node, Tree, tree, Forest, no_parts, part_and, nodes, read_mail_as, read_mail_in, root, trees_in, trees_within}
use Rattle.mailparse.specs.Manner.{Manner}
use Rattle.mailparse.specs.Placement.{Placement, placements, placements_as}
use Rattle.mailparse.specs.Ranges.{Range, Apart, moved, slice}
use Rattle.mailparse.specs.Refusal.{Reads}
use Rattle.mail_read.specs.Files.{parts_with_paths, path_under, with_paths}
use Rattle.mail_read.specs.InnerMails.{InnerMail, holds_mail, inner_mails, inner_mails_as, inner_mails_by, inner_mails_within, is_plain, mail_bytes, mail_start, places_under}
use Rattle.mail_read.specs.PartPlaces.{Place, placed}
use Rattle.mail_read.specs.Reading.{mail_placements, mail_reading}
use Rattle.mail_read.specs.lenient.Content.{lenient_content}
use Rattle.mail_read.specs.lenient.Encoding.{LenientKind, in_uuencode, lenient_body_kind, standard}
use Rattle.mail_read.specs.lenient.Manner.{lenient}
use Rattle.mail_laws.specs.InnerMails.{AreAt}
use Rattle.mail_laws.specs.RangeTree.{RangeTree, range_tree, RangeForest, no_ranges, ranges_and, range_root, tree_there, wholes, AreNested, AllNested, wholes_and_bodies, wholes_and_bodies_in, ranges_as}
use Rattle.mail_laws.proofs.lemmas.Limits.{read_without}
use Rattle.mail_laws.proofs.lemmas.Placement.{placements_as-bodies, placements_as-bytes, placements_as-ranges}
use Rattle.mail_laws.proofs.lemmas.RangeTree.{Apart-order, ranges_as-nested, ranges_as-there, slice-moved}
use Rattle.mailparse.proofs.lemmas.Refusal.{read_map}

all-append : {A : Type 0} (P : A → Type 0) (xs ys : List A) → AllByRecursion P xs → AllByRecursion P ys → AllByRecursion P (xs ++ ys)
all-append P [] ys first second = second
all-append P (x ∷ xs) ys first second = (first.0, all-append P xs ys first.1 second)

all-flat : {A B : Type 0} (P : B → Type 0) (Q : A → Type 0) (f : A → List B) → ((x : A) → Q x → AllByRecursion P (f x)) → (xs : List A) → AllByRecursion Q xs → AllByRecursion P (flat_map f xs)
all-flat P Q f each [] all = tt
all-flat P Q f each (x ∷ xs) all = all-append P (f x) (flat_map f xs) (each x all.0) (all-flat P Q f each xs all.1)

-- ---- ranges within the bytes of a mail

-- the ranges of a message lie within that many bytes
pub record IsWithin (n : ℕ) (place : Placement) : Type 0 where
  pub whole_order : place.whole.start ≤ place.whole.end
  pub whole_ends : place.whole.end ≤ n
  pub body_order : place.body.start ≤ place.body.end
  pub body_ends : place.body.end ≤ n

mutual
  within-tree : (n : ℕ) (t : RangeTree) → AreNested t → (range_root t).whole.start ≤ (range_root t).whole.end → (range_root t).whole.end ≤ n
      → AllByRecursion (IsWithin n) (wholes_and_bodies t)
  within-tree n (range_tree node parts) nested order ends =
      let lie = nested.0 in
      let inner = Apart-order 3 node.body.end (wholes parts) node.whole.end lie.parts in
      let body = lie.body in (
        record { whole_order = order; whole_ends = ends; body_order = body; body_ends = omega (arith, inner, ends) },
        within-forest n node.body.end parts node.whole.end lie.parts nested.1 ends,
      )

  within-forest : (n from : ℕ) (ts : RangeForest) (to : ℕ) → Apart 3 from (wholes ts) to → AllNested ts → to ≤ n
      → AllByRecursion (IsWithin n) (wholes_and_bodies_in ts)
  within-forest n from no_ranges to apart nested ends = tt
  within-forest n from (ranges_and t ts) to apart nested ends =
      let inner = Apart-order 3 (range_root t).whole.end (wholes ts) to apart.2 in
      all-append (IsWithin n) (wholes_and_bodies t) (wholes_and_bodies_in ts) (within-tree n t nested.0 apart.1 (omega (arith, inner, ends)))
      (within-forest n (range_root t).whole.end ts to apart.2 nested.1 ends)

-- Of a mail that is read in a manner.
module _ (manner : Manner) (greatest : ℕ) (mail : List ℕ) (parsed : Tree) (read : read_mail_as manner greatest mail ≡ Ok parsed) where
  pub placements-within : AllByRecursion (IsWithin (length mail)) (placements_as manner.whole_lines 0 parsed)
  placements-within = by_ranges (ranges_as manner mail greatest) refl (ranges_as-there manner mail greatest ∙ read)
    where
      by_ranges : (found : Reads RangeTree) → ranges_as manner mail greatest ≡ found → read_map (tree_there mail) found ≡ Ok parsed
          → AllByRecursion (IsWithin (length mail)) (placements_as manner.whole_lines 0 parsed)
      by_ranges (Err refusal) e there = absurd (cc)
      by_ranges (Ok ranges) e there =
          let nested = ranges_as-nested manner mail greatest ranges e in
          let start = ap (λ (r : Range). r.start) nested.0 in
          let end = ap (λ (r : Range). r.end) nested.0 in
          subst (AllByRecursion (IsWithin (length mail))) (sym (placements_as-ranges manner greatest mail parsed read ranges e))
          (within-tree (length mail) ranges nested.1 (omega (arith, start, end)) (omega (arith, end)))

-- ---- bytes at an offset of bytes that are at an offset

slice-at : (input bytes : List ℕ) (start : ℕ) (r : Range) → AreAt input (Some start) bytes → r.start ≤ r.end → r.end ≤ length bytes → slice bytes r ≡ slice input (moved start r)
slice-at input bytes start r at order ends =
    let whole : Range = record { start = start; end = start + length bytes } in
    let size = ap length at.1 in
    ap (λ (text : List ℕ). slice text r) (sym at.1) ∙ slice-moved input whole r order (omega (arith, size, ends))

-- ranges of placements that lie within the bytes
ranges-at : (input bytes : List ℕ) (start : ℕ) (at : AreAt input (Some start) bytes) (range : Placement → Range)
    → ((place : Placement) → IsWithin (length bytes) place → ((range place).start ≤ (range place).end) × ((range place).end ≤ length bytes)) → (found : List Placement)
    → AllByRecursion (IsWithin (length bytes)) found → map (λ place. slice input (moved start (range place))) found ≡ map (λ place. slice bytes (range place)) found
ranges-at input bytes start at range lies [] within = refl
ranges-at input bytes start at range lies (place ∷ found) within =
    let lie = lies place within.0 in
    ap (λ (text : List ℕ). text ∷ map (λ place. slice input (moved start (range place))) found)
    (sym (slice-at input bytes start (range place) at lie.0 lie.1))
    ∙ ap (λ (texts : List (List ℕ)). slice bytes (range place) ∷ texts) (ranges-at input bytes start at range lies found within.1)

pub parts-at : (manner : Manner) (greatest start : ℕ) (input bytes : List ℕ) (mail : Tree) → AreAt input (Some start) bytes → read_mail_as manner greatest bytes ≡ Ok mail
    → map (λ place. slice input (moved start place.whole)) (placements_as manner.whole_lines 0 mail) ≡ map (λ node. node.bytes) (nodes mail)
parts-at manner greatest start input bytes mail at read =
    ranges-at input bytes start at (λ place. place.whole) (λ place within. (within.whole_order, within.whole_ends)) (placements_as manner.whole_lines 0 mail) (placements-within manner greatest bytes mail read)
    ∙ placements_as-bytes manner greatest bytes mail read

pub part-bodies-at : (manner : Manner) (greatest start : ℕ) (input bytes : List ℕ) (mail : Tree) → AreAt input (Some start) bytes → read_mail_as manner greatest bytes ≡ Ok mail
    → map (λ place. slice input (moved start place.body)) (placements_as manner.whole_lines 0 mail) ≡ map (λ node. node.body) (nodes mail)
part-bodies-at manner greatest start input bytes mail at read =
    ranges-at input bytes start at (λ place. place.body) (λ place within. (within.body_order, within.body_ends)) (placements_as manner.whole_lines 0 mail) (placements-within manner greatest bytes mail read)
    ∙ placements_as-bodies manner greatest bytes mail read

-- ---- the places of a mail and its parts

mutual
  paths-nodes : (path : List ℕ) (t : Tree) → map (λ (p : List ℕ × Tree). root p.1) (with_paths path t) ≡ nodes t
  paths-nodes path (tree node parts) = ap (λ (ns : List Node). node ∷ ns) (paths-parts path 1 parts)

  paths-parts : (path : List ℕ) (number : ℕ) (ts : Forest) → map (λ (p : List ℕ × Tree). root p.1) (parts_with_paths path number ts) ≡ map root (trees_in ts)
  paths-parts path number no_parts = refl
  paths-parts path number (part_and t ts) =
      map-append (λ (p : List ℕ × Tree). root p.1) (with_paths (path_under path number) t) (parts_with_paths path (suc number) ts)
      ∙ ap (λ (ns : List Node). ns ++ map (λ (p : List ℕ × Tree). root p.1) (parts_with_paths path (suc number) ts)) (paths-nodes (path_under path number) t)
      ∙ ap (λ (ns : List Node). nodes t ++ ns) (paths-parts path (suc number) ts)
      ∙ sym (map-append root (trees_within t) (trees_in ts))

-- a place has the body of its part
pub record HasBody (bytes : List ℕ) (place : Place) : Type 0 where
  pub body : slice bytes place.placement.body ≡ (root place.part).body
  pub within : IsWithin (length bytes) place.placement

head-same : {A : Type 0} (x y : A) (xs ys : List A) → x ∷ xs ≡ y ∷ ys → x ≡ y
head-same x y xs ys e = cc

tail-same : {A : Type 0} (x y : A) (xs ys : List A) → x ∷ xs ≡ y ∷ ys → xs ≡ ys
tail-same x y xs ys e = cc

placed-bodies : (bytes : List ℕ) (messages : List (List ℕ × Tree)) (found : List Placement) → AllByRecursion (IsWithin (length bytes)) found
    → map (λ place. slice bytes place.body) found ≡ map (λ (p : List ℕ × Tree). (root p.1).body) messages → AllByRecursion (HasBody bytes) (placed messages found)
placed-bodies bytes [] found within same = tt
placed-bodies bytes (m ∷ messages) [] within same = tt
placed-bodies bytes (m ∷ messages) (place ∷ found) within same =
    (record { body = head-same _ _ _ _ same; within = within.0 }, placed-bodies bytes messages found within.1 (tail-same _ _ _ _ same))

map-map-bodies : (messages : List (List ℕ × Tree)) → map (λ (p : List ℕ × Tree). (root p.1).body) messages ≡ map (λ (node : Node). node.body) (map (λ (p : List ℕ × Tree). root p.1) messages)
map-map-bodies [] = refl
map-map-bodies (m ∷ messages) = ap (λ (texts : List (List ℕ)). (root m.1).body ∷ texts) (map-map-bodies messages)

-- ---- the mail in a part

plain-content : (kind : LenientKind) (raw : List ℕ) → is_plain kind ≡ true → (lenient_content kind raw).bytes ≡ raw
unfolding lenient_content decoded
plain-content (standard in_base64) raw h = absurd (cc)
plain-content (standard in_quoted_printable) raw h = absurd (cc)
plain-content (standard in_7bit) raw h = refl
plain-content (standard in_8bit) raw h = refl
plain-content (standard in_binary) raw h = refl
plain-content in_uuencode raw h = absurd (cc)

min-left : (a b : ℕ) → a ≤ b → min a b ≡ a
min-left a b h = omega (arith, h)

module _ (input : List ℕ) (small : length input < 2 ^ 64) where
  plain-at : (bytes : List ℕ) (start : ℕ) (place : Place) → AreAt input (Some start) bytes → HasBody bytes place → is_plain (lenient_body_kind (root place.part)) ≡ true
      → AreAt input (Some (min (start + place.placement.body.start) (2 ^ 64 - 1))) (mail_bytes place)
  plain-at bytes start place at has plain =
      let body = place.placement.body in
      let order = has.within.body_order in
      let ends = has.within.body_ends in
      let text = plain-content (lenient_body_kind (root place.part)) (root place.part).body plain in
      let cut = length-take (body.end - body.start) (drop body.start bytes) in
      let rest = length-drop body.start bytes in
      let size = ap length has.body in
      let all = ap length text in
      let fits = at.0 in
      let there : start + body.start + length (mail_bytes place) ≡ start + body.end = omega (arith, cut, rest, size, all, order, ends) in
      let low : start + body.start ≤ 2 ^ 64 - 1 = omega (arith, fits, order, ends, small) in
      subst (λ (n : ℕ). AreAt input (Some n) (mail_bytes place)) (sym (min-left (start + body.start) (2 ^ 64 - 1) low)) (
        omega (arith, there, fits, ends),
        ap (λ (n : ℕ). slice input (record { start = start + body.start; end = n })) there ∙ sym (slice-at input bytes start body at order ends) ∙ has.body ∙ sym text,
      )

  held-at : (bytes : List ℕ) (start : Option ℕ) (place : Place) → AreAt input start bytes → HasBody bytes place → AreAt input (mail_start start place) (mail_bytes place)
  unfolding mail_start
  held-at bytes None place at has = tt
  held-at bytes (Some start) place at has =
      cond_both (is_plain (lenient_body_kind (root place.part))) (Some (min (start + place.placement.body.start) (2 ^ 64 - 1))) None
      (λ (o : Option ℕ). AreAt input o (mail_bytes place)) (λ plain. plain-at bytes start place at has plain) (λ encoded. tt)

  -- Of mails that are read so.
  module _ (reads : List ℕ → Reads Tree) (placed_in : Tree → List Placement)
      (within : (bytes : List ℕ) (t : Tree) → reads bytes ≡ Ok t → AllByRecursion (IsWithin (length bytes)) (placed_in t))
      (bodies : (bytes : List ℕ) (t : Tree) → reads bytes ≡ Ok t → map (λ place. slice bytes place.body) (placed_in t) ≡ map (λ (node : Node). node.body) (nodes t)) where
    abbrev IsThere : InnerMail → Type 0
    IsThere inner = AreAt input inner.start inner.bytes

    places-have : (path bytes : List ℕ) (t : Tree) → reads bytes ≡ Ok t → AllByRecursion (HasBody bytes) (places_under path t (placed_in t))
    unfolding places_under
    places-have path bytes t read =
        placed-bodies bytes _ (placed_in t) (within bytes t read)
        (bodies bytes t read ∙ ap (map (λ (node : Node). node.body)) (sym (paths-nodes _ t)) ∙ sym (map-map-bodies _))

    -- what is said of the mails inside a mail, at most that many mails deep
    abbrev AreThere : ℕ → Type 0
    AreThere most =
        (path : List ℕ) (start : Option ℕ) (bytes : List ℕ) (t : Tree) → reads bytes ≡ Ok t → AreAt input start bytes
        → AllByRecursion IsThere (inner_mails_by reads placed_in most path start t (placed_in t))

    below-at : (most : ℕ) → AreThere most → (start : Option ℕ) (place : Place) (read : Reads Tree) → reads (mail_bytes place) ≡ read
        → AreAt input (mail_start start place) (mail_bytes place)
        → AllByRecursion IsThere (option_map_or (λ inside. inner_mails_by reads placed_in most place.path (mail_start start place) inside (placed_in inside)) (result_ok read) [])
    below-at most deeper start place (Err refusal) e held = tt
    below-at most deeper start place (Ok inside) e held = deeper place.path (mail_start start place) (mail_bytes place) inside e held

    pub mails-at : (most : ℕ) (path : List ℕ) (start : Option ℕ) (bytes : List ℕ) (t : Tree) → reads bytes ≡ Ok t → AreAt input start bytes
        → AllByRecursion IsThere (inner_mails_by reads placed_in most path start t (placed_in t))
    mails-at zero path start bytes t read at = tt
    mails-at (suc most) path start bytes t read at =
        all-flat IsThere (HasBody bytes) _ (λ place has.
        let held = held-at bytes start place at has in
        cond_both (holds_mail place) _ [] (AllByRecursion IsThere) (λ holds. (held, below-at most (mails-at most) start place (reads (mail_bytes place)) refl held)) (λ none. tt))
        (places_under path t (placed_in t)) (places-have path bytes t read)

-- ---- of a whole input

whole-at : (input : List ℕ) → AreAt input (Some 0) input
whole-at input = (omega arith, (let all : 0 + length input - 0 ≡ length input = omega arith in ap (λ (n : ℕ). take n input) all ∙ take_whole input))
  where
    take_whole : (text : List ℕ) → take (length text) text ≡ text
    take_whole [] = refl
    take_whole (b ∷ text) = ap (λ (t : List ℕ). b ∷ t) (take_whole text)

pub inner_mails_as-at : (manner : Manner) (input : List ℕ) (mail : Tree) → length input < 2 ^ 64 → read_mail_as manner 100 input ≡ Ok mail
    → AllByRecursion (λ inner. AreAt input inner.start inner.bytes) (inner_mails_as manner 100 [] (Some 0) mail (placements_as manner.whole_lines 0 mail))
inner_mails_as-at manner input mail small read =
    mails-at input small (read_mail_as manner 100) (placements_as manner.whole_lines 0) (λ bytes t. placements-within manner 100 bytes t)
    (λ bytes t. placements_as-bodies manner 100 bytes t) 100 [] (Some 0) input mail read (whole-at input)

pub inner_mails-at : (known : Charsets) (input : List ℕ) (mail : Tree) → length input < 2 ^ 64 → read_mail_in known 100 input ≡ Ok mail
    → AllByRecursion (λ inner. AreAt input inner.start inner.bytes) (inner_mails known 100 [] (Some 0) mail (placements 0 mail))
unfolding read_mail_in
inner_mails-at known input mail small read = inner_mails_as-at (strict known) input mail small read

-- as the programs read mails
read_leniently : (known : Charsets) (limit : ℕ) (bytes : List ℕ) (t : Tree) → mail_reading known limit bytes ≡ Ok t → read_mail_as (lenient known) 100 bytes ≡ Ok t
unfolding mail_reading
read_leniently known limit bytes t read = read_without (lenient known) 100 limit bytes t read

pub inner_mails_within-at : (known : Charsets) (limit : ℕ) (input : List ℕ) (mail : Tree) → length input < 2 ^ 64 → mail_reading known limit input ≡ Ok mail
    → AllByRecursion (λ inner. AreAt input inner.start inner.bytes) (inner_mails_within known limit 100 [] (Some 0) mail (mail_placements mail))
inner_mails_within-at known limit input mail small read =
    mails-at input small (mail_reading known limit) mail_placements (λ bytes t h. placements-within (lenient known) 100 bytes t (read_leniently known limit bytes t h))
    (λ bytes t h. placements_as-bodies (lenient known) 100 bytes t (read_leniently known limit bytes t h)) 100 [] (Some 0) input mail read (whole-at input)
