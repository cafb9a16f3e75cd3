-- What is so of each message of a mail that was read: its headers and its block, and that it has a place.
use Rattle.std.proofs.Common.{◌≡◌, ◌∙◌, ℕ, zero, suc, ◌+◌, Bool, false, List, [], ◌∷◌, ◌++◌, length, map, take, Ok, Err, refl, sym, ap, subst, arith, length-append}
use Rattle.std.specs.List.{AllByRecursion}
use Rattle.std.proofs.lemmas.List.{length-map, length-take, map-append}
use Rattle.mail_codec.specs.Charset.{Charsets}
use Rattle.mailparse.specs.Block.{HeaderList, read_headers}
use Rattle.mailparse.specs.ContentType.{ContentType}
use Rattle.mailparse.specs.Mail.{strict, Node, Tree, tree, Forest, no_parts, part_and, cut_of, is_digest, node_type, node_with, read_each, read_levels, read_mail_in, read_parts, root, trees_in, trees_within}
use Rattle.mailparse.specs.Placement.{Placement, placements, placements_in}
use Rattle.mailparse.specs.Ranges.{Range, slice}
use Rattle.mailparse.specs.Refusal.{◌>>=◌, Reads}
use Rattle.mailparse.proofs.lemmas.Block.{read_headers-bounded}
use Rattle.mailparse.proofs.lemmas.Refusal.{read_map}
use Rattle.mail_read.specs.Files.{parts_with_paths, path_under, whole_path, with_paths}
use Rattle.mail_read.specs.PartPlaces.{Place, placed, places}

-- ---- lists of which each element is so

pub all_joined : {X : Type 0} (P : X → Type 0) (xs ys : List X) → AllByRecursion P xs → AllByRecursion P ys → AllByRecursion P (xs ++ ys)
all_joined P [] ys h k = k
all_joined P (x ∷ xs) ys h k = (h.0, all_joined P xs ys h.1 k)

pub all_of_map : {X Y : Type 0} (f : X → Y) (P : Y → Type 0) (xs : List X) → AllByRecursion P (map f xs) → AllByRecursion (λ x. P (f x)) xs
all_of_map f P [] h = tt
all_of_map f P (x ∷ xs) h = (h.0, all_of_map f P xs h.1)

pub map_of_all : {X Y : Type 0} (f : X → Y) (P : Y → Type 0) (xs : List X) → AllByRecursion (λ x. P (f x)) xs → AllByRecursion P (map f xs)
map_of_all f P [] h = tt
map_of_all f P (x ∷ xs) h = (h.0, map_of_all f P xs h.1)

pub all_with : {X : Type 0} (P Q R : X → Type 0) → ((x : X) → P x → Q x → R x) → (xs : List X) → AllByRecursion P xs → AllByRecursion Q xs → AllByRecursion R xs
all_with P Q R f [] h k = tt
all_with P Q R f (x ∷ xs) h k = (f x h.0 k.0, all_with P Q R f xs h.1 k.1)

-- ---- readings

-- the headers of a message are those at the front of its bytes, and its block is what they take
pub record IsRead (node : Node) : Type 0 where
  pub index : ℕ
  pub headers : read_headers node.bytes ≡ Ok (record { headers = node.headers; index = index })
  pub block : node.block ≡ take index node.bytes

-- a message that was read with its parts: each has this, and a place
record AreRead (bytes : List ℕ) (t : Tree) : Type 0 where
  whole : (root t).bytes ≡ bytes
  each : AllByRecursion (λ (t : Tree). IsRead (root t)) (trees_within t)
  count : (start : ℕ) → length (placements start t) ≡ length (trees_within t)

record PartsRead (ranges : List Range) (parts : Forest) : Type 0 where
  each : AllByRecursion (λ (t : Tree). IsRead (root t)) (trees_in parts)
  count : (start : ℕ) → length (placements_in start ranges parts) ≡ length (trees_in parts)

module _ (known : Charsets) where
  each-read : (read : List ℕ → Reads Tree) → ((bytes : List ℕ) (t : Tree) → read bytes ≡ Ok t → AreRead bytes t) → (bytes : List ℕ) (ranges : List Range) (parts : Forest)
      → read_each read (map (slice bytes) ranges) ≡ Ok parts → PartsRead ranges parts
  each-read read good bytes [] parts e =
      let same : no_parts ≡ parts = cc in
      subst (PartsRead []) same (record { each = tt; count = λ start. refl })
  each-read read good bytes (range ∷ ranges) parts e =
      by_part (read (slice bytes range)) (read_each read (map (slice bytes) ranges)) refl refl e (each-read read good bytes ranges)
    where
      by_part : (first : Reads Tree) (rest : Reads Forest) → read (slice bytes range) ≡ first → read_each read (map (slice bytes) ranges) ≡ rest
          → ◌>>=◌ first (λ t. read_map (part_and t) rest) ≡ Ok parts
          → ((others : Forest) → read_each read (map (slice bytes) ranges) ≡ Ok others → PartsRead ranges others)
          → PartsRead (range ∷ ranges) parts
      by_part (Err refusal) rest f g h ih = absurd (cc)
      by_part (Ok t) (Err refusal) f g h ih = absurd (cc)
      by_part (Ok t) (Ok others) f g h ih =
          let same : part_and t others ≡ parts = cc in
          let first = good (slice bytes range) t f in
          let more = ih others g in
          subst (PartsRead (range ∷ ranges)) same (record {
            each = all_joined (λ (t : Tree). IsRead (root t)) (trees_within t) (trees_in others) first.each more.each;
            count = λ start.
                let both = length-append (placements (start + range.start) t) (placements_in start ranges others) in
                let trees = length-append (trees_within t) (trees_in others) in
                let own = first.count (start + range.start) in
                let left = more.count start in
                omega (arith, both, trees, own, left);
          })

  levels-read : (levels : ℕ) (in_digest : Bool) (bytes : List ℕ) (t : Tree) → read_levels (strict known) levels in_digest bytes ≡ Ok t → AreRead bytes t
  unfolding read_levels
  levels-read zero in_digest bytes t e = absurd (cc)
  levels-read (suc levels) in_digest bytes t e = by_block (read_headers bytes) refl e (λ digest. levels-read levels digest)
    where
      by_parts : (block : HeaderList) (ctype : ContentType) → read_headers bytes ≡ Ok block → (parts : Reads Forest)
          → read_each (read_levels (strict known) levels (is_digest ctype)) (map (slice bytes) (cut_of ctype bytes block.index).parts) ≡ parts
          → read_map (tree (node_with bytes block ctype (cut_of ctype bytes block.index))) parts ≡ Ok t
          → ((digest : Bool) (bytes : List ℕ) (t : Tree) → read_levels (strict known) levels digest bytes ≡ Ok t → AreRead bytes t) → AreRead bytes t
      by_parts block ctype is (Err refusal) f h ih = absurd (cc)
      by_parts block ctype is (Ok parts) f h ih =
          let cut = cut_of ctype bytes block.index in
          let same : tree (node_with bytes block ctype cut) parts ≡ t = cc in
          let more = each-read (read_levels (strict known) levels (is_digest ctype)) (ih (is_digest ctype)) bytes cut.parts parts f in
          let size = length-take block.index bytes in
          let fits = (read_headers-bounded bytes block is).index in
          let front : length (take block.index bytes) ≡ block.index = omega (arith, size, fits) in
          subst (AreRead bytes) same (record {
            whole = refl;
            each = (record { index = block.index; headers = is; block = refl }, more.each);
            count = λ start.
                ap (λ (n : ℕ). suc (length (placements_in start (cut_of ctype bytes n).parts parts))) front ∙ ap suc (more.count start);
          })

      by_block : (block : Reads HeaderList) → read_headers bytes ≡ block
          → ◌>>=◌ block (λ b. read_parts (strict known) (read_levels (strict known) levels) bytes b (node_type known in_digest b.headers)) ≡ Ok t
          → ((digest : Bool) (bytes : List ℕ) (t : Tree) → read_levels (strict known) levels digest bytes ≡ Ok t → AreRead bytes t) → AreRead bytes t
      by_block (Err refusal) is h ih = absurd (cc)
      by_block (Ok block) is h ih = by_parts block (node_type known in_digest block.headers) is _ refl h ih

  mail-read : (greatest : ℕ) (bytes : List ℕ) (t : Tree) → read_mail_in known greatest bytes ≡ Ok t → AreRead bytes t
  unfolding read_mail_in
  mail-read greatest bytes t e = levels-read (suc greatest) false bytes t e

-- ---- places

mutual
  trees-paths : (path : List ℕ) (t : Tree) → map (λ (m : List ℕ × Tree). m.1) (with_paths path t) ≡ trees_within t
  trees-paths path (tree node parts) = ap (λ (ts : List Tree). tree node parts ∷ ts) (trees-parts path 1 parts)

  trees-parts : (path : List ℕ) (number : ℕ) (parts : Forest) → map (λ (m : List ℕ × Tree). m.1) (parts_with_paths path number parts) ≡ trees_in parts
  trees-parts path number no_parts = refl
  trees-parts path number (part_and t ts) =
      map-append (λ (m : List ℕ × Tree). m.1) (with_paths (path_under path number) t) (parts_with_paths path (suc number) ts)
      ∙ ap (λ (xs : List Tree). xs ++ map (λ (m : List ℕ × Tree). m.1) (parts_with_paths path (suc number) ts)) (trees-paths (path_under path number) t)
      ∙ ap (λ (xs : List Tree). trees_within t ++ xs) (trees-parts path (suc number) ts)

parts-placed : (messages : List (List ℕ × Tree)) (found : List Placement) → length found ≡ length messages
    → map (λ (p : Place). p.part) (placed messages found) ≡ map (λ (m : List ℕ × Tree). m.1) messages
parts-placed [] found e = refl
parts-placed (m ∷ messages) [] e = absurd (omega (arith, e))
parts-placed (m ∷ messages) (p ∷ found) e = ap (λ (ts : List Tree). m.1 ∷ ts) (parts-placed messages found (omega (arith, e)))

-- each message of a mail that was read has a placement
pub paths-counted : (known : Charsets) (greatest : ℕ) (bytes : List ℕ) (t : Tree) → read_mail_in known greatest bytes ≡ Ok t
    → (path : List ℕ) → length (placements 0 t) ≡ length (with_paths path t)
paths-counted known greatest bytes t e path =
    let messages = with_paths path t in
    let counted : length messages ≡ length (trees_within t) =
    sym (length-map messages (λ (m : List ℕ × Tree). m.1)) ∙ ap length (trees-paths path t) in
    (mail-read known greatest bytes t e).count 0 ∙ sym counted

-- the messages at these places are a mail that was read, and its parts
pub record AreThere (bytes : List ℕ) (t : Tree) (found : List Place) : Type 0 where
  pub parts : map (λ (p : Place). p.part) found ≡ trees_within t
  pub whole : (root t).bytes ≡ bytes
  pub each : AllByRecursion (λ (t : Tree). IsRead (root t)) (trees_within t)

pub placed-there : (known : Charsets) (greatest : ℕ) (bytes : List ℕ) (t : Tree) → read_mail_in known greatest bytes ≡ Ok t
    → (path : List ℕ) → AreThere bytes t (placed (with_paths path t) (placements 0 t))
placed-there known greatest bytes t e path = record {
  parts = parts-placed (with_paths path t) (placements 0 t) (paths-counted known greatest bytes t e path) ∙ trees-paths path t;
  whole = (mail-read known greatest bytes t e).whole;
  each = (mail-read known greatest bytes t e).each;
}

pub mail-there : (known : Charsets) (greatest : ℕ) (bytes : List ℕ) (t : Tree) → read_mail_in known greatest bytes ≡ Ok t
    → AreThere bytes t (places t (placements 0 t))
mail-there known greatest bytes t e = placed-there known greatest bytes t e (whole_path t)
