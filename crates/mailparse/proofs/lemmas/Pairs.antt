-- Lemmas on the pairs of a text, and on the map of them.
use Rattle.std.proofs.Common.{◌≡◌, ℕ, suc, ◌<◌, Bool, true, false, cond, ltb, List, [], ◌∷◌, ◌++◌, length, drop, Option, Some, None, refl, sym, ap, ◌∙◌, arith}
use Rattle.std.proofs.lemmas.Bool.{cond-true, cond-false, lt-ltb, le-ltb}
use Rattle.std.proofs.lemmas.Map.Text.{btree_map_updates_text}
use Rattle.std.specs.Borrow.{Bor}
use Rattle.std.specs.BTreeMap.{BTreeMap, UpdatesBy}
use Rattle.std.specs.Global.{Global}
use Rattle.std.specs.List.{position_or_len, before_first, after_first}
use Rattle.std.specs.Map.{update, update_all}
use Rattle.std.specs.Option.{option_map, option_to_list}
use Rattle.std.specs.Prelude.{String, string_bytes, slice_index_or}
use Rattle.std.specs.Str.{bytes_eq, str_to_ascii_lowercase, trim}
use Rattle.std.specs.String.{string_cmp}
use Rattle.mailparse.specs.Pairs.{Texts, text_at, is_equals, pair_of, pairs_in, pairs_of, value_of}
use Rattle.mailparse.specs.Segments.{segments, unescape}
use Rattle.mailparse.specs.private.Pairs.{pair_view}

-- ---- the map

-- the texts of a map after these pairs are inserted in turn
abbrev pub stores : Texts → List (List ℕ × List ℕ) → Texts
stores texts pairs = update_all bytes_eq texts pairs

-- the length of the rest of a text
abbrev pub rest_length : Option (Bor (List ℕ)) → ℕ
rest_length None = 0
rest_length (Some rest) = suc (length rest.now)

-- a map over a choice is a choice of what it maps to
pub mapped : {X Y : Type 0} (f : X → Y) (t : Bool) (x : X) (o : Option X) → option_map f (cond t (Some x) o) ≡ cond t (Some (f x)) (option_map f o)
mapped f true x o = refl
mapped f false x o = refl

-- the texts of a map after a text is inserted
pub stored : (old new : BTreeMap (String Global) (String Global)) (key value : String Global)
    → UpdatesBy string_cmp (string_cmp key) old new (Some value)
    → text_at new ≡ update bytes_eq (text_at old) (string_bytes key) (Some (string_bytes value))
stored old new key value updates = λ i name.
    (ap (option_map string_bytes) (btree_map_updates_text (string_bytes key) old new (Some value) updates name)
    ∙ mapped string_bytes (bytes_eq (string_bytes key) name) value _) i

-- ---- one segment

pub pair_of-some : (segment : List ℕ) → position_or_len is_equals segment < length segment
    → pair_of segment ≡ Some (str_to_ascii_lowercase (trim (before_first is_equals segment)), unescape (trim (after_first is_equals segment)))
unfolding pair_of
pair_of-some segment lt = cond-true _ _ _ (lt-ltb _ _ lt)

pub pair_of-none : (segment : List ℕ) → position_or_len is_equals segment ≡ length segment → pair_of segment ≡ None
unfolding pair_of
pair_of-none segment e = cond-false _ _ _ (ap (λ n. ltb n (length segment)) e ∙ le-ltb (length segment) (length segment) (omega arith))

-- ---- the walk over the segments

pub pairs_in-some : (segment : List ℕ) (more : List (List ℕ)) (key value : List ℕ) → pair_of segment ≡ Some (key, value)
    → pairs_in (segment ∷ more) ≡ (key, value) ∷ pairs_in more
pairs_in-some segment more key value e = ap (λ p. option_to_list p ++ pairs_in more) e

-- a segment with a pair
pub stores_pair : (texts new all : Texts) (found : List (List ℕ)) (segment : List ℕ) (more : List (List ℕ)) (key value : List ℕ)
    → found ≡ segment ∷ more → pair_of segment ≡ Some (key, value) → new ≡ update bytes_eq texts key (Some value)
    → stores texts (pairs_in found) ≡ all → stores new (pairs_in more) ≡ all
stores_pair texts new all found segment more key value cut e put here =
    ap (λ t. stores t (pairs_in more)) put
    ∙ sym (ap (λ ps. stores texts (pairs_in ps)) cut ∙ ap (stores texts) (pairs_in-some segment more key value e))
    ∙ here

pub pair_is : (found : String Global × String Global) (given : List ℕ × List ℕ) → string_bytes found.0 ≡ given.0 → string_bytes found.1 ≡ given.1
    → Some (pair_view found) ≡ Some given
pair_is found given key value = λ i. Some (key i, value i)

-- ---- a whole text

pub value_of-first : (text segment : List ℕ) (more : List (List ℕ)) → segments text ≡ segment ∷ more → value_of text ≡ trim segment
unfolding value_of
value_of-first text segment more e = ap (λ ps. trim (slice_index_or ps 0 [])) e

pub pairs_of-later : (text segment : List ℕ) (more : List (List ℕ)) → segments text ≡ segment ∷ more → pairs_of text ≡ pairs_in more
unfolding pairs_of
pairs_of-later text segment more e = ap (λ ps. pairs_in (drop 1 ps)) e

-- the pair of a segment
pub ruleset pair_readings = (pair_of-some, pair_of-none, pair_is)

-- the value, and the pairs after it
pub ruleset values_and_pairs = (value_of-first, pairs_of-later)
