-- Lemmas on the parameters of a type.
use Rattle.std.proofs.Common.{◌≡◌, ℕ, Bool, true, false, List, [], ◌∷◌, map, Some, cond, option_map, String, refl, sym}
use Rattle.std.proofs.lemmas.Map.Text.{is_eq-slice_cmp}
use Rattle.std.specs.BTreeMap.{BTreeMap, IsOrdered}
use Rattle.std.specs.Cmp.Lexicographic.{slice_cmp}
use Rattle.std.specs.Global.{Global}
use Rattle.std.specs.List.{AllByRecursion}
use Rattle.std.specs.List.Sorted.{IsStrictlySortedBy}
use Rattle.std.specs.Map.{keys_of, lookup}
use Rattle.std.specs.Ordering.{is_eq, nat_cmp}
use Rattle.std.specs.Str.{bytes_eq}
use Rattle.std.specs.String.{string_bytes, string_cmp}
use Rattle.mailparse.specs.Pairs.{text_at}
use Rattle.mail_parts.specs.Part.{Lists}

-- an entry of a map as texts
abbrev pub pair_of : String Global × String Global → List ℕ × List ℕ
pair_of entry = (string_bytes entry.0, string_bytes entry.1)

-- one entry more
looked_up : (name : List ℕ) (k : String Global) (v : String Global) (es : List (String Global × String Global)) (a b : Bool) → a ≡ b
    → lookup (bytes_eq name) (map pair_of es) ≡ option_map string_bytes (lookup (λ key. is_eq (slice_cmp nat_cmp name (string_bytes key))) es)
    → cond a (Some (string_bytes v)) (lookup (bytes_eq name) (map pair_of es))
    ≡ option_map string_bytes (cond b (Some v) (lookup (λ key. is_eq (slice_cmp nat_cmp name (string_bytes key))) es))
looked_up name k v es true b e here = rw (sym e) refl
looked_up name k v es false b e here = rw (sym e) here

lookup-pairs : (name : List ℕ) (es : List (String Global × String Global))
    → lookup (bytes_eq name) (map pair_of es) ≡ option_map string_bytes (lookup (λ key. is_eq (slice_cmp nat_cmp name (string_bytes key))) es)
lookup-pairs name [] = refl
lookup-pairs name (e ∷ es) = looked_up name e.0 e.1 es (bytes_eq name (string_bytes e.0)) (is_eq (slice_cmp nat_cmp name (string_bytes e.0)))
    (sym (is_eq-slice_cmp name (string_bytes e.0))) (lookup-pairs name es)

all-keys : (P : List ℕ → Type 0) (es : List (String Global × String Global)) → AllByRecursion (λ y. P (string_bytes y)) (keys_of es)
    → AllByRecursion P (map (λ p. p.0) (map pair_of es))
all-keys P [] h = tt
all-keys P (e ∷ es) h = (h.0, all-keys P es h.1)

sorted-pairs : (es : List (String Global × String Global)) → IsStrictlySortedBy string_cmp (keys_of es)
    → IsStrictlySortedBy (slice_cmp nat_cmp) (map (λ p. p.0) (map pair_of es))
unfolding IsStrictlySortedBy
sorted-pairs [] h = tt
sorted-pairs (e ∷ es) h = (all-keys _ es h.0, sorted-pairs es h.1)

-- the entries of a map list its texts
pub lists-entries : (m : BTreeMap (String Global) (String Global)) → IsOrdered string_cmp m → Lists (text_at m) (map pair_of m.entries)
lists-entries m h = record { ordered = sorted-pairs m.entries h; same = λ name. lookup-pairs name m.entries }
