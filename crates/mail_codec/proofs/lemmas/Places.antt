-- Lemmas on the least place with a property.
use Rattle.std.proofs.Common.{◌≢◌, ◌-◌, sym, length-drop, ◌≡◌, ℕ, zero, suc, ◌+◌, ◌<◌, ◌≤◌, Bool, true, false, cond, List, [], ◌∷◌, length, drop, get_or, Some, inl, inr, refl, ap, subst, ◌∙◌, arith}
use Rattle.std.specs.Prelude.{nat_eq}
use Rattle.std.specs.List.{position_or_len, starts_with}
use Rattle.std.proofs.lemmas.Bool.{cases_Bool, cases_lt, lt-ltb}
use Rattle.std.proofs.lemmas.List.{drop_more, drop-drop}
use Rattle.mail_codec.specs.Places.{first_place, place_from, begins, has_prefix, place, least, IsFirstPlace}

-- ---- the least number

-- a number below the bound that passes and below which none passes is the least
pub least-is : (test : ℕ → Bool) (bound n : ℕ) → n ≤ bound → ((k : ℕ) → k < n → test k ≡ false) → (n < bound → test n ≡ true) → least test bound ≡ n
least-is test zero n h below at = omega arith
least-is test (suc bound) zero h below at = let e : test 0 ≡ true = at (omega arith) in rw e refl
least-is test (suc bound) (suc n) h below at =
    let e : test 0 ≡ false = below 0 (omega arith) in
    rw e (ap suc (least-is (λ k. test (suc k)) bound n (omega arith) (λ k low. below (suc k) (omega arith)) (λ low. at (omega arith))))

-- no number below it passes
pub least-before : (test : ℕ → Bool) (bound k : ℕ) → k < least test bound → test k ≡ false
least-before test zero k h = absurd (omega arith)
least-before test (suc bound) k h = by_test (test 0) refl k h (least-before (λ n. test (suc n)) bound)
  where
    by_test : (v : Bool) → test 0 ≡ v → (k : ℕ) → k < least test (suc bound) → ((j : ℕ) → j < least (λ n. test (suc n)) bound → test (suc j) ≡ false) → test k ≡ false
    by_test true e k h later = let z : least test (suc bound) ≡ 0 = rw e refl in absurd (omega arith)
    by_test false e zero h later = e
    by_test false e (suc k) h later = let s : least test (suc bound) ≡ suc (least (λ n. test (suc n)) bound) = rw e refl in later k (omega arith)

-- below the bound, it passes
pub least-passes : (test : ℕ → Bool) (bound : ℕ) → least test bound < bound → test (least test bound) ≡ true
least-passes test zero h = absurd (omega arith)
least-passes test (suc bound) h = elim (cases_Bool (test 0)) [
  | inl e ↦ rw e e
  | inr e ↦
      let s : least test (suc bound) ≡ suc (least (λ n. test (suc n)) bound) = rw e refl in
      rw s (least-passes (λ n. test (suc n)) bound (omega arith))
]

-- ---- the least place

-- it lies within the bytes
pub first_place-≤ : (test : List ℕ → Bool) (bytes : List ℕ) → first_place test bytes ≤ length bytes
first_place-≤ test [] = omega arith
first_place-≤ test (b ∷ rest) =
    let h : first_place test rest ≤ length rest = first_place-≤ test rest in
    elim (test (b ∷ rest)) as (λ v. cond v 0 (suc (first_place test rest)) ≤ suc (length rest)) [ true ↦ omega arith | false ↦ omega arith ]

-- where the bytes themselves pass, it is their start
pub first_place-here : (test : List ℕ → Bool) (bytes : List ℕ) → test bytes ≡ true → first_place test bytes ≡ 0
first_place-here test [] h = refl
first_place-here test (b ∷ rest) h = rw h refl

-- a place that fails is skipped
pub first_place-past : (test : List ℕ → Bool) (b : ℕ) (rest : List ℕ) → test (b ∷ rest) ≡ false → first_place test (b ∷ rest) ≡ suc (first_place test rest)
first_place-past test b rest h = rw h refl

-- the same at a place further on
pub first_place-past_at : (test : List ℕ → Bool) (bytes : List ℕ) (i : ℕ) → i < length bytes → test (drop i bytes) ≡ false → first_place test (drop i bytes) ≡ suc (first_place test (drop (i + 1) bytes))
first_place-past_at test bytes i h e =
    let cut = drop_more bytes i 0 h in
    ap (first_place test) cut ∙ first_place-past test (get_or bytes i 0) (drop (i + 1) bytes) (subst (λ (x : List ℕ). test x ≡ false) cut e)

-- it is the least number of bytes after which the rest passes
first_place-least : (test : List ℕ → Bool) (bytes : List ℕ) → first_place test bytes ≡ least (λ k. test (drop k bytes)) (length bytes)
first_place-least test [] = refl
first_place-least test (b ∷ rest) = ap (λ n. cond (test (b ∷ rest)) 0 (suc n)) (first_place-least test rest)

-- the rest from there onwards passes
pub first_place-passes : (test : List ℕ → Bool) (bytes : List ℕ) → first_place test bytes < length bytes → test (drop (first_place test bytes) bytes) ≡ true
first_place-passes test bytes h =
    let is = first_place-least test bytes in
    subst (λ n. test (drop n bytes) ≡ true) (sym is) (least-passes (λ k. test (drop k bytes)) (length bytes) (omega arith))

-- no rest from an earlier place does
pub first_place-before : (test : List ℕ → Bool) (bytes : List ℕ) (k : ℕ) → k < first_place test bytes → test (drop k bytes) ≡ false
first_place-before test bytes k h = least-before (λ n. test (drop n bytes)) (length bytes) k (omega (arith, first_place-least test bytes))

-- all three
pub first_place-is_first : (test : List ℕ → Bool) (bytes : List ℕ) → IsFirstPlace test bytes (first_place test bytes)
first_place-is_first test bytes = record {
  within = first_place-≤ test bytes;
  passes = first_place-passes test bytes;
  before = first_place-before test bytes;
}

pub true_not_false : {v : Bool} → v ≡ true → v ≡ false → ⊥
true_not_false a b = cc

-- two least places of one property are one
pub IsFirstPlace-unique : (test : List ℕ → Bool) (bytes : List ℕ) (p q : ℕ) → IsFirstPlace test bytes p → IsFirstPlace test bytes q → p ≡ q
IsFirstPlace-unique test bytes p q h k =
    let is : (p : ℕ) → IsFirstPlace test bytes p → least (λ k. test (drop k bytes)) (length bytes) ≡ p = λ p h. least-is (λ k. test (drop k bytes)) (length bytes) p h.within h.before h.passes in
    sym (is p h) ∙ is q k

-- a search that has come to place i, and whose result is the first place from there onwards
pub record PassedTo (test : List ℕ → Bool) (bytes : List ℕ) (answer i : ℕ) : Type 0 where
  pub within : i ≤ length bytes
  pub later : answer ≡ i + first_place test (drop i bytes)

-- skips one more
pub PassedTo-more : (test : List ℕ → Bool) (bytes : List ℕ) (answer i : ℕ) → PassedTo test bytes answer i → i < length bytes → test (drop i bytes) ≡ false → PassedTo test bytes answer (i + 1)
PassedTo-more test bytes answer i h low e =
    let past = first_place-past_at test bytes i low e in
    let later = h.later in
    record { within = omega arith; later = omega arith }

-- has found the place where the rest passes
pub PassedTo-first : (test : List ℕ → Bool) (bytes : List ℕ) (answer i : ℕ) → PassedTo test bytes answer i → test (drop i bytes) ≡ true → answer ≡ i
PassedTo-first test bytes answer i h e =
    let here = first_place-here test (drop i bytes) e in
    let later = h.later in
    omega arith

-- the same for a search over all bytes
pub place-found : (test : List ℕ → Bool) (bytes : List ℕ) (i : ℕ) → PassedTo test bytes (first_place test bytes) i → i < length bytes → test (drop i bytes) ≡ true → place test bytes ≡ Some i
place-found test bytes i h low e = rw (PassedTo-first test bytes (first_place test bytes) i h e) (rw (lt-ltb i (length bytes) low) refl)

-- a test of the first byte, at a place
pub begins-at : (test : ℕ → Bool) (bytes : List ℕ) (i : ℕ) → i < length bytes → begins test (drop i bytes) ≡ test (get_or bytes i 0)
begins-at test bytes i h = ap (begins test) (drop_more bytes i 0 h)

-- a test of single bytes, as std searches for it
pub first_place-begins : (test : ℕ → Bool) (bytes : List ℕ) → first_place (begins test) bytes ≡ position_or_len test bytes
first_place-begins test [] = refl
first_place-begins test (b ∷ rest) = elim (cases_Bool (test b)) [
  | inl e ↦ rw e refl
  | inr e ↦
      let one : 1 + position_or_len test rest ≡ suc (position_or_len test rest) = omega arith in
      rw (e, one) (ap suc (first_place-begins test rest))
]

-- a text at the front, as std's `starts_with` tests it
pub has_prefix-starts_with : (text bytes : List ℕ) → starts_with nat_eq bytes text ≡ has_prefix text bytes
has_prefix-starts_with text bytes = refl

-- ---- at or after a start

-- seen from a place at or before it, it is the same place
pub first_place-drop : (test : List ℕ → Bool) (bytes : List ℕ) (k : ℕ) → k ≤ first_place test bytes
    → first_place test (drop k bytes) + k ≡ first_place test bytes
first_place-drop test bytes zero h = omega arith
first_place-drop test [] (suc k) h = absurd (omega arith)
first_place-drop test (b ∷ bytes) (suc k) h = elim (cases_Bool (test (b ∷ bytes))) [
  | inl e ↦ let here = first_place-here test (b ∷ bytes) e in absurd (omega arith)
  | inr e ↦ let later = first_place-past test b bytes e in let same = first_place-drop test bytes k (omega arith) in omega arith
]

-- a place found lies at or after the start, and within the length
pub place_from_bounds : (test : List ℕ → Bool) (bytes : List ℕ) (s : ℕ) → s ≤ length bytes
    → (s ≤ place_from test bytes s) × (place_from test bytes s ≤ length bytes)
place_from_bounds test bytes s h =
    let le = first_place-≤ test (drop s bytes) in
    let len = length-drop s bytes in
    (omega arith, omega arith)

-- the rest there passes
pub place_from_passes : (test : List ℕ → Bool) (bytes : List ℕ) (s : ℕ) → s ≤ length bytes → place_from test bytes s ≢ length bytes
    → test (drop (place_from test bytes s) bytes) ≡ true
place_from_passes test bytes s h some =
    let le = first_place-≤ test (drop s bytes) in
    let len = length-drop s bytes in
    let inside : first_place test (drop s bytes) < length (drop s bytes) = omega arith in
    let there = drop-drop (first_place test (drop s bytes)) s bytes in
    subst (λ rest. test rest ≡ true) there (first_place-passes test (drop s bytes) inside)

-- the same place is found from each place between the start and it
pub place_from_same : (test : List ℕ → Bool) (bytes : List ℕ) (s k : ℕ) → s ≤ k → k ≤ place_from test bytes s
    → place_from test bytes k ≡ place_from test bytes s
place_from_same test bytes s k low high =
    let d = k - s in
    let same = first_place-drop test (drop s bytes) d (omega arith) in
    let there = ap (first_place test) (drop-drop d s bytes ∙ ap (λ n. drop n bytes) {x = s + d} {y = k} (omega arith)) in
    omega arith

-- a place whose rest passes is the one found from it
pub place_from_here : (test : List ℕ → Bool) (bytes : List ℕ) (s : ℕ) → s < length bytes → test (drop s bytes) ≡ true
    → place_from test bytes s ≡ s
place_from_here test bytes s h e = omega (arith, first_place-here test (drop s bytes) e)

-- a place whose rest fails is skipped
pub place_from_next : (test : List ℕ → Bool) (bytes : List ℕ) (s : ℕ) → s < length bytes → test (drop s bytes) ≡ false
    → place_from test bytes s ≡ place_from test bytes (s + 1)
place_from_next test bytes s h e = omega (arith, first_place-past_at test bytes s h e)

first_place_weaker : (test stronger : List ℕ → Bool) → ((rest : List ℕ) → stronger rest ≡ true → test rest ≡ true) → (bytes : List ℕ)
    → first_place test bytes ≤ first_place stronger bytes
first_place_weaker test stronger implies bytes = elim (cases_lt (first_place stronger bytes) (first_place test bytes)) [
  | inl lt ↦ absurd (true_not_false (implies _ (first_place-passes stronger bytes (omega (arith, first_place-≤ test bytes)))) (first_place-before test bytes _ lt))
  | inr ge ↦ ge
]

-- a test that passes wherever another does has its place at or before that one's
pub place_from_weaker : (test stronger : List ℕ → Bool) → ((rest : List ℕ) → stronger rest ≡ true → test rest ≡ true) → (bytes : List ℕ) (s : ℕ)
    → place_from test bytes s ≤ place_from stronger bytes s
place_from_weaker test stronger implies bytes s = let le = first_place_weaker test stronger implies (drop s bytes) in omega arith
