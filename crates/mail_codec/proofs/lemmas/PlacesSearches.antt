-- Searches that go over words and steps.
use Rattle.std.proofs.Common.{◌≡◌, ℕ, zero, suc, ◌+◌, ◌*◌, ◌/◌, ◌<◌, ◌≤◌, ◌≢◌, bit_or, Bool, true, false, ◌==◌, None, Some, List, [], ◌∷◌, length, take, drop, get_or, inl, inr, refl, sym, ap, subst, ◌∙◌, arith}
use Rattle.std.specs.List.{slice_get}
use Rattle.std.specs.Simd.{first_chunks}
use Rattle.std.proofs.lemmas.Bool.{and_parts, cases_Bool, cases_lt, lt-ltb, le-ltb}
use Rattle.std.proofs.lemmas.List.{drop-drop, length-drop, length-take-le, take_all}
use Rattle.std.proofs.lemmas.Nat.{le_or_l, le_or_r}
use Rattle.std.proofs.Math.Nat.{mul-suc}
use Rattle.mail_codec.specs.Places.{first_place, begins, place, has_prefix, text_place}
use Rattle.std.proofs.lemmas.Bool.Decides.{nat_tests, Decides-eqb}
use Rattle.mail_codec.specs.private.Vectors.{lane_mask}
use Rattle.mail_codec.proofs.lemmas.Places.{PassedTo, first_place-≤, first_place-drop, place_from_weaker, place-found}
use Rattle.mail_codec.proofs.lemmas.Vectors.{no_match}

-- ---- chunks

pub chunk_at : (n k : ℕ) (xs : List ℕ) (i : ℕ) → i < k → get_or (first_chunks n k xs) i [] ≡ take n (drop (n * i) xs)
chunk_at n zero xs i h = absurd (omega arith)
chunk_at n (suc k) xs zero h = ap (λ (j : ℕ). take n (drop j xs)) {x = 0} {y = n * 0} (omega arith)
chunk_at n (suc k) xs (suc i) h = chunk_at n k (drop n xs) i (omega arith) ∙ ap (take n) (drop-drop (n * i) n xs ∙ ap (λ (j : ℕ). drop j xs) {x = n + n * i} {y = n * suc i} (omega (arith, mul-suc n i)))

-- ---- a part at the front

-- if no byte of it passes, the search goes on after it
pub free_front : (test : ℕ → Bool) (n : ℕ) (xs : List ℕ) → n ≤ length xs → first_place (begins test) (take n xs) ≡ n
    → first_place (begins test) xs ≡ n + first_place (begins test) (drop n xs)
free_front test zero xs h e = omega arith
free_front test (suc n) [] h e = absurd (omega arith)
free_front test (suc n) (x ∷ xs) h e = elim (cases_Bool (test x)) [
  | inl t ↦ let here : 0 ≡ suc n = rw t at e in absurd (omega arith)
  | inr t ↦ let past : suc (first_place (begins test) (take n xs)) ≡ suc n = rw t at e in let rest = free_front test n xs (omega arith) (omega arith) in rw t (omega arith)
]

-- if one passes, it is the first of all
pub found_front : (test : ℕ → Bool) (n : ℕ) (xs : List ℕ) → first_place (begins test) (take n xs) < n → n ≤ length xs
    → first_place (begins test) xs ≡ first_place (begins test) (take n xs)
found_front test zero xs l h = absurd (omega arith)
found_front test (suc n) [] l h = absurd (omega arith)
found_front test (suc n) (x ∷ xs) l h = elim (cases_Bool (test x)) [
  | inl t ↦ rw t refl
  | inr t ↦ let past : suc (first_place (begins test) (take n xs)) < suc n = rw t at l in rw t (ap suc (found_front test n xs (omega arith) (omega arith)))
]

-- ---- steps of a search

-- skips a chunk
pub PassedTo-chunk : (test : ℕ → Bool) (bytes chunk : List ℕ) (answer at n : ℕ) → PassedTo (begins test) bytes answer at → at + n ≤ length bytes
    → chunk ≡ take n (drop at bytes) → first_place (begins test) chunk ≡ n → PassedTo (begins test) bytes answer (at + n)
PassedTo-chunk test bytes chunk answer at n h fits is free =
    let len = length-drop at bytes in
    let on = free_front test n (drop at bytes) (omega arith) (sym (ap (first_place (begins test)) is) ∙ free) in
    let later = h.later in
    let there : first_place (begins test) (drop n (drop at bytes)) ≡ first_place (begins test) (drop (at + n) bytes) = ap (first_place (begins test)) (drop-drop n at bytes ∙ ap (λ (j : ℕ). drop j bytes) (omega arith)) in
    record { within = fits; later = omega arith }

-- has found it within a chunk
pub PassedTo-found : (test : ℕ → Bool) (bytes chunk : List ℕ) (answer at n : ℕ) → PassedTo (begins test) bytes answer at → at + n ≤ length bytes
    → chunk ≡ take n (drop at bytes) → first_place (begins test) chunk < n → answer ≡ at + first_place (begins test) chunk
PassedTo-found test bytes chunk answer at n h fits is found =
    let len = length-drop at bytes in
    let here = found_front test n (drop at bytes) (subst (λ (xs : List ℕ). first_place (begins test) xs < n) is found) (omega arith) in
    let same = ap (first_place (begins test)) is in
    let later = h.later in
    omega arith

-- the last n bytes, some of which were searched before
pub last_chunk : (test : ℕ → Bool) (bytes : List ℕ) (n at last p : ℕ) → PassedTo (begins test) bytes (first_place (begins test) bytes) at → last + n ≡ length bytes → last ≤ at
    → p ≡ first_place (begins test) (take n (drop last bytes)) → first_place (begins test) bytes ≡ last + p
last_chunk test bytes n at last p h ends back is =
    let later = h.later in
    let seen = first_place-drop (begins test) bytes last (omega arith) in
    let whole : take n (drop last bytes) ≡ drop last bytes = take_all n (drop last bytes) (omega (arith, length-drop last bytes)) in
    let same = ap (first_place (begins test)) whole in
    omega arith

-- ---- a vector at a place

-- the first lane of its mask, or 16
module _ (test : ℕ → Bool) (bytes : List ℕ) (at mask place : ℕ) (fits : at + 16 ≤ length bytes) (matches : mask ≡ lane_mask test (take 16 (drop at bytes)))
    (first : (t : ℕ → Bool) (v : List ℕ) → length v ≡ 16 → mask ≡ lane_mask t v → place ≡ first_place (begins t) v) where
  pub lane_is : (place ≡ first_place (begins test) (take 16 (drop at bytes))) × (place ≤ 16)
  lane_is =
      let long = length-take-le 16 (drop at bytes) (omega (arith, length-drop at bytes)) in
      let is = first test (take 16 (drop at bytes)) long matches in
      (is, omega (arith, is, long, first_place-≤ (begins test) (take 16 (drop at bytes))))

  -- it is the first place, or the search goes on after the vector
  pub lane_found : (answer : ℕ) → PassedTo (begins test) bytes answer at → place ≢ 16 → at + place ≡ answer
  lane_found answer h some =
      let found = PassedTo-found test bytes (take 16 (drop at bytes)) answer at 16 h fits refl (omega (arith, lane_is, some)) in
      omega (arith, found, lane_is)

  pub lane_passed : (answer : ℕ) → PassedTo (begins test) bytes answer at → place ≡ 16 → PassedTo (begins test) bytes answer (at + 16)
  lane_passed answer h none = PassedTo-chunk test bytes (take 16 (drop at bytes)) answer at 16 h fits refl (omega (arith, lane_is, none))

-- ---- a word at a place

-- one of the words that the bytes are cut into
module _ (test : ℕ → Bool) (bytes : List ℕ) (words : List (List ℕ)) (i at mask : ℕ) (are : words ≡ first_chunks 8 (length bytes / 8) bytes)
    (within : i < length bytes / 8) (place : at ≡ 8 * i) (matches : mask ≡ lane_mask test (get_or words i [])) where
  pub word_is : get_or words i [] ≡ take 8 (drop at bytes)
  word_is =
      ap (λ (cs : List (List ℕ)). get_or cs i []) are ∙ chunk_at 8 (length bytes / 8) bytes i within ∙ ap (λ (j : ℕ). take 8 (drop j bytes)) (sym place)

  word_long : length (get_or words i []) ≡ 8
  word_long = ap length word_is ∙ length-take-le 8 (drop at bytes) (omega (arith, length-drop at bytes))

  -- it has the first place, or the search goes on after it
  pub word_found : (answer first : ℕ) → PassedTo (begins test) bytes answer at
      → ((t : ℕ → Bool) (v : List ℕ) → length v ≤ 64 → mask ≡ lane_mask t v → (first ≡ first_place (begins t) v) × (first < length v))
      → (at + first ≡ answer) × (first < 8)
  word_found answer first h least =
      let is = least test (get_or words i []) (omega (arith, word_long)) matches in
      let found = PassedTo-found test bytes (get_or words i []) answer at 8 h (omega arith) word_is (omega (arith, is.0, is.1, word_long)) in
      (omega (arith, found, is.0), omega (arith, is.1, word_long))

  pub word_passed : (answer : ℕ) → PassedTo (begins test) bytes answer at → mask ≡ 0 → PassedTo (begins test) bytes answer (at + 8)
  word_passed answer h none =
      PassedTo-chunk test bytes (get_or words i []) answer at 8 h (omega arith) word_is (sym (no_match test (get_or words i []) mask matches none) ∙ word_long)

-- two masks combined are 0 if both are
pub both_zero : (m n : ℕ) → bit_or m n ≡ 0 → (m ≡ 0) × (n ≡ 0)
both_zero m n e = (omega (arith, le_or_l m n), omega (arith, le_or_r m n))

-- ---- a test that lets more bytes pass

-- up to the first place with the weaker property, there is none with the other
pub PassedTo-weaker : (weak strong : List ℕ → Bool) → ((rest : List ℕ) → strong rest ≡ true → weak rest ≡ true)
    → (bytes rest : List ℕ) (answer at n : ℕ) → PassedTo strong bytes answer at
    → rest ≡ drop at bytes → n ≡ first_place weak rest → PassedTo strong bytes answer (at + n)
PassedTo-weaker weak strong implies bytes rest answer at n h is place =
    let weaker = place_from_weaker weak strong implies bytes at in
    let le = first_place-≤ weak (drop at bytes) in
    let len = length-drop at bytes in
    let same = ap (first_place weak) is in
    let on = first_place-drop strong (drop at bytes) n (omega arith) in
    let there : first_place strong (drop n (drop at bytes)) ≡ first_place strong (drop (at + n) bytes) = ap (first_place strong) (drop-drop n at bytes) in
    let within = h.within in
    let later = h.later in
    record { within = omega arith; later = omega arith }

-- ---- a text found by its first byte

has_prefix_begins : (needle rest : List ℕ) → 0 < length needle → has_prefix needle rest ≡ true → begins (λ b. b == get_or needle 0 0) rest ≡ true
has_prefix_begins [] rest some h = absurd (omega arith)
has_prefix_begins (n ∷ needle) [] some h = h
has_prefix_begins (n ∷ needle) (b ∷ rest) some h = (Decides-eqb b n).1 (sym ((Decides-eqb n b).0 (and_parts (n == b) _ h).0))

-- up to the first place of its first byte, the text does not occur
pub PassedTo-first_byte : (needle bytes rest : List ℕ) (answer at n : ℕ) → 0 < length needle → PassedTo (has_prefix needle) bytes answer at
    → rest ≡ drop at bytes → n ≡ first_place (begins (λ b. b == get_or needle 0 0)) rest → PassedTo (has_prefix needle) bytes answer (at + n)
PassedTo-first_byte needle bytes rest answer at n some = PassedTo-weaker (begins (λ b. b == get_or needle 0 0)) (has_prefix needle) (λ r. has_prefix_begins needle r some) bytes rest answer at n

-- the first place, if one was found and if none was
pub place_some : (test : List ℕ → Bool) (bytes : List ℕ) (p : ℕ) → Some p ≡ place test bytes → (p ≡ first_place test bytes) × (first_place test bytes < length bytes)
place_some test bytes p h = elim (cases_lt (first_place test bytes) (length bytes)) [
  | inl l ↦ let e = lt-ltb (first_place test bytes) (length bytes) l in let s = rw e at h in (cc, l)
  | inr g ↦ let e = le-ltb (first_place test bytes) (length bytes) g in let s = rw e at h in absurd (cc)
]

pub place_none : (test : List ℕ → Bool) (bytes : List ℕ) → None ≡ place test bytes → first_place test bytes ≡ length bytes
place_none test bytes h = elim (cases_lt (first_place test bytes) (length bytes)) [
  | inl l ↦ let e = lt-ltb (first_place test bytes) (length bytes) l in let s = rw e at h in absurd (cc)
  | inr g ↦ let le = first_place-≤ test bytes in omega arith
]

-- the first byte of a text that is not empty
first_item : (needle : List ℕ) (x : ℕ) → Some x ≡ slice_get needle 0 → (0 < length needle) × (x ≡ get_or needle 0 0)
first_item [] x h = absurd (cc)
first_item (n ∷ needle) x h = (omega arith, cc)

module _ (needle bytes rest : List ℕ) (answer first at : ℕ) (is : Some first ≡ slice_get needle 0) (h : PassedTo (has_prefix needle) bytes answer at) (there : rest ≡ drop at bytes) where
  same : Path (ℕ → Bool) (λ b. b == first) (λ b. b == get_or needle 0 0)
  same = λ i b. b == (first_item needle first is).1 i

  -- a place of the text's first byte
  pub candidate : (passed : ℕ) → Some passed ≡ place (begins (λ b. b == first)) rest
      → PassedTo (has_prefix needle) bytes answer (at + passed) × (at + passed < length bytes)
  candidate passed found =
      let p = place_some (begins (λ b. b == first)) rest passed found in
      let w = h.within in (
        PassedTo-first_byte needle bytes rest answer at passed (first_item needle first is).0 h there (p.0 ∙ ap (λ t. first_place (begins t) rest) same),
        omega (arith, p.0, p.1, length-drop at bytes, ap length there),
      )

  -- no more place of the text's first byte
  pub no_candidate : answer ≡ first_place (has_prefix needle) bytes → None ≡ place (begins (λ b. b == first)) rest → first_place (has_prefix needle) bytes ≡ length bytes
  no_candidate least none =
      let p = place_none (begins (λ b. b == first)) rest none in
      let w = h.within in
      let on = PassedTo-first_byte needle bytes rest answer at (length rest) (first_item needle first is).0 h there (sym p ∙ ap (λ t. first_place (begins t) rest) same) in
      let later = on.later in
      omega (arith, least, later, length-drop at bytes, ap length there, first_place-≤ (has_prefix needle) bytes)

-- the result of a search for a text
not_empty : (text : List ℕ) → 0 < length text → (length text == 0) ≡ false
not_empty [] h = absurd (omega arith)
not_empty (b ∷ text) h = grind (arith, nat_tests)

pub text_found : (needle bytes : List ℕ) (p first : ℕ) → Some first ≡ slice_get needle 0 → PassedTo (has_prefix needle) bytes (first_place (has_prefix needle) bytes) p
    → p < length bytes → has_prefix needle (drop p bytes) ≡ true → Some p ≡ text_place bytes needle
text_found needle bytes p first is h low here =
    rw (not_empty needle (first_item needle first is).0) (sym (place-found (has_prefix needle) bytes p h low here))

pub text_absent : (needle bytes : List ℕ) (first : ℕ) → Some first ≡ slice_get needle 0 → first_place (has_prefix needle) bytes ≡ length bytes → None ≡ text_place bytes needle
text_absent needle bytes first is e =
    rw (not_empty needle (first_item needle first is).0, le-ltb (first_place (has_prefix needle) bytes) (length bytes) (omega arith)) refl
