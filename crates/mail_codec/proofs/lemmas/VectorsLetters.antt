-- Letters of Base64 in a vector, and the bytes of their groups.
use Rattle.std.proofs.Common.{◌≡◌, ℕ, zero, suc, ◌+◌, ◌*◌, ◌/◌, ◌%◌, ◌^◌, ◌<◌, ◌≤◌, Bool, true, false, not, ◌&&◌, ◌||◌, ◌==◌, eqb, nat_lt, bit_and, bit_or, List, [], ◌∷◌, ◌++◌, map, length, take, drop, get_or, replicate, Option, Some, None, Ok, Fits, w8, refl, sym, ap, subst, ◌∙◌, ◌-◌, cond, inl, inr, arith}
use Rattle.std.proofs.lemmas.Bool.{agree_below, agree_below_at, and_parts, cases_eq, eq-eqb, eqb-true, ne_eqb, not-true, ltb-true}
use Rattle.std.proofs.lemmas.List.{get_or-map, get_or_append_left, length-take-le, map-id}
use Rattle.std.proofs.lemmas.List.Sums.{prefix_len_passes, prefix_len-le-length}
use Rattle.std.proofs.lemmas.Nat.{and_le_r, or_shifted, or_lt}
use Rattle.std.proofs.lemmas.Simd.{Each1-from_get_or, get_or_narrower, get_or-zip2, get_or-replicate, length-replicate, length-zip2, sum_dots, swz_l, SwzOk, tops_compared, zip2_of_maps, zip2_splat}
use Rattle.std.proofs.Math.Bool.{not-not}
use Rattle.std.proofs.Math.Seq.{take-add}
use Rattle.std.specs.List.{prefix_len}
use Rattle.std.specs.Option.{is_some}
use lib.Lanes.{Each1, zip2, dots, digits_l, mask_l, number_l, pick_l, sel_l, top}
use mir.Val.{bits, hbits}
use Rattle.mail_codec.specs.Base64.{letter, letter_value, padding, group_bytes, group_number, groups_from, after_group, prepend, three_bytes}
use Rattle.mail_codec.specs.private.Vectors.{additions, addition_place, fault_of, group_of, is_letter, lower_faults, three_at, upper_faults, value_of, AreNumbers}
use Rattle.mail_codec.specs.declared.vectors.letters.TheConstants.{ADDITIONS, LOWER_FAULTS, UPPER_FAULTS}
use Rattle.mail_codec.specs.Places.{begins, first_place}
use Rattle.mail_codec.proofs.lemmas.Places.{first_place-begins}
use Rattle.mail_codec.proofs.lemmas.Vectors.{chosen, free_mask, lane_fits, looked_up, map_same, mask_of, no_match, places_ok}
use Rattle.mail_codec.proofs.lemmas.Base64Letters.{is_value, is_value_true, letter-letter_value}
use Rattle.mail_codec.proofs.lemmas.Base64Groups.{drop_three, drop_four, groups_from-append}

-- ---- all bytes as letters

-- letters alone have no fault
others_agree : agree_below (λ b. not (fault_of b == 0)) (λ b. not (is_letter b)) 256 ≡ true
unfolding letter_value
others_agree = refl

-- the mask of the bytes that have a fault
pub others_mask : (n : ℕ) → n ≤ 64 → (v fs : List ℕ) → (length v ≡ n) × Each1 (Fits w8) v → fs ≡ map fault_of v
    → mask_l (map (top (hbits w8)) (zip2 (λ a b. cond (not (a == b)) (2 ^ bits w8 - 1) 0) fs (replicate n 0))) % 2 ^ 64 ≡ mask_l (map (λ b. not (is_letter b)) v)
others_mask n few v fs fits is =
    mask_of n few (λ a b. not (a == b)) fault_of 0 v fs fits.0 is
    ∙ ap mask_l (map_same (λ b. not (fault_of b == 0)) (λ b. not (is_letter b)) others_agree v fits.1)

-- how many letters precede the first other byte
pub letters_first : (v : List ℕ) → first_place (begins (λ b. not (is_letter b))) v ≡ prefix_len is_letter v
letters_first v = first_place-begins (λ b. not (is_letter b)) v ∙ (λ i. prefix_len (λ b. not-not (is_letter b) i) v)

-- the mask is 0 exactly where all are letters
pub all_letters : (v : List ℕ) (mask : ℕ) → length v ≡ 64 → mask ≡ mask_l (map (λ b. not (is_letter b)) v) → (mask == 0) ≡ (prefix_len is_letter v == 64)
all_letters v mask long is = elim (cases_eq mask 0) [
  | inl none ↦ eq-eqb _ _ none ∙ sym (eq-eqb _ _ (sym (letters_first v) ∙ sym (no_match (λ b. not (is_letter b)) v mask is none) ∙ long))
  | inr some ↦ ne_eqb _ _ some ∙ sym (ne_eqb _ _ (λ e. some (is ∙ free_mask (λ b. not (is_letter b)) v (letters_first v ∙ e ∙ sym long))))
]

-- the value of a letter is the computed one, and the letter is no padding
abbrev has_value : ℕ → Bool
has_value b = not (is_letter b) || (is_value (letter_value b) (value_of b) && not (b == padding))

values_agree : agree_below has_value (λ _. true) 256 ≡ true
unfolding letter_value
values_agree = refl

or_right : (a b : Bool) → not a || b ≡ true → a ≡ true → b ≡ true
or_right true b h e = h
or_right false b h e = absurd (cc e)

pub letter_read : (b : ℕ) → b < 256 → is_letter b ≡ true → (letter_value b ≡ Some (value_of b)) × (value_of b < 64) × ((b == padding) ≡ false)
letter_read b h e =
    let parts = and_parts _ _ (or_right _ _ (agree_below_at has_value (λ _. true) 256 b values_agree h) e) in
    let is = is_value_true _ _ parts.0 in
    (is, (letter-letter_value b (value_of b) is).0, not-true _ parts.1)

-- ---- look-ups in a vector of n letters

-- each index in the table of additions is one of sixteen
pub addition_place_small : (b : ℕ) → b < 256 → addition_place b < 16
addition_place_small b h = ltb-true _ _ (agree_below_at (λ x. nat_lt (addition_place x) 16) (λ _. true) 256 b refl h)

module _ (b n : ℕ) (whole : n ≡ b * 16) (few : n ≤ 64) (v : List ℕ) (fits : (length v ≡ n) × Each1 (Fits w8) v) where
  abbrev halves : List ℕ
  halves = zip2 (λ a b. a / 2 ^ b) v (replicate n 4)

  upper_half : halves ≡ map (λ b. b / 16) v
  upper_half = zip2_splat (λ a b. a / 2 ^ b) v n 4 fits.0

  lower_half : zip2 bit_and v (replicate n 15) ≡ map (λ b. bit_and b 15) v
  lower_half = zip2_splat bit_and v n 15 fits.0

  pub upper_ok : SwzOk w8 16 n 0 halves
  upper_ok = places_ok b n whole (λ b. b / 16) v halves fits upper_half (λ x h. omega arith)

  pub lower_ok : SwzOk w8 16 n 0 (zip2 bit_and v (replicate n 15))
  lower_ok = places_ok b n whole (λ b. bit_and b 15) v (zip2 bit_and v (replicate n 15)) fits lower_half (λ x h. omega (arith, and_le_r x 15))

  pub faults_are : zip2 bit_and (swz_l w8 16 (take n UPPER_FAULTS) 0 halves) (swz_l w8 16 (take n LOWER_FAULTS) 0 (zip2 bit_and v (replicate n 15))) ≡ map fault_of v
  faults_are =
      zip2_of_maps bit_and _ _ v
      (looked_up b n whole (λ b. b / 16) v halves fits upper_half (λ x h. omega arith) 64 few UPPER_FAULTS upper_faults refl)
      (looked_up b n whole (λ b. bit_and b 15) v (zip2 bit_and v (replicate n 15)) fits lower_half (λ x h. omega (arith, and_le_r x 15)) 64 few LOWER_FAULTS lower_faults refl)

  abbrev places : List ℕ
  places = zip2 (λ a b. (a + b) % 2 ^ 8) halves (sel_l (map (top (hbits w8)) (zip2 (λ a b. cond (eqb a b) (2 ^ bits w8 - 1) 0) v (replicate n 47))) (replicate n 255) (replicate n 0))

  places_are : places ≡ map addition_place v
  places_are =
      zip2_of_maps (λ a b. (a + b) % 2 ^ 8) _ _ v upper_half
      (ap (λ ms. sel_l ms (replicate n 255) (replicate n 0)) (tops_compared w8 eqb v (replicate n 47) ∙ zip2_splat eqb v n 47 fits.0)
      ∙ chosen (λ b. b == 47) 255 0 n v fits.0)

  pub additions_ok : SwzOk w8 16 n 0 places
  additions_ok = places_ok b n whole addition_place v places fits places_are addition_place_small

  pub values_are : zip2 (λ a b. (a + b) % 2 ^ 8) v (swz_l w8 16 (take n ADDITIONS) 0 places) ≡ map value_of v
  values_are =
      zip2_of_maps (λ a b. (a + b) % 2 ^ 8) _ _ v (sym (map-id v))
      (looked_up b n whole addition_place v places fits places_are addition_place_small 64 few ADDITIONS additions refl)

-- ---- numbers of groups

-- the weights of n groups
abbrev pub fours : ℕ → ℕ → ℕ → ℕ → ℕ → List ℕ
fours zero a b c d = []
fours (suc n) a b c d = a ∷ b ∷ c ∷ d ∷ fours n a b c d

abbrev pub four_sum : ℕ → ℕ → ℕ → ℕ → ℕ → ℕ → ℕ → ℕ → ℕ
four_sum a b c d w x y z = (w * a + x * b) + (y * c + z * d)

pub dots_at : (a b c d n k : ℕ) (v : List ℕ) → k < n → length v ≡ 4 * n
    → get_or (dots v (fours n a b c d)) k 0 ≡ four_sum a b c d (get_or v (4 * k) 0) (get_or v (4 * k + 1) 0) (get_or v (4 * k + 2) 0) (get_or v (4 * k + 3) 0)
dots_at a b c d zero k v h long = absurd (omega arith)
dots_at a b c d (suc n) k [] h long = absurd (omega arith)
dots_at a b c d (suc n) k (w ∷ []) h long = absurd (omega arith)
dots_at a b c d (suc n) k (w ∷ x ∷ []) h long = absurd (omega arith)
dots_at a b c d (suc n) k (w ∷ x ∷ y ∷ []) h long = absurd (omega arith)
dots_at a b c d (suc n) zero (w ∷ x ∷ y ∷ z ∷ v) h long = refl
dots_at a b c d (suc n) (suc k) (w ∷ x ∷ y ∷ z ∷ v) h long =
    let on : (i j : ℕ) → i ≡ suc (suc (suc (suc j))) → get_or v j 0 ≡ get_or (w ∷ x ∷ y ∷ z ∷ v) i 0 = λ i j e. ap (λ m. get_or (w ∷ x ∷ y ∷ z ∷ v) m 0) (sym e) in
    let e0 = on (4 * suc k) (4 * k) (omega arith) in
    let e1 = on (4 * suc k + 1) (4 * k + 1) (omega arith) in
    let e2 = on (4 * suc k + 2) (4 * k + 2) (omega arith) in
    let e3 = on (4 * suc k + 3) (4 * k + 3) (omega arith) in
    dots_at a b c d n k v (omega arith) (omega arith) ∙ (λ i. four_sum a b c d (e0 i) (e1 i) (e2 i) (e3 i))

-- two pairs put together
pub pairs_joined : (w x y z a b : ℕ) → w < 256 → x < 256 → y < 64 → z < 64 → a ≡ four_sum 64 1 0 0 w x y z → b ≡ four_sum 0 0 64 1 w x y z
    → bit_or (a * 2 ^ 12 % 2 ^ 32) b ≡ group_number w x y z
pairs_joined w x y z a b hw hx hy hz ea eb =
    let low : a * 2 ^ 12 % 2 ^ 32 ≡ a * 2 ^ 12 = omega arith in
    ap (λ (m : ℕ). bit_or m b) low ∙ or_shifted a 12 b (omega arith) ∙ omega arith

length-fours : (n a b c d : ℕ) → length (fours n a b c d) ≡ 4 * n
length-fours zero a b c d = refl
length-fours (suc n) a b c d = omega (arith, length-fours n a b c d)

-- the numbers of the n groups of a vector of values
module _ (n : ℕ) (v : List ℕ) (long : length v ≡ 4 * n) (fits : Each1 (Fits w8) v) where
  abbrev first_pairs : List ℕ
  first_pairs = dots v (fours n 64 1 0 0)

  abbrev last_pairs : List ℕ
  last_pairs = dots v (fours n 0 0 64 1)

  abbrev raised : List ℕ
  raised = zip2 (λ a b. a * 2 ^ b % 2 ^ 32) first_pairs (replicate n 12)

  first_len : length first_pairs ≡ n
  first_len = (sum_dots n v (fours n 64 1 0 0) long (length-fours n 64 1 0 0)).1

  last_len : length last_pairs ≡ n
  last_len = (sum_dots n v (fours n 0 0 64 1) long (length-fours n 0 0 64 1)).1

  raised_len : length raised ≡ n
  raised_len = length-zip2 (λ a b. a * 2 ^ b % 2 ^ 32) first_pairs (replicate n 12) (first_len ∙ sym (length-replicate {A = ℕ} n 12)) ∙ first_len

  numbers_len : length (zip2 bit_or raised last_pairs) ≡ n
  numbers_len = length-zip2 bit_or raised last_pairs (raised_len ∙ sym last_len) ∙ raised_len

  numbers_at : (k : ℕ) → k < n → get_or v (4 * k + 2) 0 < 64 → get_or v (4 * k + 3) 0 < 64
      → get_or (zip2 bit_or raised last_pairs) k 0 ≡ group_number (get_or v (4 * k) 0) (get_or v (4 * k + 1) 0) (get_or v (4 * k + 2) 0) (get_or v (4 * k + 3) 0)
  numbers_at k h hy hz =
      get_or-zip2 bit_or raised last_pairs k 0 0 0 (omega (arith, raised_len)) (omega (arith, last_len))
      ∙ ap (λ m. bit_or m (get_or last_pairs k 0))
      (get_or-zip2 (λ a b. a * 2 ^ b % 2 ^ 32) first_pairs (replicate n 12) k 0 0 0 (omega (arith, first_len)) (omega (arith, length-replicate {A = ℕ} n 12))
      ∙ ap (λ s. get_or first_pairs k 0 * 2 ^ s % 2 ^ 32) (get_or-replicate n k 12 0 h))
      ∙ pairs_joined (get_or v (4 * k) 0) (get_or v (4 * k + 1) 0) (get_or v (4 * k + 2) 0) (get_or v (4 * k + 3) 0) (get_or first_pairs k 0) (get_or last_pairs k 0)
      (lane_fits v (4 * k) fits) (lane_fits v (4 * k + 1) fits) hy hz (dots_at 64 1 0 0 n k v h long) (dots_at 0 0 64 1 n k v h long)

  numbers_fit : (k : ℕ) → k < n → get_or (zip2 bit_or raised last_pairs) k 0 < 2 ^ 32
  numbers_fit k h =
      let at = get_or-zip2 bit_or raised last_pairs k 0 0 0 (omega (arith, raised_len)) (omega (arith, last_len)) in
      let high : get_or raised k 0 < 2 ^ 32 = omega (arith, get_or-zip2 (λ a b. a * 2 ^ b % 2 ^ 32) first_pairs (replicate n 12) k 0 0 0 (omega (arith, first_len)) (omega (arith, length-replicate {A = ℕ} n 12))) in
      let low : get_or last_pairs k 0 < 2 ^ 32 = omega (arith, dots_at 0 0 64 1 n k v h long, lane_fits v (4 * k + 2) fits, lane_fits v (4 * k + 3) fits) in
      subst (λ m. m < 2 ^ 32) (sym at) (or_lt 32 (get_or raised k 0) (get_or last_pairs k 0) high low)

  pub numbers_are : AreNumbers n v (zip2 bit_or raised last_pairs)
  numbers_are = record { len = numbers_len; fits = numbers_fit; lanes = numbers_at }

-- ---- bytes of numbers

-- the bytes of number k of n, its highest first
module _ (n : ℕ) (ns : List ℕ) (small : Each1 (λ x. x < 2 ^ 32) ns) (k : ℕ) (within : k < n) (below : get_or ns k 0 < 2 ^ 24) where
  byte : (i : ℕ) → i < 4 → get_or (digits_l (2 ^ 8) (4 * n) (number_l (2 ^ 32) ns)) (4 * k + i) 0 ≡ get_or ns k 0 / (2 ^ 8) ^ i % 2 ^ 8
  byte i h = get_or_narrower (2 ^ 32) 4 (2 ^ 8) (4 * n) ns k i refl small h (omega arith)

  pub three_of : (x y z : ℕ) → x ≡ get_or (digits_l (2 ^ 8) (4 * n) (number_l (2 ^ 32) ns)) (4 * k + 2) 0
      → y ≡ get_or (digits_l (2 ^ 8) (4 * n) (number_l (2 ^ 32) ns)) (4 * k + 1) 0
      → z ≡ get_or (digits_l (2 ^ 8) (4 * n) (number_l (2 ^ 32) ns)) (4 * k + 0) 0
      → three_bytes (get_or ns k 0) ≡ x ∷ y ∷ z ∷ []
  three_of x y z ex ey ez =
      let m = get_or ns k 0 in
      let hx : m / 2 ^ 16 ≡ x = sym (ex ∙ byte 2 (omega arith) ∙ (let e : m / (2 ^ 8) ^ 2 % 2 ^ 8 ≡ m / 2 ^ 16 = omega arith in e)) in
      let hy : m / 2 ^ 8 % 2 ^ 8 ≡ y = sym (ey ∙ byte 1 (omega arith)) in
      let hz : m % 2 ^ 8 ≡ z = sym (ez ∙ byte 0 (omega arith) ∙ (let e : m / (2 ^ 8) ^ 0 % 2 ^ 8 ≡ m % 2 ^ 8 = omega arith in e)) in
      λ i. hx i ∷ hy i ∷ hz i ∷ []

-- ---- groups

-- four letters encode the bytes of their number
four_letters_read : (p q r s a b c d : ℕ) → letter_value p ≡ Some a → letter_value q ≡ Some b → letter_value r ≡ Some c → letter_value s ≡ Some d → (s == padding) ≡ false
    → group_bytes p q r s ≡ Some (three_bytes (group_number a b c d))
unfolding group_bytes
four_letters_read p q r s a b c d ea eb ec ed unpadded = rw (unpadded, ea, eb, ec, ed) refl

-- groups that encode three bytes each
pub groups_read : (v bytes : List ℕ) (m : ℕ) → 4 * m ≤ length v → 3 * m ≤ length bytes
    → ((k : ℕ) → k < m → group_of v k ≡ Some (three_at bytes k))
    → (n : ℕ) → groups_from n (take (4 * m) v) ≡ Ok (take (3 * m) bytes)
unfolding groups_from
groups_read v bytes zero long capacity each n = refl
groups_read v bytes (suc m) long capacity each n =
    let before = groups_read v bytes m (omega arith) (omega arith) (λ k h. each k (omega arith)) n in
    let split : take (4 * suc m) v ≡ take (4 * m) v ++ take 4 (drop (4 * m) v) = ap (λ k. take k v) {x = 4 * suc m} {y = 4 * m + 4} (omega arith) ∙ take-add (4 * m) 4 v in
    let four = ap (take 4) (drop_four (4 * m) v (omega arith)) in
    let len : length (take (4 * m) v) ≡ 4 * m = length-take-le (4 * m) v (omega arith) in
    let b3 : drop (3 * m) bytes ≡ get_or bytes (3 * m) 0 ∷ get_or bytes (3 * m + 1) 0 ∷ get_or bytes (3 * m + 2) 0 ∷ drop (3 * m + 3) bytes = drop_three (3 * m) bytes (omega arith) in
    let bytes_split : take (3 * suc m) bytes ≡ take (3 * m) bytes ++ three_at bytes m = ap (λ k. take k bytes) {x = 3 * suc m} {y = 3 * m + 3} (omega arith) ∙ take-add (3 * m) 3 bytes ∙ ap (λ xs. take (3 * m) bytes ++ take 3 xs) b3 in
    ap (groups_from n) split
    ∙ groups_from-append n (take (4 * m) v) (take 4 (drop (4 * m) v)) (take (3 * m) bytes) (omega (arith, len)) before
    ∙ ap (λ xs. prepend (take (3 * m) bytes) (groups_from (n + length (take (4 * m) v) / 4) xs)) four
    ∙ ap (λ g. prepend (take (3 * m) bytes) (after_group (n + length (take (4 * m) v) / 4) g (Ok []))) (each m (omega arith))
    ∙ ap Ok (sym bytes_split)

-- the n groups of a vector of letters, with their values, numbers and bytes
module _ (n : ℕ) (v vs ns : List ℕ) (long : length v ≡ 4 * n) (fits : Each1 (Fits w8) v) (vs_is : vs ≡ map value_of v) (are : AreNumbers n vs ns) where
  ns_fit : Each1 (λ x. x < 2 ^ 32) ns
  ns_fit = Each1-from_get_or (λ x. x < 2 ^ 32) ns 0 (λ i h. are.fits i (omega (arith, are.len)))

  letter_at : (i : ℕ) → i < 4 * n → i < prefix_len is_letter v
      → (letter_value (get_or v i 0) ≡ Some (get_or vs i 0)) × (get_or vs i 0 < 64) × ((get_or v i 0 == padding) ≡ false)
  letter_at i h letter =
      let read = letter_read (get_or v i 0) (lane_fits v i fits) (prefix_len_passes is_letter v i 0 letter) in
      let is : get_or vs i 0 ≡ value_of (get_or v i 0) = ap (λ l. get_or l i 0) vs_is ∙ get_or-map value_of v i 0 0 (omega (arith, long)) in
      (read.0 ∙ ap Some (sym is), omega (arith, is, read.1), read.2)

  abbrev pub number_bytes : List ℕ
  number_bytes = digits_l (2 ^ 8) (4 * n) (number_l (2 ^ 32) ns)

  group_read : (k : ℕ) → k < n → 4 * k + 4 ≤ prefix_len is_letter v → (x y z : ℕ) → x ≡ get_or number_bytes (4 * k + 2) 0 → y ≡ get_or number_bytes (4 * k + 1) 0 → z ≡ get_or number_bytes (4 * k + 0) 0
      → group_of v k ≡ Some (x ∷ y ∷ z ∷ [])
  group_read k h letters x y z ex ey ez =
      let a = letter_at (4 * k) (omega arith) (omega arith) in
      let b = letter_at (4 * k + 1) (omega arith) (omega arith) in
      let c = letter_at (4 * k + 2) (omega arith) (omega arith) in
      let d = letter_at (4 * k + 3) (omega arith) (omega arith) in
      let is = are.lanes k h c.1 d.1 in
      four_letters_read _ _ _ _ _ _ _ _ a.0 b.0 c.0 d.0 d.2
      ∙ ap (λ m. Some (three_bytes m)) (sym is)
      ∙ ap Some (three_of n ns ns_fit k h (omega (arith, is, a.1, b.1, c.1, d.1)) x y z ex ey ez)

  -- the bytes of the numbers in order, three of each, as they are picked by their places
  pub in_order : (places : List ℕ) → length number_bytes ≡ 4 * n → length places ≡ 4 * n → agree_below (λ p. get_or places p 0 == p / 3 * 4 + 2 - p % 3) (λ _. true) (3 * n) ≡ true
      → (k : ℕ) → 4 * k + 4 ≤ prefix_len is_letter v → group_of v k ≡ Some (three_at (pick_l 0 (number_bytes ++ number_bytes) places) k)
  in_order places full many all k letters =
      let h : k < n = omega (arith, letters, prefix_len-le-length is_letter v, long) in
      let ordered : List ℕ = pick_l 0 (number_bytes ++ number_bytes) places in
      let picked : (p j : ℕ) → p / 3 ≡ k → j + p % 3 ≡ 4 * k + 2 → get_or ordered p 0 ≡ get_or number_bytes j 0 = λ p j at is.
      let place : get_or places p 0 ≡ j = eqb-true _ _ (agree_below_at (λ p. get_or places p 0 == p / 3 * 4 + 2 - p % 3) (λ _. true) (3 * n) p all (omega arith)) ∙ omega arith in
      get_or-map (λ m. get_or (number_bytes ++ number_bytes) m 0) places p 0 0 (omega arith)
      ∙ ap (λ m. get_or (number_bytes ++ number_bytes) m 0) place ∙ get_or_append_left number_bytes number_bytes 0 j (omega arith) in
      group_read k h letters (get_or ordered (3 * k) 0) (get_or ordered (3 * k + 1) 0) (get_or ordered (3 * k + 2) 0) (picked (3 * k) (4 * k + 2) (omega arith) (omega arith)) (picked (3 * k + 1) (4 * k + 1) (omega arith) (omega arith)) (picked (3 * k + 2) (4 * k + 0) (omega arith) (omega arith))

-- ---- letters in a text

some_of : (o : Option ℕ) → is_some o ≡ true → (v : ℕ) × (o ≡ Some v)
some_of None h = absurd (cc h)
some_of (Some v) h = (v, refl)

-- a test that fails for each of the 64 letters
pub letters_fail : (t : ℕ → Bool) → agree_below (λ v. t (letter v)) (λ _. false) 64 ≡ true → (b : ℕ) → is_letter b ≡ true → t b ≡ false
letters_fail t all b h =
    let s = some_of (letter_value b) h in
    let p = letter-letter_value b s.0 s.1 in
    subst (λ x. t x ≡ false) p.1 (agree_below_at (λ v. t (letter v)) (λ _. false) 64 s.0 all p.0)
