-- Groups read in parts, and absent bytes left out in parts.
use Rattle.std.proofs.Common.{◌≡◌, ◌≢◌, true, false, ℕ, suc, ◌+◌, ◌-◌, ◌*◌, ◌/◌, ◌%◌, ◌<◌, ◌≤◌, List, [], ◌∷◌, ◌++◌, length, take, drop, slice_index, Option, Some, None, Result, Ok, Err, refl, sym, ap, ◌∙◌, arith, inl, inr, not}
use Rattle.std.proofs.lemmas.List.{append_assoc, drop_more, length-append, length-take-le, length-drop, take-append-drop, drop-drop}
use Rattle.std.proofs.lemmas.Bool.{cases_Bool, ne_eqb}
use Rattle.std.proofs.lemmas.List.Elements.{filter-append}
use Rattle.std.proofs.lemmas.List.Sums.{length-filter, count_by-le-length}
use Rattle.mail_codec.specs.Base64.{base64, is_kept, without_line_ends, group_bytes, groups_from, after_group, prepend}
use Rattle.mail_codec.specs.Places.{without_ascii_whitespace}
use Rattle.std.specs.Char.{is_ascii_whitespace}
use Rattle.mail_codec.specs.private.Runs.{ends_run, without_ends}
use Rattle.mail_codec.specs.declared.bytescan.runs.RunEnd.{RunEnd}

pub prepend-prepend : (a b : List ℕ) (r : Result (List ℕ) ℕ) → prepend a (prepend b r) ≡ prepend (a ++ b) r
prepend-prepend a b (Ok c) = ap Ok (sym (append_assoc a b c))
prepend-prepend a b (Err n) = refl

pub prepend-nil : (r : Result (List ℕ) ℕ) → prepend [] r ≡ r
prepend-nil (Ok c) = refl
prepend-nil (Err n) = refl

-- a result with bytes before it is Ok, or a fault, where the result is
pub prepend_ok : (a c : List ℕ) (r : Result (List ℕ) ℕ) → prepend a r ≡ Ok c → (b : List ℕ) × (r ≡ Ok b) × (a ++ b ≡ c)
prepend_ok a c (Ok b) h = (b, refl, cc h)
prepend_ok a c (Err n) h = cc h

pub prepend_err : (a : List ℕ) (n : ℕ) (r : Result (List ℕ) ℕ) → prepend a r ≡ Err n → r ≡ Err n
prepend_err a n (Ok b) h = cc h
prepend_err a n (Err m) h = cc h

-- a group's bytes before a result that is Ok
pub after_group_ok : (n : ℕ) (g : Option (List ℕ)) (r : Result (List ℕ) ℕ) (b : List ℕ) → after_group n g r ≡ Ok b
    → (c : List ℕ) × (d : List ℕ) × (g ≡ Some c) × (r ≡ Ok d) × (c ++ d ≡ b)
after_group_ok n None r b h = cc h
after_group_ok n (Some c) (Ok d) b h = (c, d, refl, refl, cc h)
after_group_ok n (Some c) (Err m) b h = cc h

-- whole groups that are read, and then the rest
pub groups_from-append : (n : ℕ) (xs ys bytes : List ℕ) → length xs % 4 ≡ 0 → groups_from n xs ≡ Ok bytes
    → groups_from n (xs ++ ys) ≡ prepend bytes (groups_from (n + length xs / 4) ys)
unfolding groups_from
groups_from-append n [] ys bytes whole h =
    let none : [] ≡ bytes = cc h in
    let same : n + 0 / 4 ≡ n = omega arith in
    rw (← none, same) (sym (prepend-nil (groups_from n ys)))
groups_from-append n (p ∷ []) ys bytes whole h = absurd (omega arith)
groups_from-append n (p ∷ q ∷ []) ys bytes whole h = absurd (omega arith)
groups_from-append n (p ∷ q ∷ r ∷ []) ys bytes whole h = absurd (omega arith)
groups_from-append n (p ∷ q ∷ r ∷ s ∷ xs) ys bytes whole h =
    let parts = after_group_ok n (group_bytes p q r s) (groups_from (suc n) xs) bytes h in
    let c : List ℕ = parts.0 in
    let d : List ℕ = parts.1 in
    let more : groups_from (suc n) (xs ++ ys) ≡ prepend d (groups_from (suc n + length xs / 4) ys) =
    groups_from-append (suc n) xs ys d (omega (arith, whole)) parts.3 in
    let count : suc n + length xs / 4 ≡ n + length (p ∷ q ∷ r ∷ s ∷ xs) / 4 = omega arith in
    let first : after_group n (group_bytes p q r s) (groups_from (suc n) (xs ++ ys)) ≡ prepend c (groups_from (suc n) (xs ++ ys)) =
    ap (λ (g : Option (List ℕ)). after_group n g (groups_from (suc n) (xs ++ ys))) parts.2 in
    first ∙ ap (prepend c) more ∙ prepend-prepend c d (groups_from (suc n + length xs / 4) ys)
    ∙ ap (λ (b : List ℕ). prepend b (groups_from (suc n + length xs / 4) ys)) parts.4
    ∙ ap (λ (k : ℕ). prepend bytes (groups_from k ys)) count

after_group_err : (n m : ℕ) (g : Option (List ℕ)) (r t : Result (List ℕ) ℕ) → after_group n g r ≡ Err m
    → (r ≡ Err m → t ≡ Err m) → after_group n g t ≡ Err m
after_group_err n m None r t h f = h
after_group_err n m (Some c) (Ok d) t h f = cc h
after_group_err n m (Some c) (Err k) t h f = ap (prepend c) (f (cc h))

-- a fault in whole groups stays, whatever follows
pub groups_from-append_err : (n m : ℕ) (xs ys : List ℕ) → length xs % 4 ≡ 0 → groups_from n xs ≡ Err m
    → groups_from n (xs ++ ys) ≡ Err m
unfolding groups_from
groups_from-append_err n m [] ys whole h = cc h
groups_from-append_err n m (p ∷ []) ys whole h = absurd (omega arith)
groups_from-append_err n m (p ∷ q ∷ []) ys whole h = absurd (omega arith)
groups_from-append_err n m (p ∷ q ∷ r ∷ []) ys whole h = absurd (omega arith)
groups_from-append_err n m (p ∷ q ∷ r ∷ s ∷ xs) ys whole h =
    after_group_err n m (group_bytes p q r s) (groups_from (suc n) xs) (groups_from (suc n) (xs ++ ys)) h
    (groups_from-append_err (suc n) m xs ys (omega (arith, whole)))

-- fewer bytes than a group are a fault
pub groups_from-short : (n : ℕ) (xs : List ℕ) → 0 < length xs → length xs < 4 → groups_from n xs ≡ Err n
unfolding groups_from
groups_from-short n [] low high = absurd (omega arith)
groups_from-short n (p ∷ []) low high = refl
groups_from-short n (p ∷ q ∷ []) low high = refl
groups_from-short n (p ∷ q ∷ r ∷ []) low high = refl
groups_from-short n (p ∷ q ∷ r ∷ s ∷ xs) low high = absurd (omega arith)

pub groups_from-nil : (n : ℕ) → groups_from n [] ≡ Ok []
unfolding groups_from
groups_from-nil n = refl

-- the items at a place, and those after them
pub drop_three : (at : ℕ) (xs : List ℕ) → at + 3 ≤ length xs → drop at xs ≡ slice_index xs at ∷ slice_index xs (at + 1) ∷ slice_index xs (at + 2) ∷ drop (at + 3) xs
drop_three at xs h =
    let a : drop at xs ≡ slice_index xs at ∷ drop (at + 1) xs = drop_more xs at 0 (omega arith) in
    let b : drop (at + 1) xs ≡ slice_index xs (at + 1) ∷ drop (at + 1 + 1) xs = drop_more xs (at + 1) 0 (omega arith) in
    let c : drop (at + 1 + 1) xs ≡ slice_index xs (at + 1 + 1) ∷ drop (at + 1 + 1 + 1) xs = drop_more xs (at + 1 + 1) 0 (omega arith) in
    let two : at + 1 + 1 ≡ at + 2 = omega arith in
    let three : at + 1 + 1 + 1 ≡ at + 3 = omega arith in
    rw (a, b, c, three, two) refl

pub drop_four : (at : ℕ) (xs : List ℕ) → at + 4 ≤ length xs
    → drop at xs ≡ slice_index xs at ∷ slice_index xs (at + 1) ∷ slice_index xs (at + 2) ∷ slice_index xs (at + 3) ∷ drop (at + 4) xs
drop_four at xs h =
    drop_three at xs (omega arith)
    ∙ ap (λ (r : List ℕ). slice_index xs at ∷ slice_index xs (at + 1) ∷ slice_index xs (at + 2) ∷ r)
    (drop_more xs (at + 3) 0 (omega arith) ∙ ap (λ (k : ℕ). slice_index xs (at + 3) ∷ drop k xs) {x = at + 3 + 1} {y = at + 4} (omega arith))

-- the group at a place, and the bytes after it
pub groups_from-drop : (n at : ℕ) (xs : List ℕ) → at + 4 ≤ length xs
    → groups_from n (drop at xs) ≡ after_group n (group_bytes (slice_index xs at) (slice_index xs (at + 1)) (slice_index xs (at + 2)) (slice_index xs (at + 3))) (groups_from (n + 1) (drop (at + 4) xs))
unfolding groups_from
groups_from-drop n at xs h =
    let next : suc n ≡ n + 1 = omega arith in
    rw (drop_four at xs h, next) refl

-- ---- bytes that are left out

pub without_ends-append : (absent : RunEnd) (xs ys : List ℕ) → without_ends absent (xs ++ ys) ≡ without_ends absent xs ++ without_ends absent ys
without_ends-append absent xs ys = filter-append (λ b. not (ends_run absent b)) xs ys

pub length-without_ends : (absent : RunEnd) (xs : List ℕ) → length (without_ends absent xs) ≤ length xs
length-without_ends absent xs =
    omega (arith, length-filter (λ b. not (ends_run absent b)) xs, count_by-le-length (λ b. not (ends_run absent b)) xs)

-- without whitespace no line end is left
kept_of : (b : ℕ) → is_ascii_whitespace b ≡ false → is_kept b ≡ true
kept_of b h =
    let no_13 : b ≢ 13 = λ (e : b ≡ 13). let bad : is_ascii_whitespace 13 ≡ false = rw e at h in cc bad in
    let no_10 : b ≢ 10 = λ (e : b ≡ 10). let bad : is_ascii_whitespace 10 ≡ false = rw e at h in cc bad in
    rw (ne_eqb b 13 no_13, ne_eqb b 10 no_10) refl

without_line_ends-whitespace : (xs : List ℕ) → without_line_ends (without_ascii_whitespace xs) ≡ without_ascii_whitespace xs
without_line_ends-whitespace [] = refl
without_line_ends-whitespace (x ∷ xs) = elim (cases_Bool (is_ascii_whitespace x)) [
  | inl found ↦ rw found (without_line_ends-whitespace xs)
  | inr other ↦ rw (other, kept_of x other) (ap (λ (r : List ℕ). x ∷ r) (without_line_ends-whitespace xs))
]

-- so a body without its whitespace is read in groups at once
pub base64_without_whitespace : (body : List ℕ) → base64 (without_ascii_whitespace body) ≡ groups_from 0 (without_ascii_whitespace body)
unfolding base64
base64_without_whitespace body = ap (groups_from 0) (without_line_ends-whitespace body)

-- ---- windows of a text

-- the whole groups of the letters so far and of a window
module _ (absent : RunEnd) (text letters all : List ℕ) (at end n whole : ℕ) (ordered : at ≤ end) (within : end ≤ length text)
    (all_is : all ≡ letters ++ without_ends absent (take (end - at) (drop at text))) (whole_is : whole ≡ length all / 4) where
  window_rest : letters ++ without_ends absent (drop at text)
      ≡ take (4 * whole) all ++ (drop (4 * whole) all ++ without_ends absent (drop end text))
  window_rest =
      let k : ℕ = end - at in
      let following : drop k (drop at text) ≡ drop end text = drop-drop k at text ∙ ap (λ (i : ℕ). drop i text) (omega arith) in
      let split : without_ends absent (drop at text) ≡ without_ends absent (take k (drop at text)) ++ without_ends absent (drop end text) =
      ap (without_ends absent) (sym (take-append-drop k (drop at text)))
      ∙ without_ends-append absent (take k (drop at text)) (drop k (drop at text))
      ∙ ap (λ (r : List ℕ). without_ends absent (take k (drop at text)) ++ without_ends absent r) following in
      ap (λ (r : List ℕ). letters ++ r) split
      ∙ sym (append_assoc letters (without_ends absent (take k (drop at text))) (without_ends absent (drop end text)))
      ∙ ap (λ (r : List ℕ). r ++ without_ends absent (drop end text)) (sym all_is)
      ∙ ap (λ (r : List ℕ). r ++ without_ends absent (drop end text)) (sym (take-append-drop (4 * whole) all))
      ∙ append_assoc (take (4 * whole) all) (drop (4 * whole) all) (without_ends absent (drop end text))

  length_whole : length (take (4 * whole) all) ≡ 4 * whole
  length_whole = length-take-le (4 * whole) all (omega arith)

  pub window_read : (old new : List ℕ) → prepend old (groups_from n (take (4 * whole) all)) ≡ Ok new
      → prepend old (groups_from n (letters ++ without_ends absent (drop at text)))
      ≡ prepend new (groups_from (n + whole) (drop (4 * whole) all ++ without_ends absent (drop end text)))
  window_read old new h =
      let rest : List ℕ = drop (4 * whole) all ++ without_ends absent (drop end text) in
      let parts = prepend_ok old new (groups_from n (take (4 * whole) all)) h in
      let b : List ℕ = parts.0 in
      let len = length_whole in
      let count : n + length (take (4 * whole) all) / 4 ≡ n + whole = omega arith in
      let read : groups_from n (take (4 * whole) all ++ rest) ≡ prepend b (groups_from (n + length (take (4 * whole) all) / 4) rest) =
      groups_from-append n (take (4 * whole) all) rest b (omega arith) parts.1 in
      ap (λ (r : List ℕ). prepend old (groups_from n r)) window_rest
      ∙ ap (prepend old) read
      ∙ ap (λ (k : ℕ). prepend old (prepend b (groups_from k rest))) count
      ∙ prepend-prepend old b (groups_from (n + whole) rest)
      ∙ ap (λ (c : List ℕ). prepend c (groups_from (n + whole) rest)) parts.2

  pub window_fault : (old : List ℕ) (fault : ℕ) → prepend old (groups_from n (take (4 * whole) all)) ≡ Err fault
      → prepend old (groups_from n (letters ++ without_ends absent (drop at text))) ≡ Err fault
  window_fault old fault h =
      let len = length_whole in
      let err : groups_from n (take (4 * whole) all) ≡ Err fault = prepend_err old fault _ h in
      ap (λ (r : List ℕ). prepend old (groups_from n r)) window_rest
      ∙ ap (prepend old) (groups_from-append_err n fault (take (4 * whole) all) _ (omega arith) err)

  -- the letters of a window are no more than its bytes
  pub window_length : length all ≤ length letters + (end - at)
  window_length =
      let len : length all ≡ length letters + length (without_ends absent (take (end - at) (drop at text))) =
      ap length all_is ∙ length-append letters _ in
      let short : end - at ≤ length (drop at text) = omega (arith, length-drop at text) in
      omega (arith, len, length-without_ends absent (take (end - at) (drop at text)), length-take-le (end - at) (drop at text) short)
