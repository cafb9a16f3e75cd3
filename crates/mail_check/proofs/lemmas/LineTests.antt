-- Lemmas on long lines and on lines that begin a file.
use Rattle.std.proofs.Common.{◌≡◌, ◌∙◌, ◌+◌, ◌-◌, ◌<◌, ◌≤◌, ℕ, zero, suc, Bool, true, false, cond, List, [], ◌∷◌, ◌++◌, length, take, drop, refl, sym, ap, Option, Some, None, arith, length-drop, inl, inr}
use Rattle.std.specs.Prelude.{nat_lt, codes, is_some, option_map, ◌&&◌, ◌==◌}
use Rattle.std.proofs.lemmas.Bool.{and_parts, cases_Bool, cases_lt, lt-ltb, le-ltb, or_cases}
use Rattle.std.proofs.lemmas.List.{drop-drop}
use Rattle.mail_codec.specs.Ascii.{carriage_return, line_feed}
use Rattle.mail_codec.specs.Places.{begins, has_prefix}
use Rattle.mail_codec.proofs.lemmas.Places.{first_place-before, first_place-≤}
use Rattle.mail_check.specs.Bytes.{byte_at, first_offset}
use Rattle.mail_check.specs.LineTests.{begins_file, feed_offset, first_line, has_mode, is_before, is_long_line, line_size, next}
use Rattle.mail_check.specs.private.Patterns.{is_begin}
use Rattle.mail_check.proofs.lemmas.Bytes.{NoneBefore, offset-found, offset-none, offset_some, offset_no}

-- ---- short lines

right_false : (s t : Bool) → t ≡ false → (s && t) ≡ false
right_false true t e = e
right_false false t e = refl

both : (s t : Bool) → s ≡ true → t ≡ true → (s && t) ≡ true
both s t e f = rw (e, f) refl

size_le : (rest : List ℕ) → line_size rest ≤ feed_offset rest
size_le rest = elim (cases_Bool (nat_lt 0 (feed_offset rest) && byte_at rest (feed_offset rest - 1) carriage_return)) [
  | inl e ↦ let is : line_size rest ≡ feed_offset rest - 1 = ap (λ (t : Bool). cond t (feed_offset rest - 1) (feed_offset rest)) e in omega (arith, is)
  | inr e ↦ let is : line_size rest ≡ feed_offset rest = ap (λ (t : Bool). cond t (feed_offset rest - 1) (feed_offset rest)) e in omega (arith, is)
]

short_line : (rest : List ℕ) → feed_offset rest ≤ 998 → is_long_line rest ≡ false
short_line rest h = le-ltb 998 (line_size rest) (omega (arith, h, size_le rest))

-- an offset from a number onwards
abbrev pub onwards : ℕ → Option ℕ → Option ℕ
onwards n found = option_map (λ p. n + p) found

pub onwards_zero : (o : Option ℕ) → o ≡ onwards 0 o
onwards_zero None = refl
onwards_zero (Some p) = ap Some {x = p} {y = 0 + p} (omega arith)

pub onwards_twice : (m n : ℕ) (o : Option ℕ) → onwards m (onwards n o) ≡ onwards (m + n) o
onwards_twice m n None = refl
onwards_twice m n (Some p) = ap Some {x = m + (n + p)} {y = m + n + p} (omega arith)

next_onwards : (n : ℕ) (o : Option ℕ) → next (onwards n o) ≡ onwards n (next o)
next_onwards n None = refl
next_onwards n (Some p) = ap Some {x = n + p + 1} {y = n + (p + 1)} (omega arith)

-- no line is long before a LF that is among the first 999 bytes
module _ (xs : List ℕ) (n : ℕ) (low : 0 < n) (few : n ≤ 999) (fits : n ≤ length xs) (fed : byte_at xs (n - 1) line_feed ≡ true) where
  fed_by : (j : ℕ) → j < n → feed_offset (drop j xs) ≤ n - 1 - j
  fed_by j l = elim (cases_lt (n - 1 - j) (feed_offset (drop j xs))) [
    | inr g ↦ g
    | inl before ↦
        let no = first_place-before (begins (λ b. b == line_feed)) (drop j xs) (n - 1 - j) before in
        let yes : begins (λ b. b == line_feed) (drop (n - 1 - j) (drop j xs)) ≡ true =
        ap (begins (λ b. b == line_feed)) (drop-drop (n - 1 - j) j xs ∙ ap (λ (k : ℕ). drop k xs) {x = j + (n - 1 - j)} {y = n - 1} (omega (arith, l))) ∙ fed in
        absurd (cc)
  ]

  short : (j : ℕ) → j < n → is_long_line (drop j xs) ≡ false
  short j l = short_line (drop j xs) (omega (arith, fed_by j l, few))

  none_long : NoneBefore (is_before is_long_line xs) (n - 1)
  none_long k l = right_false (byte_at xs k line_feed) (is_long_line (drop (k + 1) xs)) (short (k + 1) (omega arith))

  at_end : is_before is_long_line xs (n - 1) ≡ is_long_line (drop n xs)
  at_end =
      ap (λ (t : Bool). t && is_long_line (drop (n - 1 + 1) xs)) fed
      ∙ ap (λ (k : ℕ). is_long_line (drop k xs)) {x = n - 1 + 1} {y = n} (omega (arith, low))

  moved : (k : ℕ) → is_before is_long_line xs (n + k) ≡ is_before is_long_line (drop n xs) k
  moved k =
      ap (λ (rest : List ℕ). begins (λ b. b == line_feed) rest && is_long_line (drop (n + k + 1) xs)) (sym (drop-drop k n xs))
      ∙ ap (λ (rest : List ℕ). byte_at (drop n xs) k line_feed && is_long_line rest)
      (ap (λ (j : ℕ). drop j xs) {x = n + k + 1} {y = n + (k + 1)} (omega arith) ∙ sym (drop-drop (k + 1) n xs))

  none_to : is_long_line (drop n xs) ≡ false → NoneBefore (is_before is_long_line xs) n
  none_to e k l = elim (cases_lt k (n - 1)) [
    | inl below ↦ none_long k below
    | inr ge ↦ ap (is_before is_long_line xs) {x = k} {y = n - 1} (omega (arith, l, ge)) ∙ at_end ∙ e
  ]

  none_past : is_long_line (drop n xs) ≡ false → (m : ℕ) → NoneBefore (is_before is_long_line (drop n xs)) m → NoneBefore (is_before is_long_line xs) (n + m)
  none_past e m h k l = elim (cases_lt k n) [
    | inl below ↦ none_to e k below
    | inr ge ↦ ap (is_before is_long_line xs) {x = k} {y = n + (k - n)} (omega (arith, ge)) ∙ moved (k - n) ∙ h (k - n) (omega (arith, l, ge))
  ]

  later : is_long_line (drop n xs) ≡ false → (o : Option ℕ) → o ≡ first_offset (is_before is_long_line (drop n xs)) (drop n xs)
      → first_offset (is_before is_long_line xs) xs ≡ onwards n o
  later e None h =
      let len : n + length (drop n xs) ≡ length xs = omega (arith, length-drop n xs, fits) in
      sym (offset-none (is_before is_long_line xs) xs (λ k l. none_past e (length (drop n xs)) (offset_no (is_before is_long_line (drop n xs)) (drop n xs) h) k (omega (arith, len, l))))
  later e (Some q) h =
      let found = offset_some (is_before is_long_line (drop n xs)) (drop n xs) q h in
      sym (offset-found (is_before is_long_line xs) xs (n + q) (omega (arith, length-drop n xs, found.0)) (none_past e q found.2) (moved q ∙ found.1))

  pub skipped : first_line is_long_line xs ≡ onwards n (first_line is_long_line (drop n xs))
  skipped =
      ap (λ (t : Bool). cond t (Some 0) (next (first_offset (is_before is_long_line xs) xs))) (short 0 low)
      ∙ elim (cases_Bool (is_long_line (drop n xs))) [
        | inl e ↦
            ap next (sym (offset-found (is_before is_long_line xs) xs (n - 1) (omega (arith, low, fits)) none_long (at_end ∙ e)))
            ∙ ap Some {x = n - 1 + 1} {y = n + 0} (omega (arith, low))
            ∙ sym (ap (λ (t : Bool). onwards n (cond t (Some 0) (next (first_offset (is_before is_long_line (drop n xs)) (drop n xs))))) e)
        | inr e ↦
            ap next (later e (first_offset (is_before is_long_line (drop n xs)) (drop n xs)) refl)
            ∙ next_onwards n (first_offset (is_before is_long_line (drop n xs)) (drop n xs))
            ∙ sym (ap (λ (t : Bool). onwards n (cond t (Some 0) (next (first_offset (is_before is_long_line (drop n xs)) (drop n xs))))) e)
      ]

-- fewer bytes have no long line
pub no_long : (xs : List ℕ) → length xs ≤ 998 → first_line is_long_line xs ≡ None
no_long xs few =
    let short : (j : ℕ) → is_long_line (drop j xs) ≡ false = λ j. short_line (drop j xs) (omega (arith, first_place-≤ (begins (λ b. b == line_feed)) (drop j xs), length-drop j xs, few)) in
    ap (λ (t : Bool). cond t (Some 0) (next (first_offset (is_before is_long_line xs) xs))) (short 0)
    ∙ ap next (sym (offset-none (is_before is_long_line xs) xs (λ k l. right_false (byte_at xs k line_feed) (is_long_line (drop (k + 1) xs)) (short (k + 1)))))

-- a line begins within the bytes, or at their end
pub line_within : (test : List ℕ → Bool) (xs : List ℕ) (p : ℕ) → Some p ≡ first_line test xs → p ≤ length xs
line_within test xs p h = elim (cases_Bool (test xs)) [
  | inl e ↦ let is : Some p ≡ Some 0 = h ∙ ap (λ (t : Bool). cond t (Some 0) (next (first_offset (is_before test xs) xs))) e in let same : p ≡ 0 = cc in omega (arith, same)
  | inr e ↦ by_found (first_offset (is_before test xs) xs) refl (h ∙ ap (λ (t : Bool). cond t (Some 0) (next (first_offset (is_before test xs) xs))) e)
]
  where
    by_found : (o : Option ℕ) → o ≡ first_offset (is_before test xs) xs → Some p ≡ next o → p ≤ length xs
    by_found None e f = absurd (cc)
    by_found (Some q) e f = let same : p ≡ q + 1 = cc in let found = offset_some (is_before test xs) xs q e in omega (arith, same, found.0)

byte_taken : (m k b : ℕ) (xs : List ℕ) → byte_at (take m xs) k b ≡ true → byte_at xs k b ≡ true
byte_taken zero zero b xs h = absurd (cc)
byte_taken zero (suc k) b xs h = absurd (cc)
byte_taken (suc m) zero b [] h = absurd (cc)
byte_taken (suc m) zero b (x ∷ xs) h = h
byte_taken (suc m) (suc k) b [] h = absurd (cc)
byte_taken (suc m) (suc k) b (x ∷ xs) h = byte_taken m k b xs h

-- after a LF in the window of 999 bytes, the search goes on
module _ (bytes : List ℕ) (from n : ℕ) (wide : from + 999 ≤ length bytes) (some : 0 < n) (few : n ≤ 999)
    (fed : byte_at (take 999 (drop from bytes)) (n - 1) line_feed ≡ true) (same : first_line is_long_line bytes ≡ onwards from (first_line is_long_line (drop from bytes))) where
  pub gone_on : first_line is_long_line bytes ≡ onwards (from + n) (first_line is_long_line (drop (from + n) bytes))
  gone_on =
      same ∙ ap (onwards from) (skipped (drop from bytes) n some few (omega (arith, length-drop from bytes, wide, few)) (byte_taken 999 (n - 1) line_feed (drop from bytes) fed))
      ∙ onwards_twice from n (first_line is_long_line (drop n (drop from bytes)))
      ∙ ap (λ (rest : List ℕ). onwards (from + n) (first_line is_long_line rest)) (drop-drop n from bytes)

-- ---- files

prefix_drop : (front text rest : List ℕ) → has_prefix (front ++ text) rest ≡ true → has_prefix text (drop (length front) rest) ≡ true
prefix_drop [] text rest h = h
prefix_drop (x ∷ front) text [] h = absurd (cc)
prefix_drop (x ∷ front) text (b ∷ rest) h = prefix_drop front text rest (and_parts (x == b) (has_prefix (front ++ text) rest) h).1

prefix_front : (front text rest : List ℕ) → has_prefix (front ++ text) rest ≡ true → has_prefix front rest ≡ true
prefix_front [] text rest h = refl
prefix_front (x ∷ front) text [] h = absurd (cc)
prefix_front (x ∷ front) text (b ∷ rest) h =
    let parts = and_parts (x == b) (has_prefix (front ++ text) rest) h in
    both (x == b) (has_prefix front rest) parts.0 (prefix_front front text rest parts.1)

abbrev pub pair : List ℕ → Bool
pair = has_prefix (103 ∷ 105 ∷ [])

middle : (rest : List ℕ) → has_prefix (codes "begin") rest ≡ true → pair (drop 2 rest) ≡ true
middle rest h = prefix_front (103 ∷ 105 ∷ []) (110 ∷ []) (drop 2 rest) (prefix_drop (98 ∷ 101 ∷ []) (103 ∷ 105 ∷ 110 ∷ []) rest h)

module _ (bytes : List ℕ) where
  -- it is not found without its pair
  pub no_pair : (p : ℕ) → pair (drop p bytes) ≡ false → is_begin bytes p ≡ false
  no_pair p h = by_test (is_begin bytes p) refl
    where
      by_test : (t : Bool) → is_begin bytes p ≡ t → is_begin bytes p ≡ false
      by_test false e = e
      by_test true e =
          let parts = and_parts (nat_lt 1 p) (has_prefix (codes "begin") (drop (p - 2) bytes)) e in
          let low : 1 < p = elim (cases_lt 1 p) [ inl l ↦ l | inr g ↦ let no = le-ltb 1 p g in let yes = parts.0 in absurd (cc) ] in
          let yes : pair (drop p bytes) ≡ true = sym (ap pair (drop-drop 2 (p - 2) bytes ∙ ap (λ (k : ℕ). drop k bytes) {x = p - 2 + 2} {y = p} (omega (arith, low)))) ∙ middle (drop (p - 2) bytes) parts.1 in
          absurd (cc)

  module _ (none : NoneBefore (is_begin bytes) (length bytes)) where
    begin_free : (q : ℕ) → has_prefix (codes "begin") (drop q bytes) ≡ true → ⊥
    begin_free q h = elim (cases_lt (q + 2) (length bytes)) [
      | inl l ↦
          let yes : is_begin bytes (q + 2) ≡ true = both _ _ (lt-ltb 1 (q + 2) (omega arith)) (ap (λ (k : ℕ). has_prefix (codes "begin") (drop k bytes)) {x = q + 2 - 2} {y = q} (omega arith) ∙ h) in
          let no = none (q + 2) l in cc
      | inr g ↦ no_rest (drop 2 (drop q bytes)) (omega (arith, length-drop q bytes, length-drop 2 (drop q bytes), g)) (middle (drop q bytes) h)
    ]
      where
        no_rest : (rest : List ℕ) → length rest ≡ 0 → pair rest ≡ true → ⊥
        no_rest [] e f = cc
        no_rest (b ∷ rest) e f = omega arith

    file_free : (p : ℕ) → begins_file (drop p bytes) ≡ false
    file_free p = by_test (begins_file (drop p bytes)) refl
      where
        by_test : (t : Bool) → begins_file (drop p bytes) ≡ t → begins_file (drop p bytes) ≡ false
        by_test false e = e
        by_test true e = absurd (elim (or_cases (has_prefix (codes "begin ") (drop p bytes) && has_mode (drop 6 (drop p bytes))) _ e) [
          | inl f ↦ begin_free p (prefix_front (codes "begin") (32 ∷ []) (drop p bytes) (and_parts _ (has_mode (drop 6 (drop p bytes))) f).0)
          | inr f ↦ elim (or_cases (has_prefix (codes "begin-base64 ") (drop p bytes) && has_mode (drop 13 (drop p bytes))) _ f) [
            | inl g ↦ begin_free p (prefix_front (codes "begin") (codes "-base64 ") (drop p bytes) (and_parts _ (has_mode (drop 13 (drop p bytes))) g).0)
            | inr g ↦ begin_free (p + 2) (ap (has_prefix (codes "begin")) (sym (drop-drop 2 p bytes)) ∙ prefix_front (codes "begin") (32 ∷ []) (drop 2 (drop p bytes)) (prefix_drop (61 ∷ 121 ∷ []) (codes "begin ") (drop p bytes) g))
          ]
        ])

    pub no_file : None ≡ first_line begins_file bytes
    no_file = sym (
        ap (λ (t : Bool). cond t (Some 0) (next (first_offset (is_before begins_file bytes) bytes))) (file_free 0)
        ∙ ap next (sym (offset-none (is_before begins_file bytes) bytes (λ k l. right_false (byte_at bytes k line_feed) (begins_file (drop (k + 1) bytes)) (file_free (k + 1))))))

-- without `begin`, no line begins a file
pub no_begin : (bytes : List ℕ) → is_some (first_offset (is_begin bytes) bytes) ≡ false → None ≡ first_line begins_file bytes
no_begin bytes h = by_found (first_offset (is_begin bytes) bytes) refl h
  where
    by_found : (o : Option ℕ) → o ≡ first_offset (is_begin bytes) bytes → is_some o ≡ false → None ≡ first_line begins_file bytes
    by_found None e f = no_file bytes (offset_no (is_begin bytes) bytes e)
    by_found (Some p) e f = absurd (cc)
