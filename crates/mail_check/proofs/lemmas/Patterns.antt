-- Lemmas on the patterns of the searches.
use Rattle.std.proofs.Common.{◌≡◌, ◌∙◌, ◌+◌, ◌-◌, ◌<◌, ◌≤◌, ℕ, Bool, true, false, cond, List, [], ◌∷◌, length, drop, refl, sym, ap, Option, Some, None, arith, length-drop, inl, inr}
use Rattle.std.specs.Prelude.{nat_lt, is_some, ◌&&◌, ◌||◌, ◌==◌}
use Rattle.std.proofs.lemmas.Bool.{and_parts, cases_Bool, cases_lt, eq-eqb, eqb-true, lt-ltb, le-ltb, or_cases, or_parts}
use Rattle.std.proofs.lemmas.List.{drop-drop}
use Rattle.mail_codec.specs.Ascii.{carriage_return, is_blank, line_feed, space, tab}
use Rattle.mail_codec.specs.Places.{begins, either_place, first_place, has_prefix}
use Rattle.mail_codec.proofs.lemmas.Places.{first_place-before}
use Rattle.mail_codec.proofs.lemmas.PlacesSearches.{place_none}
use Rattle.mail_check.specs.Bytes.{byte_at, first_offset, is_bad_escape, is_end_blank, is_escaped_end, is_lone_return, is_nul, is_return_feed, is_line_left}
use Rattle.mail_check.specs.private.Patterns.{end_offset, is_after_blank, is_blank_feed, is_odd_escape, last_blank}
use Rattle.mail_check.proofs.lemmas.Bytes.{and_false, offset-found, offset-none, offset_some, offset_no}

-- what is at an offset is within the bytes
pub begins_within : (test : ℕ → Bool) (bytes : List ℕ) (p : ℕ) → begins test (drop p bytes) ≡ true → p < length bytes
begins_within test bytes p h = elim (cases_lt p (length bytes)) [
  | inl l ↦ l
  | inr g ↦ by_rest (drop p bytes) (omega (arith, length-drop p bytes)) h
]
  where
    by_rest : (rest : List ℕ) → length rest ≡ 0 → begins test rest ≡ true → p < length bytes
    by_rest [] e f = absurd (cc)
    by_rest (b ∷ rest) e f = absurd (omega arith)

-- two bytes are not at one offset
one_byte : (bytes : List ℕ) (p x y : ℕ) → byte_at bytes p x ≡ true → byte_at bytes p y ≡ true → x ≡ y
one_byte bytes p x y h g = by_rest (drop p bytes) h g
  where
    by_rest : (rest : List ℕ) → begins (λ b. b == x) rest ≡ true → begins (λ b. b == y) rest ≡ true → x ≡ y
    by_rest [] e f = absurd (cc)
    by_rest (b ∷ rest) e f = sym (eqb-true b x e) ∙ eqb-true b y f

-- a byte that is another is not at an offset
other_byte : (bytes : List ℕ) (p x y : ℕ) → byte_at bytes p x ≡ true → ((x ≡ y) → ⊥) → byte_at bytes p y ≡ false
other_byte bytes p x y h not_same = elim (cases_Bool (byte_at bytes p y)) [
  | inl e ↦ absurd (not_same (one_byte bytes p x y h e))
  | inr e ↦ e
]

-- ---- the rest of a line

blank_is : (rest : List ℕ) → begins is_blank rest ≡ (begins (λ b. b == space) rest || begins (λ b. b == tab) rest)
blank_is [] = refl
blank_is (b ∷ rest) = refl

-- a line end is the LF or the CR and the LF
data Left (rest : List ℕ) : Type 0 where
  over : length rest ≡ 0 → Left rest
  fed : begins (λ b. b == line_feed) rest ≡ true → Left rest
  returned : begins (λ b. b == carriage_return) rest ≡ true → begins (λ b. b == line_feed) (drop 1 rest) ≡ true → Left rest

flipped : (x y : ℕ) → (x == y) ≡ true → (y == x) ≡ true
flipped x y h = eq-eqb y x (sym (eqb-true x y h))

left_cases : (rest : List ℕ) → is_line_left rest ≡ true → Left rest
left_cases [] h = over refl
left_cases (b ∷ rest) h = elim (or_cases (has_prefix (line_feed ∷ []) (b ∷ rest)) (has_prefix (carriage_return ∷ line_feed ∷ []) (b ∷ rest)) h) [
  | inl e ↦ fed (flipped line_feed b (and_parts (line_feed == b) true e).0)
  | inr e ↦ by_rest rest e
]
  where
    by_rest : (rest : List ℕ) → has_prefix (carriage_return ∷ line_feed ∷ []) (b ∷ rest) ≡ true → Left (b ∷ rest)
    by_rest [] e = absurd (no e)
      where
        no : has_prefix (carriage_return ∷ line_feed ∷ []) (b ∷ []) ≡ true → ⊥
        no e = let f = (and_parts (carriage_return == b) false e).1 in cc
    by_rest (c ∷ rest) e =
        let parts = and_parts (carriage_return == b) ((line_feed == c) && true) e in
        returned (flipped carriage_return b parts.0) (flipped line_feed c (and_parts (line_feed == c) true parts.1).0)

fed_left : (rest : List ℕ) → begins (λ b. b == line_feed) rest ≡ true → is_line_left rest ≡ true
fed_left [] h = refl
fed_left (b ∷ rest) h = rw (flipped b line_feed h) refl

returned_left : (rest : List ℕ) → begins (λ b. b == carriage_return) rest ≡ true → begins (λ b. b == line_feed) (drop 1 rest) ≡ true → is_line_left rest ≡ true
returned_left [] h g = refl
returned_left (b ∷ []) h g = absurd (cc)
returned_left (b ∷ c ∷ rest) h g = rw (flipped b carriage_return h, flipped c line_feed g) (right_true (line_feed == b && true))
  where
    right_true : (t : Bool) → (t || true) ≡ true
    right_true true = refl
    right_true false = refl

-- ---- blanks at the end of lines

module _ (bytes : List ℕ) where
  and_both : (s t : Bool) → s ≡ true → t ≡ true → (s && t) ≡ true
  and_both s t e f = rw (e, f) refl

  right_false : (s t : Bool) → t ≡ false → (s && t) ≡ false
  right_false true t e = e
  right_false false t e = refl

  -- the line end with a LF
  end_fed : (p : ℕ) → byte_at bytes (p - 1) carriage_return ≡ false → end_offset bytes p ≡ p
  end_fed p h = ap (λ (t : Bool). cond t (p - 1) p) (right_false (nat_lt 0 p) (byte_at bytes (p - 1) carriage_return) h)

  end_returned : (p : ℕ) → 0 < p → byte_at bytes (p - 1) carriage_return ≡ true → end_offset bytes p ≡ p - 1
  end_returned p low h = ap (λ (t : Bool). cond t (p - 1) p) (and_both (nat_lt 0 p) (byte_at bytes (p - 1) carriage_return) (lt-ltb 0 p low) h)

  end_near : (p : ℕ) → (end_offset bytes p ≤ p) × (p ≤ end_offset bytes p + 1)
  end_near p = elim (cases_Bool (nat_lt 0 p && byte_at bytes (p - 1) carriage_return)) [
    | inl e ↦ let is : end_offset bytes p ≡ p - 1 = ap (λ (t : Bool). cond t (p - 1) p) e in (omega (arith, is), omega (arith, is))
    | inr e ↦ let is : end_offset bytes p ≡ p = ap (λ (t : Bool). cond t (p - 1) p) e in (omega (arith, is), omega (arith, is))
  ]

  -- a later LF has a later line end
  end_later : (p q : ℕ) → p < q → byte_at bytes p line_feed ≡ true → end_offset bytes p < end_offset bytes q
  end_later p q low h = elim (cases_Bool (byte_at bytes (q - 1) carriage_return)) [
    | inr e ↦ omega (arith, end_fed q e, end_near p)
    | inl e ↦ elim (cases_lt p (q - 1)) [
      | inl l ↦ omega (arith, end_near p, end_near q, l)
      | inr g ↦ let there : byte_at bytes (q - 1) line_feed ≡ true = ap (λ (n : ℕ). byte_at bytes n line_feed) {x = q - 1} {y = p} (omega arith) ∙ h in
          absurd (let no = one_byte bytes (q - 1) line_feed carriage_return there e in omega (arith, no))
    ]
  ]

  after_blank : (p : ℕ) → begins is_blank (drop p bytes) ≡ is_after_blank bytes (p + 1)
  after_blank p = blank_is (drop p bytes) ∙ at_suc (p + 1) (omega arith)
    where
      at_suc : (q : ℕ) → q ≡ p + 1 → (byte_at bytes p space || byte_at bytes p tab) ≡ is_after_blank bytes q
      at_suc q e =
          ap (λ (n : ℕ). byte_at bytes n space || byte_at bytes n tab) {x = p} {y = q - 1} (omega arith)
          ∙ sym (ap (λ (t : Bool). t && (byte_at bytes (q - 1) space || byte_at bytes (q - 1) tab)) (lt-ltb 0 q (omega arith)))

  -- a blank is no CR
  blank_returns : (p : ℕ) → begins is_blank (drop p bytes) ≡ true → byte_at bytes p carriage_return ≡ false
  blank_returns p h = elim (or_cases (byte_at bytes p space) (byte_at bytes p tab) (sym (blank_is (drop p bytes)) ∙ h)) [
    | inl e ↦ other_byte bytes p space carriage_return e (λ same. omega (arith, same))
    | inr e ↦ other_byte bytes p tab carriage_return e (λ same. omega (arith, same))
  ]

  -- such a blank is before a line end, or the last byte
  feed_of : (p : ℕ) → p + 1 < length bytes → is_end_blank bytes p ≡ true → (f : ℕ) × (is_blank_feed bytes f ≡ true) × (end_offset bytes f ≡ p + 1)
  feed_of p low h =
      let parts = and_parts (begins is_blank (drop p bytes)) (is_line_left (drop (p + 1) bytes)) h in
      elim (left_cases (drop (p + 1) bytes) parts.1) [
        | over e ↦ absurd (omega (arith, length-drop (p + 1) bytes, e))
        | fed e ↦
            let end : end_offset bytes (p + 1) ≡ p + 1 = end_fed (p + 1) (ap (λ (n : ℕ). byte_at bytes n carriage_return) {x = p + 1 - 1} {y = p} (omega arith) ∙ blank_returns p parts.0) in
            (p + 1, and_both _ _ e (ap (is_after_blank bytes) end ∙ sym (after_blank p) ∙ parts.0), end)
        | returned e f ↦
            let end : end_offset bytes (p + 2) ≡ p + 1 =
            end_returned (p + 2) (omega arith) (ap (λ (n : ℕ). byte_at bytes n carriage_return) {x = p + 2 - 1} {y = p + 1} (omega arith) ∙ e) ∙ omega arith in
            let there : byte_at bytes (p + 2) line_feed ≡ true = sym (ap (begins (λ b. b == line_feed)) (drop-drop 1 (p + 1) bytes ∙ ap (λ (n : ℕ). drop n bytes) {x = p + 1 + 1} {y = p + 2} (omega arith))) ∙ f in
            (p + 2, and_both _ _ there (ap (is_after_blank bytes) end ∙ sym (after_blank p) ∙ parts.0), end)
      ]

  after_some : (p : ℕ) → is_after_blank bytes p ≡ true → 0 < p
  after_some p h = elim (cases_lt 0 p) [
    | inl l ↦ l
    | inr g ↦ let yes = (and_parts (nat_lt 0 p) (byte_at bytes (p - 1) space || byte_at bytes (p - 1) tab) h).0 in let no = le-ltb 0 p g in absurd (cc)
  ]

  -- what is left from the line end with a LF
  left_there : (f : ℕ) → byte_at bytes f line_feed ≡ true → is_line_left (drop (end_offset bytes f) bytes) ≡ true
  left_there f h = elim (cases_Bool (nat_lt 0 f && byte_at bytes (f - 1) carriage_return)) [
    | inl e ↦
        let parts = and_parts (nat_lt 0 f) (byte_at bytes (f - 1) carriage_return) e in
        let low : 0 < f = elim (cases_lt 0 f) [ inl l ↦ l | inr g ↦ let no = le-ltb 0 f g in let yes = parts.0 in absurd (cc) ] in
        ap (λ (n : ℕ). is_line_left (drop n bytes)) (end_returned f low parts.1)
        ∙ returned_left (drop (f - 1) bytes) parts.1 (ap (begins (λ b. b == line_feed)) (drop-drop 1 (f - 1) bytes ∙ ap (λ (n : ℕ). drop n bytes) {x = f - 1 + 1} {y = f} (omega (arith, low))) ∙ h)
    | inr e ↦
        let is : end_offset bytes f ≡ f = ap (λ (t : Bool). cond t (f - 1) f) e in
        ap (λ (n : ℕ). is_line_left (drop n bytes)) is ∙ fed_left (drop f bytes) h
  ]

  -- a blank is before each such line end
  pub blank_of : (f : ℕ) → is_blank_feed bytes f ≡ true → (1 ≤ end_offset bytes f) × (is_end_blank bytes (end_offset bytes f - 1) ≡ true)
  blank_of f h =
      let parts = and_parts (byte_at bytes f line_feed) (is_after_blank bytes (end_offset bytes f)) h in
      let low = after_some (end_offset bytes f) parts.1 in
      let next : end_offset bytes f - 1 + 1 ≡ end_offset bytes f = omega (arith, low) in (
        omega (arith, low),
        and_both _ _
            (after_blank (end_offset bytes f - 1) ∙ ap (is_after_blank bytes) next ∙ parts.1)
            (ap (λ (n : ℕ). is_line_left (drop n bytes)) next ∙ left_there f parts.0),
      )

  -- the first line end with a blank before it is that of the first such blank
  pub blank_found : (f : ℕ) → Some f ≡ first_offset (is_blank_feed bytes) bytes → Some (end_offset bytes f - 1) ≡ first_offset (is_end_blank bytes) bytes
  blank_found f h =
      let found = offset_some (is_blank_feed bytes) bytes f h in
      let here = blank_of f found.1 in
      let near = end_near f in
      offset-found (is_end_blank bytes) bytes (end_offset bytes f - 1) (omega (arith, found.0, here.0, near.0)) (λ k low. by_test k low (is_end_blank bytes k) refl) here.1
    where
      by_test : (k : ℕ) → k < end_offset bytes f - 1 → (t : Bool) → is_end_blank bytes k ≡ t → is_end_blank bytes k ≡ false
      by_test k low false e = e
      by_test k low true e =
          let found = offset_some (is_blank_feed bytes) bytes f h in
          let near = end_near f in
          let feed = feed_of k (omega (arith, low, near.0, found.0)) e in
          let there = and_parts (byte_at bytes f line_feed) (is_after_blank bytes (end_offset bytes f)) found.1 in
          elim (cases_lt feed.0 f) [
            | inl l ↦ let no = found.2 feed.0 l in let yes = feed.1 in absurd (cc)
            | inr g ↦ elim (cases_lt f feed.0) [
              | inl l ↦ absurd (omega (arith, end_later f feed.0 l there.0, feed.2, low))
              | inr ge ↦ let same : end_offset bytes f ≡ end_offset bytes feed.0 = ap (end_offset bytes) {x = f} {y = feed.0} (omega (arith, g, ge)) in absurd (omega (arith, same, feed.2, low))
            ]
          ]

  -- if there is none, only the last byte may be such a blank
  none_earlier : None ≡ first_offset (is_blank_feed bytes) bytes → (k : ℕ) → k + 1 < length bytes → is_end_blank bytes k ≡ false
  none_earlier h k low = by_test (is_end_blank bytes k) refl
    where
      by_test : (t : Bool) → is_end_blank bytes k ≡ t → is_end_blank bytes k ≡ false
      by_test false e = e
      by_test true e =
          let feed = feed_of k low e in
          let there = and_parts (byte_at bytes feed.0 line_feed) (is_after_blank bytes (end_offset bytes feed.0)) feed.1 in
          let no = offset_no (is_blank_feed bytes) bytes h feed.0 (begins_within (λ b. b == line_feed) bytes feed.0 there.0) in
          let yes = feed.1 in
          absurd (cc)

  last_is : 0 < length bytes → is_end_blank bytes (length bytes - 1) ≡ is_after_blank bytes (length bytes)
  last_is low =
      let next : length bytes - 1 + 1 ≡ length bytes = omega (arith, low) in
      ap (λ (t : Bool). begins is_blank (drop (length bytes - 1) bytes) && t) (ap (λ (n : ℕ). is_line_left (drop n bytes)) next ∙ over_left (drop (length bytes) bytes) (omega (arith, length-drop (length bytes) bytes)))
      ∙ right_of (begins is_blank (drop (length bytes - 1) bytes))
      ∙ after_blank (length bytes - 1) ∙ ap (is_after_blank bytes) next
    where
      over_left : (rest : List ℕ) → length rest ≡ 0 → is_line_left rest ≡ true
      over_left [] e = refl
      over_left (b ∷ rest) e = absurd (omega arith)

      right_of : (t : Bool) → (t && true) ≡ t
      right_of true = refl
      right_of false = refl

  pub blank_last : None ≡ first_offset (is_blank_feed bytes) bytes → last_blank bytes ≡ first_offset (is_end_blank bytes) bytes
  blank_last h = elim (cases_Bool (is_after_blank bytes (length bytes))) [
    | inl e ↦
        let low = after_some (length bytes) e in
        ap (λ (t : Bool). cond t (Some (length bytes - 1)) None) e
        ∙ offset-found (is_end_blank bytes) bytes (length bytes - 1) (omega (arith, low)) (λ k l. none_earlier h k (omega arith)) (last_is low ∙ e)
    | inr e ↦
        ap (λ (t : Bool). cond t (Some (length bytes - 1)) None) e
        ∙ offset-none (is_end_blank bytes) bytes (λ k l. elim (cases_lt (k + 1) (length bytes)) [
          | inl below ↦ none_earlier h k below
          | inr ge ↦ ap (is_end_blank bytes) {x = k} {y = length bytes - 1} (omega (arith, l, ge)) ∙ last_is (omega (arith, l)) ∙ e
        ])
  ]

-- ---- escapes

-- if neither kind of escape is found, none of each is
pub no_odd : (bytes : List ℕ) (r : Option ℕ) → r ≡ first_offset (is_odd_escape bytes) bytes → is_some r ≡ false
    → (None ≡ first_offset (is_bad_escape bytes) bytes) × (None ≡ first_offset (is_escaped_end bytes) bytes)
no_odd bytes (Some p) h e = absurd (cc)
no_odd bytes None h e =
    let none = offset_no (is_odd_escape bytes) bytes h in (
      offset-none (is_bad_escape bytes) bytes (λ k low. (or_parts (is_bad_escape bytes k) (is_escaped_end bytes k) (none k low)).0),
      offset-none (is_escaped_end bytes) bytes (λ k low. (or_parts (is_bad_escape bytes k) (is_escaped_end bytes k) (none k low)).1),
    )

-- ---- bytes without a NUL and a CR

pub no_ends : (bytes : List ℕ) → is_some (either_place bytes 0 carriage_return) ≡ false
    → (None ≡ first_offset (is_nul bytes) bytes) × (None ≡ first_offset (is_lone_return bytes) bytes) × (None ≡ first_offset (is_return_feed bytes) bytes)
no_ends bytes h = (
  offset-none (is_nul bytes) bytes (λ k low. (free k).0),
  offset-none (is_lone_return bytes) bytes (λ k low. and_false _ _ (free k).1),
  offset-none (is_return_feed bytes) bytes (λ k low. and_false _ _ (free k).1),
)
  where
    by_rest : (rest : List ℕ) → begins (λ b. b == 0 || b == carriage_return) rest ≡ false → (begins (λ b. b == 0) rest ≡ false) × (begins (λ b. b == carriage_return) rest ≡ false)
    by_rest [] e = (refl, refl)
    by_rest (b ∷ rest) e = or_parts (b == 0) (b == carriage_return) e

    none : first_place (begins (λ b. b == 0 || b == carriage_return)) bytes ≡ length bytes
    none = by_found (either_place bytes 0 carriage_return) refl h
      where
        by_found : (o : Option ℕ) → o ≡ either_place bytes 0 carriage_return → is_some o ≡ false → first_place (begins (λ b. b == 0 || b == carriage_return)) bytes ≡ length bytes
        by_found None e f = place_none (begins (λ b. b == 0 || b == carriage_return)) bytes e
        by_found (Some p) e f = absurd (cc)

    past : (rest : List ℕ) → length rest ≡ 0 → begins (λ b. b == 0 || b == carriage_return) rest ≡ false
    past [] e = refl
    past (b ∷ rest) e = absurd (omega arith)

    free : (k : ℕ) → (byte_at bytes k 0 ≡ false) × (byte_at bytes k carriage_return ≡ false)
    free k = by_rest (drop k bytes) (elim (cases_lt k (length bytes)) [
      | inl l ↦ first_place-before (begins (λ b. b == 0 || b == carriage_return)) bytes k (omega (arith, none, l))
      | inr g ↦ past (drop k bytes) (omega (arith, length-drop k bytes, g))
    ])
