-- Whole groups of letters in bodies in Base64.
use Rattle.std.proofs.Common.{◌≡◌, ℕ, zero, suc, ◌+◌, ◌-◌, ◌*◌, ◌/◌, ◌≤◌, true, not, List, [], ◌∷◌, length, take, drop, inl, inr, refl, sym, ap, ◌∙◌, ◌&&◌, arith}
use Rattle.std.proofs.lemmas.Bool.{and_parts, cases_Bool, eqb-true}
use Rattle.std.proofs.lemmas.List.{drop-drop, length-drop, take_all}
use Rattle.mail_codec.specs.Ascii.{carriage_return, line_feed}
use Rattle.mail_codec.specs.Places.{begins, first_place}
use Rattle.mail_codec.proofs.lemmas.Places.{first_place-≤}
use Rattle.mail_check.specs.Bodies.{after_bytes, is_letter}
use Rattle.mail_check.specs.Bytes.{byte_at}
use Rattle.mail_check.specs.private.Base64Lines.{line_end_len}
use Rattle.mail_check.specs.declared.bodies.Base64State.TheVariants.{Start, Whole}

-- the number of letters before the first byte that is not one
abbrev pub letters : List ℕ → ℕ
letters bytes = first_place (begins (λ b. not (is_letter b))) bytes

letter_first : (n b : ℕ) (bytes : List ℕ) → suc n ≤ letters (b ∷ bytes) → (is_letter b ≡ true) × (n ≤ letters bytes)
letter_first n b bytes h = elim (cases_Bool (is_letter b)) [
  | inl t ↦ let past : suc n ≤ suc (letters bytes) = rw t at h in (t, omega arith)
  | inr f ↦ let none : suc n ≤ 0 = rw f at h in absurd (omega arith)
]

-- four letters make a group
group_first : (n : ℕ) (bytes : List ℕ) → n + 4 ≤ letters bytes → (after_bytes Whole bytes ≡ after_bytes Whole (drop 4 bytes)) × (n ≤ letters (drop 4 bytes))
group_first n [] h = absurd (omega arith)
group_first n (a ∷ []) h = absurd (omega (arith, h, first_place-≤ (begins (λ b. not (is_letter b))) (a ∷ [])))
group_first n (a ∷ b ∷ []) h = absurd (omega (arith, h, first_place-≤ (begins (λ b. not (is_letter b))) (a ∷ b ∷ [])))
group_first n (a ∷ b ∷ c ∷ []) h = absurd (omega (arith, h, first_place-≤ (begins (λ b. not (is_letter b))) (a ∷ b ∷ c ∷ [])))
group_first n (a ∷ b ∷ c ∷ d ∷ bytes) h =
    let p = letter_first (n + 3) a (b ∷ c ∷ d ∷ bytes) (omega arith) in
    let q = letter_first (n + 2) b (c ∷ d ∷ bytes) (omega (arith, p.1)) in
    let r = letter_first (n + 1) c (d ∷ bytes) (omega (arith, q.1)) in
    let s = letter_first n d bytes (omega (arith, r.1)) in
    (rw (p.0, q.0, r.0, s.0) refl, s.1)

-- k groups of letters do not change the state after a group
groups_first : (k : ℕ) (bytes : List ℕ) → 4 * k ≤ letters bytes → after_bytes Whole bytes ≡ after_bytes Whole (drop (4 * k) bytes)
groups_first zero bytes h = refl
groups_first (suc k) bytes h =
    let four = group_first (4 * k) bytes (omega arith) in
    four.0 ∙ groups_first k (drop 4 bytes) four.1
    ∙ ap (after_bytes Whole) (drop-drop (4 * k) 4 bytes ∙ ap (λ (j : ℕ). drop j bytes) {x = 4 + 4 * k} {y = 4 * suc k} (omega arith))

-- a line begins as it goes on after a group
start_is_whole : (bytes : List ℕ) → 1 ≤ letters bytes → after_bytes Start bytes ≡ after_bytes Whole bytes
start_is_whole [] h = absurd (omega arith)
start_is_whole (b ∷ bytes) h = rw ((letter_first 0 b bytes h).0) refl

-- the state after the whole groups at the start of a line, and the rest
pub groups_skipped : (bytes : List ℕ) (n : ℕ) → n ≡ letters bytes → (n / 4 * 4 ≡ 0 → ⊥)
    → after_bytes Whole (take (length bytes - n / 4 * 4) (drop (n / 4 * 4) bytes)) ≡ after_bytes Start bytes
groups_skipped bytes n is some =
    let whole : after_bytes Whole bytes ≡ after_bytes Whole (drop (n / 4 * 4) bytes) =
    groups_first (n / 4) bytes (omega arith) ∙ ap (λ (j : ℕ). after_bytes Whole (drop j bytes)) {x = 4 * (n / 4)} {y = n / 4 * 4} (omega arith) in
    let all = take_all (length bytes - n / 4 * 4) (drop (n / 4 * 4) bytes) (omega (arith, length-drop (n / 4 * 4) bytes)) in
    ap (after_bytes Whole) all ∙ sym whole ∙ sym (start_is_whole bytes (omega arith))

after_feed : (bytes : List ℕ) → byte_at bytes 0 line_feed ≡ true → after_bytes Whole bytes ≡ after_bytes Start (drop 1 bytes)
after_feed [] h = absurd (cc h)
after_feed (b ∷ bytes) h = rw (eqb-true b line_feed h) refl

after_return : (bytes : List ℕ) → byte_at bytes 0 carriage_return ≡ true → byte_at bytes 1 line_feed ≡ true → after_bytes Whole bytes ≡ after_bytes Start (drop 2 bytes)
after_return [] h g = absurd (cc h)
after_return (b ∷ []) h g = absurd (cc g)
after_return (b ∷ c ∷ bytes) h g = rw (eqb-true b carriage_return h, eqb-true c line_feed g) refl

-- the state after a line end after groups, and the rest
pub line_end_skipped : (bytes : List ℕ) (n : ℕ) → n ≡ line_end_len bytes → (n ≡ 0 → ⊥)
    → after_bytes Start (take (length bytes - n) (drop n bytes)) ≡ after_bytes Whole bytes
line_end_skipped bytes n is some =
    let all = take_all (length bytes - n) (drop n bytes) (omega (arith, length-drop n bytes)) in
    ap (after_bytes Start) all ∙ elim (cases_Bool (byte_at bytes 0 line_feed)) [
      | inl t ↦ let one : n ≡ 1 = rw t at is in ap (λ (j : ℕ). after_bytes Start (drop j bytes)) one ∙ sym (after_feed bytes t)
      | inr f ↦ elim (cases_Bool (byte_at bytes 0 carriage_return && byte_at bytes 1 line_feed)) [
        | inl t ↦
            let two : n ≡ 2 = rw (f, t) at is in
            let both = and_parts _ _ t in
            ap (λ (j : ℕ). after_bytes Start (drop j bytes)) two ∙ sym (after_return bytes both.0 both.1)
        | inr g ↦ let none : n ≡ 0 = rw (f, g) at is in absurd (some none)
      ]
    ]
