-- Lemmas on lines that a writer of mailboxes quotes with `>`.
use Rattle.std.proofs.Common.{◌≡◌, ℕ, suc, ◌+◌, ◌-◌, ◌<◌, Bool, true, false, cond, List, [], ◌∷◌, ◌++◌, ◌&&◌, length, length-drop, take, drop, refl, sym, ap, ◌∙◌, arith, inl, inr}
use Rattle.std.specs.Prelude.{◌==◌, min, nat_eq}
use Rattle.std.specs.List.{list_any, prefix_len}
use Rattle.std.proofs.lemmas.Bool.{cases_Bool, eqb-true, and_left, and_parts, and_right, or_parts, or_right}
use Rattle.std.proofs.lemmas.List.{append_assoc, take_rest}
use Rattle.mail_codec.specs.Places.{begins, first_place, has_prefix}
use Rattle.mail_data.specs.LineEnds.{after_line, line_length, starts_line}
use Rattle.mail_data.specs.QuotedLines.{first_line, is_marked, is_quoted, quote_length, quoted, quoted_from, unquoted, unquoted_from, unquoted_line}
use Rattle.mail_data.specs.Separator.{mark}
use Rattle.mail_data.proofs.lemmas.LineEnds.{line_length-some_bytes, some-bytes}

-- ---- a line at a time

line_length-at : (b : ℕ) (rest : List ℕ) → line_length (b ∷ rest) ≡ cond (b == 10) 1 (suc (line_length rest))
unfolding line_length
line_length-at b rest = elim (b == 10) as (λ t. line_length' t ≡ cond t 1 (suc (line_length rest))) [
  | true ↦ omega arith
  | false ↦ omega arith
]
  where
    line_length' : Bool → ℕ
    line_length' t = min (suc (cond t 0 (suc (first_place (begins (λ b. b == 10)) rest)))) (length (b ∷ rest))

-- after the start of a line the bytes do not change up to the next line
passed : (bytes : List ℕ) → unquoted_from false bytes ≡ first_line bytes ++ unquoted (after_line bytes)
unfolding line_length
passed [] = refl
passed (b ∷ rest) = go (passed rest) (b == 10) refl
  where
    go : unquoted_from false rest ≡ first_line rest ++ unquoted (after_line rest) → (t : Bool) → (b == 10) ≡ t
        → b ∷ unquoted_from (b == 10) rest ≡ take (line_length (b ∷ rest)) (b ∷ rest) ++ unquoted (drop (line_length (b ∷ rest)) (b ∷ rest))
    go later true e =
        let n : line_length (b ∷ rest) ≡ 1 = line_length-at b rest ∙ ap (λ (t : Bool). cond t 1 (suc (line_length rest))) e in
        ap (λ (t : Bool). b ∷ unquoted_from t rest) e ∙ sym (ap (λ (k : ℕ). take k (b ∷ rest) ++ unquoted (drop k (b ∷ rest))) n)
    go later false e =
        let n : line_length (b ∷ rest) ≡ suc (line_length rest) = line_length-at b rest ∙ ap (λ (t : Bool). cond t 1 (suc (line_length rest))) e in
        ap (λ (t : Bool). b ∷ unquoted_from t rest) e ∙ ap (λ (r : List ℕ). b ∷ r) later
        ∙ sym (ap (λ (k : ℕ). take k (b ∷ rest) ++ unquoted (drop k (b ∷ rest))) n)

-- `>` is no LF
quote-no_feed : (b : ℕ) → (b == 62) ≡ true → (b == 10) ≡ false
quote-no_feed b e = ap (λ (x : ℕ). x == 10) (eqb-true b 62 e)

quoted-no_feed : (b : ℕ) (rest : List ℕ) → is_quoted (b ∷ rest) ≡ true → (b == 10) ≡ false
quoted-no_feed b rest h = quote-no_feed b (and_parts (b == 62) (is_marked rest) h).0

unquoted-line : (bytes : List ℕ) → unquoted bytes ≡ unquoted_line bytes ++ unquoted (after_line bytes)
unfolding unquoted_line line_length
unquoted-line [] = refl
unquoted-line (b ∷ rest) = elim (cases_Bool (is_quoted (b ∷ rest))) [
  | inl h ↦
      let n : line_length (b ∷ rest) ≡ suc (line_length rest) =
      line_length-at b rest ∙ ap (λ (t : Bool). cond t 1 (suc (line_length rest))) (quoted-no_feed b rest h) in
      ap (λ (t : Bool). cond t (unquoted_from false rest) (b ∷ unquoted_from (b == 10) rest)) h ∙ passed rest
      ∙ sym (
      ap (λ (t : Bool). first_line (cond t rest (b ∷ rest)) ++ unquoted (after_line (b ∷ rest))) h
      ∙ ap (λ (k : ℕ). first_line rest ++ unquoted (drop k (b ∷ rest))) n
      )
  | inr h ↦
      ap (λ (t : Bool). cond t (unquoted_from false rest) (b ∷ unquoted_from (b == 10) rest)) h ∙ passed (b ∷ rest)
      ∙ sym (ap (λ (t : Bool). first_line (cond t rest (b ∷ rest)) ++ unquoted (after_line (b ∷ rest))) h)
]

-- a step of the loop
pub line-passed : (rest line text new whole : List ℕ) (n : ℕ) → n ≡ line_length rest → line ≡ unquoted_line rest → new ≡ text ++ line → text ++ unquoted rest ≡ whole
    → new ++ unquoted (take (length rest - n) (drop n rest)) ≡ whole
line-passed rest line text new whole n is line_is made all =
    ap (λ (r : List ℕ). new ++ unquoted r) (take_rest rest n ∙ ap (λ (k : ℕ). drop k rest) is)
    ∙ ap (λ (r : List ℕ). r ++ unquoted (after_line rest)) (made ∙ ap (λ (r : List ℕ). text ++ r) line_is)
    ∙ append_assoc text (unquoted_line rest) (unquoted (after_line rest))
    ∙ ap (λ (r : List ℕ). text ++ r) (sym (unquoted-line rest)) ∙ all

pub line-shorter : (rest : List ℕ) (n : ℕ) (none : Bool) → none ≡ nat_eq (length rest) 0 → none ≡ false → n ≡ line_length rest
    → length (take (length rest - n) (drop n rest)) < length rest
line-shorter rest n none is fails same =
    let low = some-bytes rest none is fails in
    let line = line_length-some_bytes rest low in
    let after = ap length (take_rest rest n) in
    let size = length-drop n rest in
    omega arith

-- ---- a quoted mail

-- a text without a LF stays in its place
has_prefix-quoted : (text rest : List ℕ) → list_any (λ t. t == 10) text ≡ false → has_prefix text (quoted_from false rest) ≡ has_prefix text rest
has_prefix-quoted [] rest h = refl
has_prefix-quoted (t ∷ text) [] h = refl
has_prefix-quoted (t ∷ text) (b ∷ rest) h = elim (cases_Bool (nat_eq t b)) [
  | inl e ↦
      let same : t ≡ b = eqb-true t b e in
      let none = or_parts (t == 10) (list_any (λ t. t == 10) text) h in
      let no_feed : (b == 10) ≡ false = ap (λ (x : ℕ). x == 10) (sym same) ∙ none.0 in
      ap (λ (f : Bool). nat_eq t b && has_prefix text (quoted_from f rest)) no_feed
      ∙ ap (λ (f : Bool). nat_eq t b && f) (has_prefix-quoted text rest none.1)
  | inr n ↦ and_left (nat_eq t b) (has_prefix text (quoted_from (b == 10) rest)) n ∙ sym (and_left (nat_eq t b) (has_prefix text rest) n)
]

marked-past : (b : ℕ) (rest : List ℕ) → (b == 62) ≡ true → is_marked (b ∷ rest) ≡ is_marked rest
unfolding is_marked quote_length
marked-past b rest e =
    let n = prefix_len (λ b. b == 62) rest in
    let one : 1 + n ≡ suc n = omega arith in
    ap (λ (t : Bool). has_prefix mark (drop (cond t (1 + n) 0) (b ∷ rest))) e ∙ ap (λ (k : ℕ). has_prefix mark (drop k (b ∷ rest))) one

marked-here : (b : ℕ) (rest : List ℕ) → (b == 62) ≡ false → is_marked (b ∷ rest) ≡ has_prefix mark (b ∷ rest)
unfolding is_marked quote_length
marked-here b rest e = ap (λ (t : Bool). has_prefix mark (drop (cond t (1 + prefix_len (λ b. b == 62) rest) 0) (b ∷ rest))) e

marked-quoted : (rest : List ℕ) → is_marked (quoted_from false rest) ≡ is_marked rest
marked-quoted [] = refl
marked-quoted (b ∷ rest) = elim (cases_Bool (b == 62)) [
  | inl e ↦
      marked-past b (quoted_from (b == 10) rest) e ∙ ap (λ (f : Bool). is_marked (quoted_from f rest)) (quote-no_feed b e) ∙ marked-quoted rest
      ∙ sym (marked-past b rest e)
  | inr n ↦ marked-here b (quoted_from (b == 10) rest) n ∙ has_prefix-quoted mark (b ∷ rest) refl ∙ sym (marked-here b rest n)
]

returns : (starts : Bool) (bytes : List ℕ) → unquoted_from starts (quoted_from starts bytes) ≡ bytes
returns starts [] = refl
returns false (b ∷ rest) = ap (λ (r : List ℕ). b ∷ r) (returns (b == 10) rest)
returns true (b ∷ rest) = elim (cases_Bool (is_marked (b ∷ rest))) [
  | inl m ↦
      ap (λ (t : Bool). unquoted_from true (cond t (62 ∷ b ∷ quoted_from (b == 10) rest) (b ∷ quoted_from (b == 10) rest))) m
      ∙ ap (λ (t : Bool). cond t (unquoted_from false (b ∷ quoted_from (b == 10) rest)) (62 ∷ unquoted_from false (b ∷ quoted_from (b == 10) rest)))
      (marked-quoted (b ∷ rest) ∙ m)
      ∙ ap (λ (r : List ℕ). b ∷ r) (returns (b == 10) rest)
  | inr n ↦
      ap (λ (t : Bool). unquoted_from true (cond t (62 ∷ b ∷ quoted_from (b == 10) rest) (b ∷ quoted_from (b == 10) rest))) n
      ∙ ap (λ (t : Bool). cond t (unquoted_from false (quoted_from (b == 10) rest)) (b ∷ unquoted_from (b == 10) (quoted_from (b == 10) rest))) (plain b rest n)
      ∙ ap (λ (r : List ℕ). b ∷ r) (returns (b == 10) rest)
]
  where
    plain : (b : ℕ) (rest : List ℕ) → is_marked (b ∷ rest) ≡ false → is_quoted (b ∷ quoted_from (b == 10) rest) ≡ false
    plain b rest n = elim (cases_Bool (b == 62)) [
      | inl e ↦ and_right (b == 62) (is_marked (quoted_from (b == 10) rest))
          (ap (λ (f : Bool). is_marked (quoted_from f rest)) (quote-no_feed b e) ∙ marked-quoted rest ∙ sym (marked-past b rest e) ∙ n)
      | inr o ↦ and_left (b == 62) (is_marked (quoted_from (b == 10) rest)) o
    ]

pub quoted-returns : (mail : List ℕ) → unquoted (quoted mail) ≡ mail
quoted-returns mail = returns true mail

-- ---- a mail without a quoted line

plain-from : (starts : Bool) (bytes : List ℕ) → (starts ≡ true → is_quoted bytes ≡ false)
    → ((p : ℕ) → begins (λ b. b == 10) (drop p bytes) ≡ true → is_quoted (drop (suc p) bytes) ≡ false) → unquoted_from starts bytes ≡ bytes
plain-from starts [] here later = refl
plain-from starts (b ∷ rest) here later =
    ap (λ (t : Bool). cond t (unquoted_from false rest) (b ∷ unquoted_from (b == 10) rest)) (not_here starts (is_quoted (b ∷ rest)) here)
    ∙ ap (λ (r : List ℕ). b ∷ r) (plain-from (b == 10) rest (later 0) (λ p. later (suc p)))
  where
    not_here : (s q : Bool) → (s ≡ true → q ≡ false) → (s && q) ≡ false
    not_here true q h = h refl
    not_here false q h = refl

pub plain-stays : (mail : List ℕ) → ((p : ℕ) → starts_line mail p ≡ true → is_quoted (drop p mail) ≡ false) → unquoted mail ≡ mail
plain-stays mail plain = plain-from true mail (λ s. plain 0 refl) (λ p h. plain (suc p) (starts p h))
  where
    starts : (p : ℕ) → begins (λ b. b == 10) (drop p mail) ≡ true → starts_line mail (suc p) ≡ true
    starts p h =
        let back : suc p - 1 ≡ p = omega arith in
        or_right (suc p == 0) (begins (λ b. b == 10) (drop (suc p - 1) mail)) (ap (λ (k : ℕ). begins (λ b. b == 10) (drop k mail)) back ∙ h)
