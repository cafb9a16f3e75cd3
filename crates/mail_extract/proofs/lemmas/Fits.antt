-- Lemmas on texts that fit a pattern.
use Rattle.std.proofs.Common.{◌≡◌, ℕ, suc, ◌+◌, ◌-◌, ◌<◌, ◌≤◌, Bool, true, false, ◌||◌, ◌&&◌, List, [], ◌∷◌, ◌++◌, length, drop, nat_eq, slice_index_or, sym, ap, ◌∙◌, arith, inl, inr}
use Rattle.std.proofs.Math.Seq.{drop-cons, drop-length}
use Rattle.std.proofs.Math.ListN.{get_or}
use Rattle.std.proofs.lemmas.Bool.{cases_lt, cond-false, cond-true, eq-eqb, ne_eqb}
use Rattle.std.proofs.lemmas.List.{get_or_append_left, get_or_push, length-append}
use Rattle.std.specs.Char.{to_ascii_lowercase}
use Rattle.mail_codec.specs.Places.{is_empty}
use Rattle.mail_extract.specs.Choice.{begins_and, fits, some_rest}
use Rattle.mail_extract.specs.private.Fits.{IsRow}

-- the empty rest
drop_none : (text : List ℕ) → drop (length text - 0) text ≡ []
drop_none text =
    let all : length text - 0 ≡ length text = omega arith in
    ap (λ (n : ℕ). drop n text) all ∙ drop-length text

pub none_first : (text : List ℕ) → true ≡ fits [] (drop (length text - 0) text)
unfolding fits
none_first text = sym (ap is_empty (drop_none text))

pub last_star : (first k : ℕ) (rest text : List ℕ) (is : Bool) → k ≡ 0 → first ≡ 42 → is ≡ fits rest (drop (length text - 0) text)
    → is ≡ fits (first ∷ rest) (drop (length text - k) text)
unfolding fits
last_star first k rest text is e same h =
    let f : nat_eq first 42 ≡ true = eq-eqb first 42 same in
    let none : drop (length text - 0) text ≡ [] = drop_none text in
    h ∙ ap (fits rest) none ∙ sym (cond-true (nat_eq first 42) (some_rest (fits rest) []) (begins_and first (fits rest) []) f)
    ∙ sym (ap (λ (j : ℕ). fits (first ∷ rest) (drop (length text - j) text)) e ∙ ap (fits (first ∷ rest)) none)

pub last_other : (first k : ℕ) (rest text : List ℕ) → k ≡ 0 → ¬ (first ≡ 42)
    → nat_eq first 42 ≡ fits (first ∷ rest) (drop (length text - k) text)
unfolding fits
last_other first k rest text e other =
    let f : nat_eq first 42 ≡ false = ne_eqb first 42 other in
    let none : drop (length text - 0) text ≡ [] = drop_none text in
    f ∙ sym (cond-false (nat_eq first 42) (some_rest (fits rest) []) (begins_and first (fits rest) []) f)
    ∙ sym (ap (λ (j : ℕ). fits (first ∷ rest) (drop (length text - j) text)) e ∙ ap (fits (first ∷ rest)) none)

-- the last bytes of a text, one more and the others
cut : (text : List ℕ) (k : ℕ) → 0 < k → k ≤ length text → drop (length text - k) text ≡ get_or text (length text - k) 0 ∷ drop (length text - (k - 1)) text
cut text k some within =
    let next : suc (length text - k) ≡ length text - (k - 1) = omega arith in
    drop-cons text (length text - k) 0 (omega arith) ∙ ap (λ (i : ℕ). get_or text (length text - k) 0 ∷ drop i text) next

pub more_star : (first k : ℕ) (rest text : List ℕ) (here shorter : Bool) → 0 < k → k ≤ length text → first ≡ 42
    → here ≡ fits rest (drop (length text - k) text) → shorter ≡ fits (first ∷ rest) (drop (length text - (k - 1)) text)
    → (here || shorter) ≡ fits (first ∷ rest) (drop (length text - k) text)
unfolding fits
more_star first k rest text here shorter some within same h g =
    let f : nat_eq first 42 ≡ true = eq-eqb first 42 same in
    let x = get_or text (length text - k) 0 in
    let others = drop (length text - (k - 1)) text in
    let whole = cut text k some within in
    let star = cond-true (nat_eq first 42) (some_rest (fits rest) others) (begins_and first (fits rest) others) f in
    ap (λ (b : Bool). b || shorter) (h ∙ ap (fits rest) whole) ∙ ap (λ (b : Bool). fits rest (x ∷ others) || b) (g ∙ star)
    ∙ sym (cond-true (nat_eq first 42) (some_rest (fits rest) (x ∷ others)) (begins_and first (fits rest) (x ∷ others)) f) ∙ sym (ap (fits (first ∷ rest)) whole)

pub more_other : (first k : ℕ) (rest text : List ℕ) (same after : Bool) → 0 < k → k ≤ length text → ¬ (first ≡ 42)
    → same ≡ nat_eq (to_ascii_lowercase (get_or text (length text - k) 0)) (to_ascii_lowercase first)
    → after ≡ fits rest (drop (length text - (k - 1)) text) → (same && after) ≡ fits (first ∷ rest) (drop (length text - k) text)
unfolding fits
more_other first k rest text same after some within other h g =
    let f : nat_eq first 42 ≡ false = ne_eqb first 42 other in
    let x = get_or text (length text - k) 0 in
    let others = drop (length text - (k - 1)) text in
    let whole = cut text k some within in
    ap (λ (b : Bool). b && after) h ∙ ap (λ (b : Bool). nat_eq (to_ascii_lowercase x) (to_ascii_lowercase first) && b) g
    ∙ sym (cond-false (nat_eq first 42) (some_rest (fits rest) (x ∷ others)) (begins_and first (fits rest) (x ∷ others)) f) ∙ sym (ap (fits (first ∷ rest)) whole)

-- no rest yet
pub row_none : (test : List ℕ → Bool) (text : List ℕ) (row : List Bool) → length row ≡ 0 → IsRow test text 0 row
row_none test text row e = record { len = e; each = λ j below. absurd (omega arith) }

-- one more rest
pub row_more : (test : List ℕ → Bool) (text : List ℕ) (count : ℕ) (row new : List Bool) (is : Bool) → new ≡ row ++ is ∷ []
    → is ≡ test (drop (length text - count) text) → IsRow test text count row → IsRow test text (count + 1) new
row_more test text count row new is made fact before =
    let all = length-append row (is ∷ []) in
    record {
      len = ap length made ∙ omega (arith, all, before.len);
      each = λ j below. elim (cases_lt j count) [
        | inl less ↦
            ap (λ (r : List Bool). slice_index_or r j false) made
            ∙ (get_or_append_left row (is ∷ []) false j (omega (arith, less, before.len)) ∙ before.each j less)
        | inr not_less ↦
            let same : count ≡ j = omega arith in
            ap (λ (r : List Bool). slice_index_or r j false) made
            ∙ (get_or_push row is false j (before.len ∙ same) ∙ fact ∙ ap (λ (k : ℕ). test (drop (length text - k) text)) same)
      ];
    }

-- no rest but the last is empty
pub none_more : (text : List ℕ) (count : ℕ) → 0 < count → count ≤ length text → false ≡ fits [] (drop (length text - count) text)
unfolding fits
none_more text count some within = sym (ap is_empty (cut text count some within))
