-- Lemmas on names of which a message has one header: if none is repeated, none has a second header.
use Rattle.std.proofs.Common.{◌≡◌, ◌∙◌, ◌<◌, ◌≤◌, ℕ, suc, Bool, true, false, List, [], ◌∷◌, ◌++◌, length, get_or, set, inl, inr, refl, subst, sym, ap, Option, None, arith}
use Rattle.std.specs.Prelude.{◌||◌, ◌==◌, filter}
use Rattle.std.specs.List.{position_or_len}
use Rattle.std.specs.Str.{bytes_eq, str_to_ascii_lowercase}
use Rattle.std.proofs.lemmas.Bool.{agree_below, agree_below_at, cases_Bool, eqb-true, or_parts, true≢false}
use Rattle.std.proofs.lemmas.List.{get_or-replicate, get_or-set_other, get_or-set_same, get_or_past, length-set, set_past}
use Rattle.std.proofs.lemmas.List.Sums.{passes_at_first}
use Rattle.std.proofs.lemmas.Slice.Eq.{bytes_eq-Decides}
use Rattle.mail_read.specs.PartPlaces.{Place}
use Rattle.mail_check.specs.Findings.{repeated, repeated_findings}
use Rattle.mail_check.specs.Lines.{HeaderLine, is_named, second_named, single_names}
use Rattle.mail_check.specs.private.Seconds.{second_after}
use Rattle.mail_check.specs.private.Singles.{has_repeated, none_yet, single_number}
use Rattle.mail_check.proofs.lemmas.Lines.{second_begun, second_passed}

-- ---- the number of a name

-- the number of a key in lower case
abbrev number_by : List ℕ → ℕ
number_by key = position_or_len (λ name. bytes_eq key (str_to_ascii_lowercase name)) single_names

-- that of a name
abbrev name_at : ℕ → List ℕ
name_at i = get_or single_names i []

own_numbers : agree_below (λ i. number_by (str_to_ascii_lowercase (name_at i)) == i) (λ i. true) 17 ≡ true
own_numbers = refl

-- a header with the i-th name has the number i
number_is : (line : HeaderLine) (i : ℕ) → i < 17 → is_named (name_at i) line ≡ true → single_number line ≡ i
unfolding single_number
number_is line i low h =
    ap number_by ((bytes_eq-Decides (str_to_ascii_lowercase line.key) (str_to_ascii_lowercase (name_at i))).0 h)
    ∙ eqb-true _ _ (agree_below_at (λ k. number_by (str_to_ascii_lowercase (name_at k)) == k) (λ k. true) 17 i own_numbers low)

-- a header with the number i has the i-th name
number_named : (line : HeaderLine) (i : ℕ) → i < 17 → single_number line ≡ i → is_named (name_at i) line ≡ true
unfolding single_number
number_named line i low h =
    sym (ap (λ (k : ℕ). is_named (name_at k) line) h) ∙ passes_at_first (λ name. is_named name line) single_names [] (omega (arith, low, h))

-- ---- headers

-- a header with another name
pub number_past : (seen : List Bool) (number : ℕ) (line : HeaderLine) (lines : List HeaderLine) → number ≡ single_number line → length seen ≤ number
    → has_repeated seen (line ∷ lines) ≡ has_repeated seen lines
number_past seen number line lines is h =
    let past : length seen ≤ single_number line = subst (λ (n : ℕ). length seen ≤ n) is h in
    ap (λ (s : Bool). s || has_repeated (set seen (single_number line) true) lines) (get_or_past seen (single_number line) false past)
    ∙ ap (λ (s : List Bool). has_repeated s lines) (set_past seen (single_number line) true past)

-- if no number is repeated, no name has another header than the first
once : (lines : List HeaderLine) (seen : List Bool) → length seen ≡ 17 → has_repeated seen lines ≡ false
    → (i : ℕ) → i < 17 → second_after (get_or seen i false) (filter (is_named (name_at i)) lines) ≡ None
once [] seen long h i low = unseen (get_or seen i false)
  where
    unseen : (is : Bool) → second_after is [] ≡ None
    unseen true = refl
    unseen false = refl
once (line ∷ lines) seen long h i low =
    let n = single_number line in
    let parts = or_parts (get_or seen n false) (has_repeated (set seen n true) lines) h in
    let rest = once lines (set seen n true) (length-set seen n true ∙ long) parts.1 i low in
    elim (cases_Bool (is_named (name_at i) line)) [
      | inl is ↦
          let same = number_is line i low is in
          let fresh : get_or seen i false ≡ false = ap (λ (k : ℕ). get_or seen k false) (sym same) ∙ parts.0 in
          let now : get_or (set seen n true) i false ≡ true = ap (λ (k : ℕ). get_or (set seen k true) i false) same ∙ get_or-set_same seen i true false (omega (arith, low, long)) in
          ap (λ (s : Bool). second_after s (filter (is_named (name_at i)) (line ∷ lines))) fresh
          ∙ second_begun (name_at i) line lines is
          ∙ ap (λ (s : Bool). second_after s (filter (is_named (name_at i)) lines)) (sym now) ∙ rest
      | inr other ↦
          let apart : i ≡ n → ⊥ = λ e. true≢false (sym (number_named line i low (sym e)) ∙ other) in
          second_passed (name_at i) (get_or seen i false) line lines other
          ∙ ap (λ (s : Bool). second_after s (filter (is_named (name_at i)) lines)) (sym (get_or-set_other seen n i true false apart)) ∙ rest
    ]

-- and none has a second one
pub none_second : (lines : List HeaderLine) → has_repeated none_yet lines ≡ false → (i : ℕ) → i < 17 → second_named (get_or single_names i []) lines ≡ None
none_second lines h i low =
    ap (λ (s : Bool). second_after s (filter (is_named (get_or single_names i [])) lines)) (sym (empty i low)) ∙ once lines none_yet refl h i low
  where
    empty : (i : ℕ) → i < 17 → get_or none_yet i false ≡ false
    empty i low = get_or-replicate 17 i false false low

-- so there is nothing to report
none_of : (place : Place) (lines : List HeaderLine) (names : List (List ℕ)) → ((i : ℕ) → i < length names → second_named (get_or names i []) lines ≡ None)
    → repeated_findings place lines names ≡ []
none_of place lines [] h = refl
none_of place lines (name ∷ names) h =
    ap (λ (o : Option HeaderLine). repeated place o ++ repeated_findings place lines names) (h 0 (omega arith))
    ∙ none_of place lines names (λ i low. h (suc i) (omega (arith, low)))

pub none_repeated : (place : Place) (lines : List HeaderLine) → has_repeated none_yet lines ≡ false → repeated_findings place lines single_names ≡ []
none_repeated place lines h = none_of place lines single_names (none_second lines h)
