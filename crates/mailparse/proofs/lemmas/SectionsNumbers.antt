-- The base and the number of a name.
use Rattle.std.proofs.Common.{◌≡◌, ℕ, suc, ◌++◌, subst, ◌+◌, ◌-◌, ◌<◌, ◌^◌, true, false, not, ◌&&◌, ◌||◌, cond, eqb, ltb, List, [], ◌∷◌, length, length-drop, take, drop, get_or, Option, Some, None, option_map, Ok, Err, refl, sym, ap, ◌∙◌, arith, ⊎_elim}
use Rattle.std.proofs.lemmas.Bool.{false_from_ne_true, cond-true, cond-false, lt-ltb, ltb-true, eq-eqb, ne_eqb, and_from, and_parts, cases_lt}
use Rattle.std.proofs.Math.Seq.{drop-append-add, get_or-append_right, get_or-append_seam, take-append_seam}
use Rattle.std.proofs.lemmas.Fmt.{decimal_is_IsNumeral}
use Rattle.std.proofs.lemmas.List.{get_or-drop, length-append}
use Rattle.std.proofs.lemmas.List.Folds.{list_any_at}
use Rattle.std.proofs.lemmas.List.Sums.{suffix_len_is}
use Rattle.std.proofs.lemmas.Str.{NoCharPasses-byte}
use Rattle.std.proofs.lemmas.Str.Parse.{digit_at, tells_all_ascii_digits, tells_digits, without_leading_plus_none}
use Rattle.std.specs.Fmt.{decimal}
use Rattle.std.specs.List.{list_any, suffix_len, before_last, after_last}
use Rattle.std.specs.Str.{all_ascii_digits, NoCharPasses}
use Rattle.std.specs.Str.Parse.{AllDigits, ParsesUnsigned, digits_value, without_leading_plus}
use Rattle.std.specs.Str.Pattern.{HasCharAt}
use Rattle.mailparse.specs.Sections.{is_star, number_in, numbered, section_name}

-- ---- the number that digits write

digits_all : (ds : List ℕ) → all_ascii_digits ds ≡ true → AllDigits 10 ds
digits_all [] h = tt
digits_all (d ∷ ds) h = let p = tells_all_ascii_digits.parts d ds h in tells_digits.more d ds p.0 (digits_all ds p.1)

all_digits : (ds : List ℕ) → AllDigits 10 ds → all_ascii_digits ds ≡ true
all_digits [] h = refl
all_digits (d ∷ ds) h = let p = tells_digits.parts d ds h in tells_all_ascii_digits.more d ds p.0 (all_digits ds p.1)

pub number_parsed : (text : List ℕ) (n : ℕ) → ParsesUnsigned {E = ℕ} 64 10 text (Ok n) → number_in text ≡ Some n
number_parsed text n h =
    let ds = without_leading_plus text in
    let tests = and_from _ _ (and_from _ _ (lt-ltb 0 (length ds) h.0.0.0) (all_digits ds h.0.0.1)) (lt-ltb (digits_value 10 ds) (2 ^ 64) h.0.1) in
    cond-true _ _ _ tests ∙ ap Some (sym h.1)

pub number_refused : (text : List ℕ) → ParsesUnsigned {E = ℕ} 64 10 text (Err 0) → number_in text ≡ None
number_refused text h =
    cond-false _ _ _ (false_from_ne_true _ (λ is.
    let outer = and_parts _ _ is in
    let inner = and_parts _ _ outer.0 in
    h ((ltb-true _ _ inner.0, digits_all _ inner.1), ltb-true _ _ outer.1)))

-- ---- the last star of a name

none_at : (name : List ℕ) → ((i : ℕ) → i < length name → eqb (get_or name i 0) 42 ≡ false) → list_any is_star name ≡ false
none_at [] h = refl
none_at (b ∷ name) h = ap (λ t. t || list_any is_star name) (h 0 (omega arith)) ∙ none_at name (λ i below. h (suc i) (omega arith))

no_star_byte : (bs : List ℕ) (i : ℕ) → NoCharPasses (λ d. eqb d 42) bs → i < length bs → eqb (get_or bs i 0) 42 ≡ false
no_star_byte bs i h below =
    ⊎_elim (λ small. NoCharPasses-byte (λ d. eqb d 42) bs i h below small) (λ large. ne_eqb _ _ (λ e. absurd (omega arith)))
    (cases_lt (get_or bs i 0) 128)

pub numbered_no_star : (name : List ℕ) → NoCharPasses (λ d. eqb d 42) name → numbered name ≡ None
unfolding numbered
numbered_no_star name h = cond-false _ _ _ (none_at name (λ i below. no_star_byte name i h below))

no_star_after : (name : List ℕ) (j k : ℕ) → NoCharPasses (λ d. eqb d 42) (drop j name) → j < k + 1 → k < length name → not (is_star (get_or name k 0)) ≡ true
no_star_after name j k none from within =
    let long = length-drop j name in
    let same : j + (k - j) ≡ k = omega arith in
    ap not (sym (ap (λ b. eqb b 42) (get_or-drop j name (k - j) 0 ∙ ap (λ n. get_or name n 0) same)) ∙ no_star_byte (drop j name) (k - j) none (omega arith))

pub last_star : (name : List ℕ) (i j : ℕ) → NoCharPasses (λ d. eqb d 42) (drop j name) → HasCharAt 42 name i j → i < length name
    → (list_any is_star name ≡ true) × (before_last is_star name ≡ take i name) × (after_last is_star name ≡ drop j name)
last_star name i j none at below =
    let ends : j ≡ i + 1 = at.ends in
    let byte : get_or name i 0 ≡ 42 = at.byte (omega arith) in
    let before : j - 1 ≡ i = omega arith in
    let suffix : suffix_len (λ b. not (is_star b)) name ≡ length name - j =
    suffix_len_is (λ b. not (is_star b)) name j 0 (omega arith) (λ k from within. no_star_after name j k none (omega arith) within)
    (λ some. ap not (eq-eqb _ _ (ap (λ k. get_or name k 0) before ∙ byte)))
    in
    let front : length name - suffix_len (λ b. not (is_star b)) name - 1 ≡ i = omega arith in
    let rest : length name - suffix_len (λ b. not (is_star b)) name ≡ j = omega arith in
    (list_any_at is_star name i 0 below (eq-eqb _ _ byte), ap (λ k. take k name) front, ap (λ k. drop k name) rest)

-- a name that was cut at its last star
pub numbered_cut : (name base text : List ℕ) (number : Option ℕ) → (list_any is_star name ≡ true) × (before_last is_star name ≡ base) × (after_last is_star name ≡ text)
    → number_in text ≡ number → numbered name ≡ option_map (λ n. (base, n)) number
unfolding numbered
numbered_cut name base text number (star, before, after) reads =
    cond-true _ _ _ star
    ∙ ap (option_map (λ n. (before_last is_star name, n))) (ap number_in after ∙ reads)
    ∙ ap (λ b. option_map (λ n. (b, n)) number) before

-- ---- the name of a section

number_of_decimal : (n : ℕ) → n < 2 ^ 64 → number_in (decimal n) ≡ Some n
number_of_decimal n below =
    ap (λ ds. cond (ltb 0 (length ds) && all_ascii_digits ds && ltb (digits_value 10 ds) (2 ^ 64)) (Some (digits_value 10 ds)) None) plain
    ∙ cond-true _ _ _ (and_from _ _ (and_from _ _ (lt-ltb 0 (length (decimal n)) d.0.0) (all_digits (decimal n) d.0.1)) (lt-ltb (digits_value 10 (decimal n)) (2 ^ 64) (subst (λ v. v < 2 ^ 64) (sym d.1) below)))
    ∙ ap Some d.1
  where
    d : ((0 < length (decimal n)) × AllDigits 10 (decimal n)) × (digits_value 10 (decimal n) ≡ n)
    d = decimal_is_IsNumeral n below

    plain : without_leading_plus (decimal n) ≡ decimal n
    plain = without_leading_plus_none (decimal n) (λ e. let at = digit_at (decimal n) 0 d.0.1 d.0.0 in omega (arith, e, at.0))

cut_at_star : (base ds : List ℕ) → AllDigits 10 ds
    → (list_any is_star (base ++ 42 ∷ ds) ≡ true) × (before_last is_star (base ++ 42 ∷ ds) ≡ base) × (after_last is_star (base ++ 42 ∷ ds) ≡ ds)
cut_at_star base ds digits = (
  list_any_at is_star name (length base) 0 (omega (arith, long)) (eq-eqb _ _ (get_or-append_seam base 42 ds 0)),
  ap (λ k. take k name) front ∙ take-append_seam base (42 ∷ ds),
  ap (λ k. drop k name) rest ∙ drop-append-add base (42 ∷ ds) 1,
)
  where
    name : List ℕ
    name = base ++ 42 ∷ ds

    long : length name ≡ length base + suc (length ds)
    long = length-append base (42 ∷ ds)

    past : (k : ℕ) → length base + 1 < k + 1 → k < length name → not (is_star (get_or name k 0)) ≡ true
    past k from within =
        let next : k - length base ≡ suc (k - (length base + 1)) = omega arith in
        let at = digit_at ds (k - (length base + 1)) digits (omega (arith, long)) in
        let read = get_or-append_right base (42 ∷ ds) k 0 (omega arith) ∙ ap (λ j. get_or (42 ∷ ds) j 0) next in
        ap not (ne_eqb _ _ (λ e. absurd (omega (arith, e, read, at.0))))

    suffix : suffix_len (λ b. not (is_star b)) name ≡ length name - (length base + 1)
    suffix =
        suffix_len_is (λ b. not (is_star b)) name (length base + 1) 0 (omega (arith, long)) (λ k from within. past k (omega arith) within)
        (λ some. let same : length base + 1 - 1 ≡ length base = omega arith in
        ap not (eq-eqb _ _ (ap (λ k. get_or name k 0) same ∙ get_or-append_seam base 42 ds 0)))

    front : length name - suffix_len (λ b. not (is_star b)) name - 1 ≡ length base
    front = omega (arith, long, suffix)

    rest : length name - suffix_len (λ b. not (is_star b)) name ≡ length base + 1
    rest = omega (arith, long, suffix)

-- a section's name has its base and its number
pub numbered_section : (base : List ℕ) (n : ℕ) → n < 2 ^ 64 → numbered (section_name base n) ≡ Some (base, n)
numbered_section base n below =
    let d = decimal_is_IsNumeral n below in
    numbered_cut (section_name base n) base (decimal n) (Some n) (cut_at_star base (decimal n) d.0.1) (number_of_decimal n below)
