-- The sections of bases, and the entries of the names after they are removed.
use Rattle.std.proofs.Common.{◌≡◌, ℕ, zero, suc, ◌+◌, ◌<◌, ◌^◌, Bool, true, false, ◌&&◌, ◌||◌, cond, ltb, List, [], ◌∷◌, ◌++◌, length, Option, Some, None, is_some, refl, sym, ap, ◌∙◌, arith, ⊎_elim}
use Rattle.std.proofs.Math.Bool.{and-false, and-or_distrib_right, and-true, or-false, or-true}
use Rattle.std.proofs.lemmas.Bool.{and_left, cases_order, cond-false, cond-true, false_from_ne_true, false≢true, le-ltb, lt-ltb}
use Rattle.std.specs.Option.{option_map_or}
use Rattle.std.specs.Str.{bytes_eq}
use Rattle.mailparse.specs.Continuations.{joined, most_sections, sections_of}
use Rattle.mailparse.specs.Sections.{Section, numbered, section_name}
use Rattle.mailparse.specs.private.Continuations.{is_section_below, is_taken, joined_text, left_by, without_sections}
use Rattle.mailparse.specs.private.Filled.{holds_name}
use Rattle.mailparse.proofs.lemmas.Filled.{filled_again, filled_push, holds_again, holds_push}
use Rattle.mailparse.proofs.lemmas.ContinuationsJoining.{cons_if_some, most, sections_are, sections_from}
use Rattle.mailparse.proofs.lemmas.SectionsNumbers.{numbered_section}
use Rattle.mailparse.proofs.lemmas.Sections.{cond_none}
use Rattle.mailparse.proofs.lemmas.ExtendedValues.{equal_bytes, is_some_where, same_bytes}

both_taken : (e p : Bool) (x : Option Section) → cond e None (cond p None x) ≡ cond (p || e) None x
both_taken e true x = cond_none e
both_taken e false x = refl

-- ---- the sections of one base

section_here : (base : List ℕ) (count z : ℕ) → count < 2 ^ 64 → is_section_below base z (section_name base count) ≡ ltb count z
section_here base count z below =
    ap (λ o. option_map_or (λ n. bytes_eq base n.0 && (ltb n.1 z && bytes_eq (section_name base count) (section_name n.0 n.1))) o false) (numbered_section base count below)
    ∙ ap (λ b. b && (ltb count z && bytes_eq (section_name base count) (section_name base count))) (same_bytes base base refl)
    ∙ ap (λ b. ltb count z && b) (same_bytes (section_name base count) (section_name base count) refl)
    ∙ and-true (ltb count z)

-- one more number names one more section
one_more : (base : List ℕ) (count : ℕ) (q : List ℕ) → count < 2 ^ 64 → is_section_below base (count + 1) q ≡ (is_section_below base count q || bytes_eq (section_name base count) q)
one_more base count q below = go (bytes_eq (section_name base count) q) refl
  where
    same_test : (n : List ℕ × ℕ) → bytes_eq (section_name base count) q ≡ false → (b : Bool) → bytes_eq base n.0 ≡ b
        → (bytes_eq base n.0 && (ltb n.1 (count + 1) && bytes_eq q (section_name n.0 n.1))) ≡ (bytes_eq base n.0 && (ltb n.1 count && bytes_eq q (section_name n.0 n.1)))
    same_test n other false is = and_left _ _ is ∙ sym (and_left _ _ is)
    same_test n other true is =
        ap (λ t. bytes_eq base n.0 && t)
        (⊎_elim
        (λ same.
        let apart : bytes_eq q (section_name n.0 n.1) ≡ false =
        false_from_ne_true _ (λ e. false≢true (sym other ∙ same_bytes (section_name base count) q (sym (equal_bytes q (section_name n.0 n.1) e ∙ ap (λ k. section_name n.0 k) same ∙ ap (λ z. section_name z count) (sym (equal_bytes base n.0 is)))))) in
        ap (λ b. ltb n.1 (count + 1) && b) apart ∙ and-false (ltb n.1 (count + 1)) ∙ sym (ap (λ b. ltb n.1 count && b) apart ∙ and-false (ltb n.1 count)))
        (λ unlike. ⊎_elim
        (λ lt. ap (λ b. b && bytes_eq q (section_name n.0 n.1)) (lt-ltb n.1 (count + 1) (omega arith) ∙ sym (lt-ltb n.1 count lt)))
        (λ gt. ap (λ b. b && bytes_eq q (section_name n.0 n.1)) (le-ltb n.1 (count + 1) (omega arith) ∙ sym (le-ltb n.1 count (omega arith))))
        unlike)
        (cases_order n.1 count))

    by_number : bytes_eq (section_name base count) q ≡ false → (o : Option (List ℕ × ℕ))
        → option_map_or (λ n. bytes_eq base n.0 && (ltb n.1 (count + 1) && bytes_eq q (section_name n.0 n.1))) o false
        ≡ option_map_or (λ n. bytes_eq base n.0 && (ltb n.1 count && bytes_eq q (section_name n.0 n.1))) o false
    by_number other None = refl
    by_number other (Some n) = same_test n other (bytes_eq base n.0) refl

    go : (b : Bool) → bytes_eq (section_name base count) q ≡ b → is_section_below base (count + 1) q ≡ (is_section_below base count q || bytes_eq (section_name base count) q)
    go true is =
        ap (is_section_below base (count + 1)) (sym (equal_bytes (section_name base count) q is)) ∙ section_here base count (count + 1) below ∙ lt-ltb count (count + 1) (omega arith)
        ∙ sym (ap (λ b. is_section_below base count q || b) is ∙ or-true (is_section_below base count q))
    go false is = by_number is (numbered q) ∙ sym (ap (λ b. is_section_below base count q || b) is ∙ or-false (is_section_below base count q))

-- the next section is unchanged
pub next_stands : (at now : List ℕ → Option Section) (base : List ℕ) (count : ℕ) → count < 2 ^ 64 → ((q : List ℕ) → now q ≡ without_sections at base count q)
    → now (section_name base count) ≡ at (section_name base count)
next_stands at now base count below before = before (section_name base count) ∙ cond-false _ _ _ (section_here base count count below ∙ le-ltb count count (omega arith))

pub taken_next : (at : List ℕ → Option Section) (base : List ℕ) (count : ℕ) (q : List ℕ) (old new : Option Section) → count < 2 ^ 64 → old ≡ without_sections at base count q
    → new ≡ cond (bytes_eq (section_name base count) q) None old → new ≡ without_sections at base (count + 1) q
taken_next at base count q old new below before step =
    step ∙ ap (cond (bytes_eq (section_name base count) q) None) before ∙ both_taken (bytes_eq (section_name base count) q) (is_section_below base count q) (at q)
    ∙ ap (λ b. cond b None (at q)) (sym (one_more base count q below))

-- there was no section to remove
pub taken_none : (at : List ℕ → Option Section) (base : List ℕ) (count : ℕ) (q : List ℕ) (old new : Option Section) → old ≡ without_sections at base count q
    → at (section_name base count) ≡ None → new ≡ cond (bytes_eq (section_name base count) q) None old → new ≡ without_sections at base count q
taken_none at base count q old new before none step = go (bytes_eq (section_name base count) q) refl
  where
    go : (b : Bool) → bytes_eq (section_name base count) q ≡ b → new ≡ without_sections at base count q
    go true is =
        step ∙ cond-true _ _ _ is
        ∙ sym (ap (cond (is_section_below base count q) None) (ap at (sym (equal_bytes (section_name base count) q is)) ∙ none) ∙ cond_none (is_section_below base count q))
    go false is = step ∙ cond-false _ _ _ is ∙ before

-- ---- the sections of several bases

left_here : (at : List ℕ → Option Section) (bases : List (List ℕ)) (base : List ℕ) (n : ℕ) → holds_name bases base ≡ false → n < 2 ^ 64
    → left_by at bases (section_name base n) ≡ at (section_name base n)
left_here at bases base n other below =
    cond-false _ _ _
    (ap (λ o. option_map_or (λ m. holds_name bases m.0 && (ltb m.1 (length (sections_of at m.0)) && bytes_eq (section_name base n) (section_name m.0 m.1))) o false) (numbered_section base n below)
    ∙ and_left _ _ other)

sections_same : (at : List ℕ → Option Section) (bases : List (List ℕ)) (base : List ℕ) (n number : ℕ) → holds_name bases base ≡ false → number + n < 2 ^ 64
    → sections_from (left_by at bases) base n number ≡ sections_from at base n number
sections_same at bases base zero number other below = refl
sections_same at bases base (suc n) number other below =
    ap (λ o. cons_if_some o (sections_from (left_by at bases) base n (suc number))) (left_here at bases base number other (omega arith))
    ∙ ap (cons_if_some (at (section_name base number))) (sections_same at bases base n (suc number) other (omega arith))

-- a base that was not joined yet has all its sections
pub all_sections : (at now : List ℕ → Option Section) (bases : List (List ℕ)) (base : List ℕ) → holds_name bases base ≡ false → ((q : List ℕ) → now q ≡ left_by at bases q)
    → sections_of now base ≡ sections_of at base
all_sections at now bases base other before =
    let same : now ≡ left_by at bases = λ i q. before q i in
    ap (λ a. sections_of a base) same
    ∙ sections_are (left_by at bases) base
    ∙ sections_same at bases base most_sections 0 other (let long = most in omega (arith, long))
    ∙ sym (sections_are at base)

one_base : (at : List ℕ → Option Section) (bases : List (List ℕ)) (base q : List ℕ)
    → is_taken at (bases ++ base ∷ []) q ≡ (is_taken at bases q || is_section_below base (length (sections_of at base)) q)
one_base at bases base q = go (numbered q)
  where
    same : (n : List ℕ × ℕ) (b : Bool) → bytes_eq base n.0 ≡ b
        → (bytes_eq base n.0 && (ltb n.1 (length (sections_of at n.0)) && bytes_eq q (section_name n.0 n.1))) ≡ (bytes_eq base n.0 && (ltb n.1 (length (sections_of at base)) && bytes_eq q (section_name n.0 n.1)))
    same n true is = ap (λ z. bytes_eq base n.0 && (ltb n.1 (length (sections_of at z)) && bytes_eq q (section_name n.0 n.1))) (sym (equal_bytes base n.0 is))
    same n false is = and_left _ _ is ∙ sym (and_left _ _ is)

    go : (o : Option (List ℕ × ℕ))
        → option_map_or (λ n. holds_name (bases ++ base ∷ []) n.0 && (ltb n.1 (length (sections_of at n.0)) && bytes_eq q (section_name n.0 n.1))) o false
        ≡ (option_map_or (λ n. holds_name bases n.0 && (ltb n.1 (length (sections_of at n.0)) && bytes_eq q (section_name n.0 n.1))) o false
        || option_map_or (λ n. bytes_eq base n.0 && (ltb n.1 (length (sections_of at base)) && bytes_eq q (section_name n.0 n.1))) o false)
    go None = refl
    go (Some n) =
        let below = ltb n.1 (length (sections_of at n.0)) && bytes_eq q (section_name n.0 n.1) in
        ap (λ b. b && below) (holds_push bases base n.0) ∙ and-or_distrib_right (holds_name bases n.0) (bytes_eq base n.0) below
        ∙ ap (λ b. (holds_name bases n.0 && below) || b) (same n (bytes_eq base n.0) refl)

-- a base was joined
pub left_next : (at now : List ℕ → Option Section) (bases : List (List ℕ)) (base q : List ℕ) (new : Option Section) → holds_name bases base ≡ false
    → ((z : List ℕ) → now z ≡ left_by at bases z) → new ≡ without_sections now base (length (sections_of now base)) q → new ≡ left_by at (bases ++ base ∷ []) q
left_next at now bases base q new other before step =
    step ∙ ap (λ ps. without_sections now base (length ps) q) (all_sections at now bases base other before)
    ∙ ap (cond (is_section_below base (length (sections_of at base)) q) None) (before q)
    ∙ both_taken (is_section_below base (length (sections_of at base)) q) (is_taken at bases q) (at q)
    ∙ ap (λ b. cond b None (at q)) (sym (one_base at bases base q))

-- it was joined before
pub left_again : (at : List ℕ → Option Section) (bases : List (List ℕ)) (base q : List ℕ) (now : Option Section) → holds_name bases base ≡ true
    → now ≡ left_by at bases q → now ≡ left_by at (bases ++ base ∷ []) q
left_again at bases base q now held before = before ∙ ap (λ b. cond b None (at q)) (sym (go (numbered q)))
  where
    go : (o : Option (List ℕ × ℕ))
        → option_map_or (λ n. holds_name (bases ++ base ∷ []) n.0 && (ltb n.1 (length (sections_of at n.0)) && bytes_eq q (section_name n.0 n.1))) o false
        ≡ option_map_or (λ n. holds_name bases n.0 && (ltb n.1 (length (sections_of at n.0)) && bytes_eq q (section_name n.0 n.1))) o false
    go None = refl
    go (Some n) = ap (λ b. b && (ltb n.1 (length (sections_of at n.0)) && bytes_eq q (section_name n.0 n.1))) (holds_again bases base n.0 held)

pub joined_next : (at : List ℕ → Option Section) (bases : List (List ℕ)) (base q text : List ℕ) (old new : Option (List ℕ)) → old ≡ joined_text at bases q
    → text ≡ joined (sections_of at base) → new ≡ cond (bytes_eq base q) (Some text) old → new ≡ joined_text at (bases ++ base ∷ []) q
joined_next at bases base q text old new before made step =
    filled_push (λ z. Some (joined (sections_of at z))) (λ _. None) bases base q old new before (step ∙ ap (λ t. cond (bytes_eq base q) (Some t) old) made)

pub joined_again : (at : List ℕ → Option Section) (bases : List (List ℕ)) (base q : List ℕ) (old : Option (List ℕ)) → old ≡ joined_text at bases q
    → holds_name bases base ≡ true → old ≡ joined_text at (bases ++ base ∷ []) q
joined_again at bases base q old before held = filled_again (λ z. Some (joined (sections_of at z))) (λ _. None) bases base q old before held

pub joined_known : (at : List ℕ → Option Section) (bases : List (List ℕ)) (base : List ℕ) (old : Option (List ℕ)) → old ≡ joined_text at bases base → is_some old ≡ holds_name bases base
joined_known at bases base old before = ap is_some before ∙ is_some_where (holds_name bases base) (joined (sections_of at base))
