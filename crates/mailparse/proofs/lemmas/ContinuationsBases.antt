-- The bases, name by name, and the entries left beside them.
use Rattle.std.proofs.Common.{◌≡◌, ℕ, Bool, true, false, not, ◌&&◌, ◌||◌, ◌==◌, cond, ltb, List, [], ◌∷◌, ◌++◌, length, Option, Some, None, is_some, option_map, refl, sym, ap, ◌∙◌}
use Rattle.std.proofs.Math.Bool.{and-true, and_comm, and-or_distrib_left, or-true}
use Rattle.std.proofs.lemmas.Bool.{and_left, and_right, cond-false, false≢true, true_from_ne_false}
use Rattle.std.specs.List.{list_any}
use Rattle.std.specs.Option.{option_and_then, option_map_or, option_or, option_to_list}
use Rattle.std.specs.Str.{bytes_eq}
use Rattle.mailparse.specs.Sections as words
use Rattle.mailparse.specs.Continuations.{is_base, is_first_of, is_used, joined, joined_at, sections_of}
use Rattle.mailparse.specs.Sections.{Section, alone, is_text, numbered, section_name}
use Rattle.mailparse.specs.private.Continuations.{base_of_section_0, bases_of_sections_0, is_taken, joined_text, left_by}
use Rattle.mailparse.specs.private.Filled.{filled, holds_name}
use Rattle.mailparse.proofs.lemmas.Filled.{filled_again, filled_skip, mapped_unless}
use Rattle.mailparse.proofs.lemmas.ExtendedValues.{equal_bytes, same_bytes}

-- ---- the bases of names

abbrev hit : Option (List ℕ) → List ℕ → Bool
hit base q = option_map_or (λ b. bytes_eq b q) base false

hit_is : (at : List ℕ → Option Section) (q name : List ℕ) → (not (is_text (at q)) && is_first_of q name) ≡ hit (base_of_section_0 at name) q
hit_is at q name = go (numbered name)
  where
    unless : (n : List ℕ × ℕ) (t : Bool) → hit (cond t (Some n.0) None) q ≡ (t && bytes_eq n.0 q)
    unless n true = refl
    unless n false = refl

    pick : (n : List ℕ × ℕ) (b : Bool) → bytes_eq n.0 q ≡ b
        → (not (is_text (at q)) && (bytes_eq n.0 q && (n.1 == 0))) ≡ hit (cond ((n.1 == 0) && not (is_text (at n.0))) (Some n.0) None) q
    pick n false is = and_right _ _ (and_left _ _ is) ∙ sym (unless n ((n.1 == 0) && not (is_text (at n.0))) ∙ and_right _ _ is)
    pick n true is =
        ap (λ b. not (is_text (at q)) && (b && (n.1 == 0))) is
        ∙ and_comm (not (is_text (at q))) (n.1 == 0)
        ∙ ap (λ x. (n.1 == 0) && not (is_text (at x))) (sym (equal_bytes n.0 q is))
        ∙ sym (unless n ((n.1 == 0) && not (is_text (at n.0))) ∙ ap (λ b. ((n.1 == 0) && not (is_text (at n.0))) && b) is ∙ and-true _)

    go : (o : Option (List ℕ × ℕ)) → (not (is_text (at q)) && option_map_or (λ n. bytes_eq n.0 q && (n.1 == 0)) o false)
        ≡ hit (option_and_then (λ n. cond ((n.1 == 0) && not (is_text (at n.0))) (Some n.0) None) o) q
    go None = and_right _ _ refl
    go (Some n) = pick n (bytes_eq n.0 q) refl

-- the bases of names that have an entry
pub holds_first : (at : List ℕ → Option Section) (names : List (List ℕ)) (q : List ℕ) → ((z : List ℕ) → holds_name names z ≡ true → is_some (at z) ≡ true)
    → holds_name (bases_of_sections_0 at names) q ≡ is_base at names q
holds_first at [] q some = sym (and_right _ _ refl)
holds_first at (name ∷ names) q some =
    one (base_of_section_0 at name)
    ∙ ap (λ b. hit (base_of_section_0 at name) q || b) (holds_first at names q (λ z held. some z (ap (λ b. bytes_eq name z || b) held ∙ or-true (bytes_eq name z))))
    ∙ ap (λ b. b || is_base at names q) (sym (hit_is at q name))
    ∙ sym (and-or_distrib_left (not (is_text (at q))) (is_first_of q name) (list_any (λ n. is_some (at n) && is_first_of q n) names))
    ∙ ap (λ b. not (is_text (at q)) && ((b && is_first_of q name) || list_any (λ n. is_some (at n) && is_first_of q n) names))
    (sym (some name (ap (λ b. b || holds_name names name) (same_bytes name name refl))))
  where
    one : (o : Option (List ℕ)) → holds_name (option_to_list o ++ bases_of_sections_0 at names) q ≡ (hit o q || holds_name (bases_of_sections_0 at names) q)
    one None = refl
    one (Some b) = refl

-- ---- the entries that are left

-- the entries that were joined are those that were removed
pub taken_used : (at : List ℕ → Option Section) (names bases : List (List ℕ)) → ((z : List ℕ) → holds_name bases z ≡ is_base at names z) → (q : List ℕ)
    → is_taken at bases q ≡ is_used at names q
taken_used at names bases same q = go (numbered q)
  where
    go : (o : Option (List ℕ × ℕ)) → option_map_or (λ n. holds_name bases n.0 && (ltb n.1 (length (sections_of at n.0)) && bytes_eq q (section_name n.0 n.1))) o false
        ≡ option_map_or (λ n. is_base at names n.0 && (ltb n.1 (length (sections_of at n.0)) && bytes_eq q (section_name n.0 n.1))) o false
    go None = refl
    go (Some n) = ap (λ b. b && (ltb n.1 (length (sections_of at n.0)) && bytes_eq q (section_name n.0 n.1))) (same n.0)

-- the final texts: those of the other sections, those that were left, those of the bases
pub in_the_end : (at : List ℕ → Option Section) (names : List (List ℕ)) (q : List ℕ) (extended : Option Section) (text base given : Option (List ℕ))
    → ((z : List ℕ) → holds_name names z ≡ true → is_some (at z) ≡ true)
    → option_or extended (option_map words.text text) ≡ left_by at (bases_of_sections_0 at names) q → base ≡ joined_text at (bases_of_sections_0 at names) q
    → given ≡ option_or (option_map alone extended) (option_or text base) → given ≡ joined_at at names q
unfolding joined_at
in_the_end at names q extended text base given some left joined_is made =
    let bases : (z : List ℕ) → holds_name (bases_of_sections_0 at names) z ≡ is_base at names z = λ z. holds_first at names z some in
    made ∙ over extended text
    ∙ ap (λ o. option_or (option_map alone o) base) left
    ∙ ap (λ b. option_or (option_map alone (cond b None (at q))) base) (taken_used at names (bases_of_sections_0 at names) bases q)
    ∙ ap (λ o. option_or o base) (mapped_unless alone (is_used at names q) (at q))
    ∙ ap (option_or (cond (is_used at names q) None (option_map alone (at q)))) (joined_is ∙ ap (λ b. cond b (Some (joined (sections_of at q))) None) (bases q))
  where
    over : (e : Option Section) (t : Option (List ℕ)) → option_or (option_map alone e) (option_or t base) ≡ option_or (option_map alone (option_or e (option_map words.text t))) base
    over None None = refl
    over None (Some t) = refl
    over (Some e) t = refl

-- ---- texts that are set beside others

-- a base without a text
pub base_put : (t b : List ℕ → Option (List ℕ)) (names : List (List ℕ)) (name text : List ℕ) (old : Option (List ℕ))
    → old ≡ filled (λ z. option_or (t z) (b z)) t names name → is_some old ≡ false → b name ≡ Some text → option_or (t name) (b name) ≡ Some text
base_put t b names name text old before none is = go (t name) refl
  where
    both : (v : List ℕ) (h : Bool) → t name ≡ Some v → cond h (option_or (t name) (b name)) (t name) ≡ Some v
    both v true e = ap (λ o. option_or o (b name)) e
    both v false e = e

    go : (o : Option (List ℕ)) → t name ≡ o → option_or (t name) (b name) ≡ Some text
    go None e = ap (λ o. option_or o (b name)) e ∙ is
    go (Some v) e = let clash : false ≡ true = sym none ∙ ap is_some (before ∙ both v (holds_name names name) e) in absurd (cc)

-- one with a text
pub base_kept : (t b : List ℕ → Option (List ℕ)) (names : List (List ℕ)) (name q : List ℕ) (old here : Option (List ℕ))
    → old ≡ filled (λ z. option_or (t z) (b z)) t names q → here ≡ filled (λ z. option_or (t z) (b z)) t names name → is_some here ≡ true
    → old ≡ filled (λ z. option_or (t z) (b z)) t (names ++ name ∷ []) q
base_kept t b names name q old here before at_name some = go (t name) refl
  where
    go : (o : Option (List ℕ)) → t name ≡ o → old ≡ filled (λ z. option_or (t z) (b z)) t (names ++ name ∷ []) q
    go (Some v) e = filled_skip (λ z. option_or (t z) (b z)) t names name q old before (ap (λ o. option_or o (b name)) e ∙ sym e)
    go None e = filled_again (λ z. option_or (t z) (b z)) t names name q old before (true_from_ne_false _ (λ is. false≢true (sym (sym some ∙ ap is_some (at_name ∙ cond-false _ _ _ is ∙ e)))))
