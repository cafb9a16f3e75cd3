-- The candidates for a charset source, the greatest of them, and the names that have sections.
use Rattle.std.proofs.Common.{◌≡◌, ◌↔◌, ℕ, suc, Bool, true, false, not, cond, List, [], ◌∷◌, Contains, map, Option, Some, None, is_some, refl, sym, ap, subst, ◌∙◌, append_assoc, arith, ⊎_elim}
use Rattle.std.proofs.lemmas.Bool.{and_from, and_parts, not-true}
use Rattle.std.proofs.lemmas.Cmp.{nat_list_cmp_total}
use Rattle.std.specs.Cmp.Lexicographic.{slice_cmp}
use Rattle.std.specs.Option.{unwrap_or}
use Rattle.std.specs.Ordering.{is_lt, nat_cmp, ordering_reverse}
use Rattle.std.specs.Str.{bytes_eq}
use Rattle.std.specs.declared.cmp.Ordering.{Ordering}
use Rattle.std.specs.declared.cmp.Ordering.TheVariants.{Less, Equal, Greater}
use Rattle.mail_codec.specs.Charset.{Charsets}
use Rattle.mailparse.specs.Continuations.{possible_names}
use Rattle.mailparse.specs.ExtendedValues.{candidates, charset_source, is_extended, last_starred, later, section_at, starred}
use Rattle.mailparse.specs.Pairs.{Texts, last_of}
use Rattle.mailparse.specs.private.CharsetSources.{is_candidate_for}
use Rattle.mailparse.specs.private.Filled.{holds_name}
use Rattle.mailparse.proofs.lemmas.CharsetSources.{In, candidate_from, candidate_in, candidate_to, in_candidates, is_before, last_in, none_in, not_back, not_itself}
use Rattle.mailparse.proofs.lemmas.ExtendedValuesNames.{at_in, in_at}
use Rattle.mailparse.proofs.lemmas.ExtendedValues.{equal_bytes}
use Rattle.mailparse.proofs.lemmas.ContinuationsResolved.{or_either, section_named}
use Rattle.mail_laws.specs.CharsetSources.{IsCandidate}

-- ---- the form of a candidate

form : (keys : Texts) (name z : List ℕ) → is_extended keys z ≡ true → is_candidate_for z name ≡ true → IsCandidate keys name z
form keys name z extended candidate =
    let c = candidate_to z name candidate in
    let tests = and_parts _ _ extended in
    record { front = c.0; initial = c.1 ∙ append_assoc c.0 (42 ∷ []) (48 ∷ []); begins = c.2; starred_key = tests.0; no_key = not-true _ tests.1 }

member : (keys : Texts) (name z : List ℕ) → IsCandidate keys name z → In z (candidates keys name)
member keys name z h =
    candidate_in keys name z (and_from _ _ h.starred_key (ap not h.no_key))
    (ap (λ x. is_candidate_for x name) (h.initial ∙ sym (append_assoc h.front (42 ∷ []) (48 ∷ []))) ∙ candidate_from name h.front h.begins)

formed : (keys : Texts) (name z : List ℕ) → In z (candidates keys name) → IsCandidate keys name z
formed keys name z i = let c = in_candidates keys name z i in form keys name z c.0 c.1

pub candidates_formed : (keys : Texts) (name z : List ℕ) → Contains (candidates keys name) z ↔ IsCandidate keys name z
candidates_formed keys name z = (
  λ c. formed keys name z (subst (λ x. In x (candidates keys name)) c.2 (at_in z (candidates keys name) c.0 c.1)),
  λ h. in_at z z (candidates keys name) (member keys name z h),
)

-- ---- the greatest

abbrev order_of : List ℕ → List ℕ → Ordering
order_of x y = slice_cmp nat_cmp (starred x) (starred y)

is_less : (o : Ordering) → is_lt o ≡ true → o ≡ Less
is_less Less h = refl
is_less Equal h = absurd (cc)
is_less Greater h = absurd (cc)

not_through : (x v z : List ℕ) → is_before x v ≡ false → is_before v z ≡ false → is_before x z ≡ false
not_through x v z xv vz = go (is_before x z) refl
  where
    less : order_of x z ≡ Less → (o : Ordering) → order_of x v ≡ o → ⊥
    less xz Less e = let clash : true ≡ false = sym (ap is_lt e) ∙ xv in cc
    less xz Equal e =
        let along : order_of v z ≡ Less = sym (nat_list_cmp_total.congr (starred x) (starred v) (starred z) e) ∙ xz in
        let clash : true ≡ false = sym (ap is_lt along) ∙ vz in
        cc
    less xz Greater e =
        let back : order_of v x ≡ Less = nat_list_cmp_total.antisymm (starred v) (starred x) ∙ ap ordering_reverse e in
        let along : order_of v z ≡ Less = nat_list_cmp_total.trans (starred v) (starred x) (starred z) back xz in
        let clash : true ≡ false = sym (ap is_lt along) ∙ vz in
        cc

    go : (b : Bool) → is_before x z ≡ b → is_before x z ≡ false
    go false e = e
    go true e = absurd (less (is_less _ e) (order_of x v) refl)

-- no name is after the last
none_after : (xs : List (List ℕ)) (w z : List ℕ) → last_starred xs ≡ Some w → In z xs → is_before w z ≡ false
none_after [] w z h i = absurd i
none_after (x ∷ xs) w z h i = go (last_starred xs) refl (λ v is j. none_after xs v z is j) h i
  where
    empty : (ys : List (List ℕ)) → last_starred ys ≡ None → In z ys → ⊥
    empty [] e j = j
    empty (y ∷ ys) e j = let clash : Some (later y (last_starred ys)) ≡ None = e in cc

    pick : (v : List ℕ) → last_starred xs ≡ Some v → (In z xs → is_before v z ≡ false) → (b : Bool) → is_before x v ≡ b → Some (cond b v x) ≡ Some w
        → In z (x ∷ xs) → is_before w z ≡ false
    pick v is ih true t e i =
        let same : v ≡ w = cc in
        ap (λ u. is_before u z) (sym same)
        ∙ ⊎_elim (λ here. ap (is_before v) here ∙ not_back x v t) (λ rest. ih rest) i
    pick v is ih false t e i =
        let same : x ≡ w = cc in
        ap (λ u. is_before u z) (sym same)
        ∙ ⊎_elim (λ here. ap (is_before x) here ∙ not_itself x) (λ rest. not_through x v z t (ih rest)) i

    go : (o : Option (List ℕ)) → last_starred xs ≡ o → ((v : List ℕ) → last_starred xs ≡ Some v → In z xs → is_before v z ≡ false)
        → Some (later x o) ≡ Some w → In z (x ∷ xs) → is_before w z ≡ false
    go None is ih e i =
        let same : x ≡ w = cc in
        ap (λ u. is_before u z) (sym same)
        ∙ ⊎_elim (λ here. ap (is_before x) here ∙ not_itself x) (λ rest. absurd (empty xs is rest)) i
    go (Some v) is ih e i = pick v is (ih v is) (is_before x v) refl e i

some_last : (xs : List (List ℕ)) (z : List ℕ) → In z xs → (w : List ℕ) × (last_starred xs ≡ Some w)
some_last [] z i = absurd i
some_last (x ∷ xs) z i = (later x (last_starred xs), refl)

pub greatest : (keys : Texts) (name z : List ℕ) → IsCandidate keys name z
    → IsCandidate keys name (charset_source keys name) × (is_lt (slice_cmp nat_cmp (starred (charset_source keys name)) (starred z)) ≡ false)
greatest keys name z h =
    let all = candidates keys name in
    let last = some_last all z (member keys name z h) in
    let source : charset_source keys name ≡ last.0 = ap (λ o. unwrap_or o name) last.1 in (
      subst (IsCandidate keys name) (sym source) (formed keys name last.0 (last_in all last.0 last.1)),
      ap (λ w. is_before w z) source ∙ none_after all last.0 z last.1 (member keys name z h),
    )

pub own : (keys : Texts) (name : List ℕ) → ((z : List ℕ) → IsCandidate keys name z → ⊥) → charset_source keys name ≡ name
own keys name none =
    let empty = none_in (candidates keys name) (λ w i. none w (formed keys name w i)) in
    ap (λ zs. unwrap_or (last_starred zs) name) empty

-- ---- the names that have sections

contained : (names : List (List ℕ)) (q : List ℕ) → holds_name names q ≡ true → Contains names q
contained [] q h = absurd (cc)
contained (n ∷ names) q h =
    ⊎_elim (λ here. (0, omega arith, equal_bytes n q here)) (λ rest. let r = contained names q rest in (suc r.0, omega (arith, r.1), r.2))
    (or_either (bytes_eq n q) (holds_name names q) h)

pub looked_at : (known : Charsets) (pairs : List (List ℕ × List ℕ)) (name : List ℕ) → is_some (section_at known (last_of pairs) name) ≡ true
    → Contains (possible_names (map (λ pair. pair.0) pairs)) name
looked_at known pairs name h = contained (possible_names (map (λ pair. pair.0) pairs)) name (section_named known pairs name h)
