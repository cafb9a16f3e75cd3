-- The charset source of a name, among the extended names in the order of their starred keys.
use Rattle.std.proofs.Common.{◌≡◌, ◌⊎◌, inl, inr, ℕ, zero, suc, ◌-◌, ◌<◌, Bool, true, false, cond, eqb, List, [], ◌∷◌, ◌++◌, length, take, map, Option, Some, None, refl, sym, ap, subst, ◌∙◌, arith, nat_eq, ⊎_elim, append_assoc}
use Rattle.std.proofs.Math.Seq.{take-append_seam}
use Rattle.std.proofs.lemmas.Bool.{and_from, and_parts, cases_order, cond-false, cond-true, eq-eqb, eqb-true, false_from_ne_true, false≢true}
use Rattle.std.proofs.lemmas.Bool.Decides.{Decides-eqb}
use Rattle.std.proofs.lemmas.Cmp.{nat_list_cmp_total}
use Rattle.std.proofs.lemmas.List.{length-append}
use Rattle.std.proofs.lemmas.Map.Lookups.{exact_bytes}
use Rattle.std.proofs.lemmas.Slice.Eq.{ends_is}
use Rattle.std.specs.Cmp.Lexicographic.{slice_cmp}
use Rattle.std.specs.List.{filter, starts_with}
use Rattle.std.specs.Option.{unwrap_or}
use Rattle.std.specs.Ordering.{is_lt, nat_cmp, ordering_reverse}
use Rattle.std.specs.declared.cmp.Ordering.{Ordering}
use Rattle.std.specs.declared.cmp.Ordering.TheVariants.{Less, Equal, Greater}
use Rattle.mailparse.specs.Pairs.{Texts}
use Rattle.mailparse.specs.ExtendedValues.{charset_source, is_extended, last_starred, later, name_under, candidates, starred, starred_prefixes}
use Rattle.mailparse.specs.private.CharsetSources.{AreInOrder, source_place, name_at, is_candidate_for}
use Rattle.mailparse.proofs.lemmas.CharsetSourcesRanges.{first_more, first_same}

-- ---- the members of a list

abbrev pub In : {A : Type 0} → A → List A → Type 0
In z [] = ⊥
In z (x ∷ xs) = (z ≡ x) ⊎ In z xs

pub none_in : {A : Type 0} (xs : List A) → ((w : A) → In w xs → ⊥) → xs ≡ []
none_in [] h = refl
none_in (x ∷ xs) h = absurd (h x (inl refl))

in_filter : {A : Type 0} (test : A → Bool) (z : A) (xs : List A) → In z (filter test xs) → In z xs × (test z ≡ true)
in_filter test z [] h = absurd h
in_filter {A = A} test z (x ∷ xs) h = go (test x) refl (λ i. in_filter test z xs i) h
  where
    go : (b : Bool) → test x ≡ b → (In z (filter test xs) → In z xs × (test z ≡ true)) → In z (cond b (x ∷ filter test xs) (filter test xs)) → In z (x ∷ xs) × (test z ≡ true)
    go true is ih i = ⊎_elim (λ same. (inl same, ap test same ∙ is)) (λ rest. let r = ih rest in (inr r.0, r.1)) i
    go false is ih i = let r = ih i in (inr r.0, r.1)

in_filter_from : {A : Type 0} (test : A → Bool) (z : A) (xs : List A) → In z xs → test z ≡ true → In z (filter test xs)
in_filter_from test z [] h t = absurd h
in_filter_from {A = A} test z (x ∷ xs) h t = go (test x) refl (λ i. in_filter_from test z xs i t) h
  where
    go : (b : Bool) → test x ≡ b → (In z xs → In z (filter test xs)) → In z (x ∷ xs) → In z (cond b (x ∷ filter test xs) (filter test xs))
    go true is ih i = ⊎_elim (λ same. inl same) (λ rest. inr (ih rest)) i
    go false is ih i = ⊎_elim (λ same. let clash : false ≡ true = sym is ∙ sym (ap test same) ∙ t in absurd (cc)) ih i

in_map : {A B : Type 0} (f : A → B) (z : B) (xs : List A) → In z (map f xs) → (x : A) × In x xs × (z ≡ f x)
in_map f z [] h = absurd h
in_map f z (x ∷ xs) h = ⊎_elim (λ same. (x, inl refl, same)) (λ rest. let r = in_map f z xs rest in (r.0, inr r.1, r.2)) h

in_map_from : {A B : Type 0} (f : A → B) (x : A) (xs : List A) → In x xs → In (f x) (map f xs)
in_map_from f x [] h = absurd h
in_map_from f x (y ∷ xs) h = ⊎_elim (λ same. inl (ap f same)) (λ rest. inr (in_map_from f x xs rest)) h

pub in_append : {A : Type 0} (z : A) (xs ys : List A) → In z (xs ++ ys) → In z xs ⊎ In z ys
in_append z [] ys h = inr h
in_append z (x ∷ xs) ys h = ⊎_elim (λ same. inl (inl same)) (λ rest. ⊎_elim (λ l. inl (inr l)) (λ r. inr r) (in_append z xs ys rest)) h

pub in_left : {A : Type 0} (z : A) (xs ys : List A) → In z xs → In z (xs ++ ys)
in_left z [] ys h = absurd h
in_left z (x ∷ xs) ys h = ⊎_elim (λ same. inl same) (λ rest. inr (in_left z xs ys rest)) h

pub in_right : {A : Type 0} (z : A) (xs ys : List A) → In z ys → In z (xs ++ ys)
in_right z [] ys h = h
in_right z (x ∷ xs) ys h = inr (in_right z xs ys h)

-- ---- the prefixes that end in a star

in_prefixes : (name p : List ℕ) → In p (starred_prefixes name) → (starts_with nat_eq name p ≡ true) × ((front : List ℕ) × (p ≡ front ++ 42 ∷ []))
in_prefixes [] p h = absurd h
in_prefixes (b ∷ name) p h = ⊎_elim (here (eqb b 42) refl) (there (λ q i. in_prefixes name q i)) (in_append p (cond (eqb b 42) ((b ∷ []) ∷ []) []) (map (λ prefix. b ∷ prefix) (starred_prefixes name)) h)
  where
    here : (t : Bool) → eqb b 42 ≡ t → In p (cond t ((b ∷ []) ∷ []) []) → (starts_with nat_eq (b ∷ name) p ≡ true) × ((front : List ℕ) × (p ≡ front ++ 42 ∷ []))
    here true is i =
        ⊎_elim
        (λ same. (
          ap (λ q. starts_with nat_eq (b ∷ name) q) same ∙ and_from _ _ (eq-eqb b b refl) refl,
          ([], same ∙ ap (λ x. x ∷ []) (eqb-true b 42 is)),
        ))
        (λ none. absurd none) i
    here false is i = absurd i

    there : ((q : List ℕ) → In q (starred_prefixes name) → (starts_with nat_eq name q ≡ true) × ((front : List ℕ) × (q ≡ front ++ 42 ∷ [])))
        → In p (map (λ prefix. b ∷ prefix) (starred_prefixes name)) → (starts_with nat_eq (b ∷ name) p ≡ true) × ((front : List ℕ) × (p ≡ front ++ 42 ∷ []))
    there ih i =
        let r = in_map (λ prefix. b ∷ prefix) p (starred_prefixes name) i in
        let rest = ih r.0 r.1 in (
          ap (λ q. starts_with nat_eq (b ∷ name) q) r.2 ∙ first_more b b r.0 name refl rest.0,
          (b ∷ rest.1.0, r.2 ∙ ap (λ q. b ∷ q) rest.1.1),
        )

prefix_in : (name front : List ℕ) → starts_with nat_eq name (front ++ 42 ∷ []) ≡ true → In (front ++ 42 ∷ []) (starred_prefixes name)
prefix_in [] [] h = absurd (cc)
prefix_in [] (a ∷ front) h = absurd (cc)
prefix_in (b ∷ name) [] h =
    let first = first_same 42 b [] name h in
    in_left (42 ∷ []) (cond (eqb b 42) ((b ∷ []) ∷ []) []) (map (λ prefix. b ∷ prefix) (starred_prefixes name))
    (subst (λ t. In (42 ∷ []) (cond t ((b ∷ []) ∷ []) [])) (sym (eq-eqb b 42 (sym first.0))) (inl (ap (λ x. x ∷ []) first.0)))
prefix_in (b ∷ name) (a ∷ front) h =
    let first = first_same a b (front ++ 42 ∷ []) name h in
    in_right (a ∷ (front ++ 42 ∷ [])) (cond (eqb b 42) ((b ∷ []) ∷ []) []) (map (λ prefix. b ∷ prefix) (starred_prefixes name))
    (subst (λ x. In (x ∷ (front ++ 42 ∷ [])) (map (λ prefix. b ∷ prefix) (starred_prefixes name))) (sym first.0)
    (in_map_from (λ prefix. b ∷ prefix) (front ++ 42 ∷ []) (starred_prefixes name) (prefix_in name front first.1)))

-- ---- the candidates of a name

less_last : (front : List ℕ) (b : ℕ) → take (length (front ++ b ∷ []) - 1) (front ++ b ∷ []) ≡ front
less_last front b =
    let long = length-append front (b ∷ []) in
    let n : length (front ++ b ∷ []) - 1 ≡ length front = omega arith in
    ap (λ k. take k (front ++ b ∷ [])) n ∙ take-append_seam front (b ∷ [])

pub name_under_starred : (name : List ℕ) → name_under (starred name) ≡ name
name_under_starred name = less_last name 42

pub candidate_from : (name front : List ℕ) → starts_with nat_eq name (front ++ 42 ∷ []) ≡ true → is_candidate_for ((front ++ 42 ∷ []) ++ 48 ∷ []) name ≡ true
candidate_from name front h =
    and_from _ _
    ((ends_is Decides-eqb ((front ++ 42 ∷ []) ++ 48 ∷ []) (42 ∷ 48 ∷ []) _ refl).1 front (append_assoc front (42 ∷ []) (48 ∷ [])))
    (ap (λ p. starts_with nat_eq name p) (less_last (front ++ 42 ∷ []) 48) ∙ h)

pub candidate_to : (z name : List ℕ) → is_candidate_for z name ≡ true → (front : List ℕ) × (z ≡ (front ++ 42 ∷ []) ++ 48 ∷ []) × (starts_with nat_eq name (front ++ 42 ∷ []) ≡ true)
candidate_to z name h =
    let tests = and_parts _ _ h in
    let front = take (length z - 2) z in
    let is : z ≡ (front ++ 42 ∷ []) ++ 48 ∷ [] = (ends_is Decides-eqb z (42 ∷ 48 ∷ []) _ refl).0 tests.0 ∙ sym (append_assoc front (42 ∷ []) (48 ∷ [])) in
    (front, is, ap (λ p. starts_with nat_eq name p) (sym (ap (λ x. take (length x - 1) x) is ∙ less_last (front ++ 42 ∷ []) 48)) ∙ tests.1)

pub in_candidates : (keys : Texts) (name z : List ℕ) → In z (candidates keys name) → (is_extended keys z ≡ true) × (is_candidate_for z name ≡ true)
in_candidates keys name z h =
    let f = in_filter (is_extended keys) z (map (λ prefix. prefix ++ 48 ∷ []) (starred_prefixes name)) h in
    let m = in_map (λ prefix. prefix ++ 48 ∷ []) z (starred_prefixes name) f.0 in
    let p = in_prefixes name m.0 m.1 in
    let starts = ap (λ q. starts_with nat_eq name q) (sym p.1.1) ∙ p.0 in
    (f.1, ap (λ x. is_candidate_for x name) (m.2 ∙ ap (λ q. q ++ 48 ∷ []) p.1.1) ∙ candidate_from name p.1.0 starts)

pub candidate_in : (keys : Texts) (name z : List ℕ) → is_extended keys z ≡ true → is_candidate_for z name ≡ true → In z (candidates keys name)
candidate_in keys name z extended candidate =
    let s = candidate_to z name candidate in
    in_filter_from (is_extended keys) z (map (λ prefix. prefix ++ 48 ∷ []) (starred_prefixes name))
    (subst (λ x. In x (map (λ prefix. prefix ++ 48 ∷ []) (starred_prefixes name))) (sym s.1)
    (in_map_from (λ prefix. prefix ++ 48 ∷ []) (s.0 ++ 42 ∷ []) (starred_prefixes name) (prefix_in name s.0 s.2)))
    extended

-- ---- the last in the order of the starred keys

abbrev pub is_before : List ℕ → List ℕ → Bool
is_before x y = is_lt (slice_cmp nat_cmp (starred x) (starred y))

neither : (o p : Ordering) → o ≡ ordering_reverse p → is_lt o ≡ false → is_lt p ≡ false → o ≡ Equal
neither Equal p e a b = refl
neither Less p e a b = absurd (cc)
neither Greater Less e a b = absurd (cc)
neither Greater Equal e a b = absurd (cc)
neither Greater Greater e a b = absurd (cc)

one_way : (o p : Ordering) → o ≡ ordering_reverse p → is_lt p ≡ true → is_lt o ≡ false
one_way o Less e h = ap is_lt e
one_way o Equal e h = absurd (cc)
one_way o Greater e h = absurd (cc)

same_place : (x z : List ℕ) → is_before x z ≡ false → is_before z x ≡ false → x ≡ z
same_place x z a b =
    let same = exact_bytes (starred x) (starred z) (neither _ _ (nat_list_cmp_total.antisymm (starred x) (starred z)) a b) in
    sym (name_under_starred x) ∙ ap name_under same ∙ name_under_starred z

pub not_back : (x z : List ℕ) → is_before x z ≡ true → is_before z x ≡ false
not_back x z h = one_way _ _ (nat_list_cmp_total.antisymm (starred z) (starred x)) h

pub not_itself : (x : List ℕ) → is_before x x ≡ false
not_itself x = false_from_ne_true _ (λ is. false≢true (sym (not_back x x is) ∙ is))

pub last_in : (xs : List (List ℕ)) (w : List ℕ) → last_starred xs ≡ Some w → In w xs
last_in [] w h = absurd (cc)
last_in (x ∷ xs) w h = go (last_starred xs) refl (λ v is. last_in xs v is) h
  where
    pick : (v : List ℕ) → In v xs → (b : Bool) → Some (cond b v x) ≡ Some w → In w (x ∷ xs)
    pick v i true e = let same : v ≡ w = cc in inr (subst (λ u. In u xs) same i)
    pick v i false e = let same : x ≡ w = cc in inl (sym same)

    go : (o : Option (List ℕ)) → last_starred xs ≡ o → ((v : List ℕ) → last_starred xs ≡ Some v → In v xs) → Some (later x o) ≡ Some w → In w (x ∷ xs)
    go None is ih e = let same : x ≡ w = cc in inl (sym same)
    go (Some v) is ih e = pick v (ih v is) (is_before x v) e

last_is : (xs : List (List ℕ)) (z : List ℕ) → In z xs → ((w : List ℕ) → In w xs → is_before z w ≡ false) → last_starred xs ≡ Some z
last_is [] z h least = absurd h
last_is (x ∷ xs) z h least = ⊎_elim first (λ i. rest i (last_is xs z i (λ w j. least w (inr j)))) h
  where
    first : z ≡ x → Some (later x (last_starred xs)) ≡ Some z
    first same = go (last_starred xs) refl
      where
        go : (o : Option (List ℕ)) → last_starred xs ≡ o → Some (later x o) ≡ Some z
        go None is = ap Some (sym same)
        go (Some v) is = ap Some (cond-false _ _ _ (ap (λ u. is_before u v) (sym same) ∙ least v (inr (last_in xs v is))) ∙ sym same)

    rest : In z xs → last_starred xs ≡ Some z → Some (later x (last_starred xs)) ≡ Some z
    rest i is_last = ap (λ o. Some (later x o)) is_last ∙ ap Some (go (is_before x z) refl)
      where
        go : (b : Bool) → is_before x z ≡ b → later x (Some z) ≡ z
        go true is = cond-true _ _ _ is
        go false is = cond-false _ _ _ is ∙ same_place x z is (least x (inl refl))

-- ---- the charset source, by its index

abbrev HasSourcePlace : List (List ℕ) → ℕ → ℕ → Type 0
HasSourcePlace names count k =
    ((j : ℕ) × (j < count) × (source_place names count k ≡ j) × (is_candidate_for (name_at names j) (name_at names k) ≡ true)
    × ((i : ℕ) → j < i → i < count → is_candidate_for (name_at names i) (name_at names k) ≡ false))
    ⊎ ((source_place names count k ≡ k) × ((i : ℕ) → i < count → is_candidate_for (name_at names i) (name_at names k) ≡ false))

source_place_cases : (names : List (List ℕ)) (count k : ℕ) → HasSourcePlace names count k
source_place_cases names zero k = inr (refl, λ i below. absurd (omega arith))
source_place_cases names (suc last) k = go (is_candidate_for (name_at names last) (name_at names k)) refl (source_place_cases names last k)
  where
    go : (b : Bool) → is_candidate_for (name_at names last) (name_at names k) ≡ b → HasSourcePlace names last k → HasSourcePlace names (suc last) k
    go true is ih = inl (last, omega arith, cond-true _ _ _ is, is, λ i above below. absurd (omega arith))
    go false is ih =
        ⊎_elim
        (λ f. inl (
          f.0,
          omega (arith, f.1),
          cond-false _ _ _ is ∙ f.2,
          f.3,
          λ i above below. ⊎_elim (λ same. ap (λ n. is_candidate_for (name_at names n) (name_at names k)) same ∙ is)
              (λ apart. ⊎_elim (λ lt. f.4 i above lt) (λ gt. absurd (omega arith)) apart) (cases_order i last),
        ))
        (λ f. inr (
          cond-false _ _ _ is ∙ f.0,
          λ i below. ⊎_elim (λ same. ap (λ n. is_candidate_for (name_at names n) (name_at names k)) same ∙ is)
              (λ apart. ⊎_elim (λ lt. f.1 i lt) (λ gt. absurd (omega arith)) apart) (cases_order i last),
        ))
        ih

pub source_place_within : (names : List (List ℕ)) (k : ℕ) → k < length names → source_place names (length names) k < length names
source_place_within names k below =
    ⊎_elim (λ f. omega (arith, f.1, f.2)) (λ f. omega (arith, f.0)) (source_place_cases names (length names) k)

pub charset_source_at : (keys : Texts) (names : List (List ℕ)) → AreInOrder names → ((i : ℕ) → i < length names → is_extended keys (name_at names i) ≡ true)
    → ((name : List ℕ) → is_extended keys name ≡ true → (i : ℕ) × (i < length names) × (name_at names i ≡ name)) → (k : ℕ) → k < length names
    → name_at names (source_place names (length names) k) ≡ charset_source keys (name_at names k)
charset_source_at keys names order sound complete k below = ⊎_elim some none (source_place_cases names (length names) k)
  where
    name : List ℕ
    name = name_at names k

    none : (source_place names (length names) k ≡ k) × ((i : ℕ) → i < length names → is_candidate_for (name_at names i) name ≡ false) → name_at names (source_place names (length names) k) ≡ charset_source keys name
    none h =
        let empty = none_in (candidates keys name) (λ w i.
        let s = in_candidates keys name w i in
        let at = complete w s.0 in
        let clash : false ≡ true = sym (h.1 at.0 at.1) ∙ ap (λ x. is_candidate_for x name) at.2 ∙ s.1 in absurd (cc)) in
        ap (name_at names) h.0 ∙ sym (ap (λ zs. unwrap_or (last_starred zs) name) empty)

    some : (j : ℕ) × (j < length names) × (source_place names (length names) k ≡ j) × (is_candidate_for (name_at names j) name ≡ true)
        × ((i : ℕ) → j < i → i < length names → is_candidate_for (name_at names i) name ≡ false) → name_at names (source_place names (length names) k) ≡ charset_source keys name
    some h =
        let z = name_at names h.0 in
        let last = last_is (candidates keys name) z (candidate_in keys name z (sound h.0 h.1) h.3) (λ w i.
        let s = in_candidates keys name w i in
        let at = complete w s.0 in
        let candidate = ap (λ x. is_candidate_for x name) at.2 ∙ s.1 in
        ap (is_before z) (sym at.2)
        ∙ ⊎_elim (λ same. ap (λ n. is_before z (name_at names n)) same ∙ not_itself z)
        (λ apart. ⊎_elim (λ lt. not_back (name_at names at.0) z (order at.0 h.0 lt h.1))
        (λ gt. let clash : false ≡ true = sym (h.4 at.0 gt at.1) ∙ candidate in absurd (cc)) apart)
        (cases_order at.0 h.0)) in
        ap (name_at names) h.2 ∙ sym (ap (λ o. unwrap_or o name) last)
