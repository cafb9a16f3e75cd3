-- The names that have one name as a candidate are a range.
use Rattle.std.proofs.Common.{◌≡◌, ℕ, zero, suc, ◌-◌, ◌+◌, ◌<◌, ◌≤◌, Bool, true, false, ◌&&◌, cond, eqb, List, [], ◌∷◌, ◌++◌, length, get_or, take, refl, sym, ap, subst, ◌∙◌, arith, nat_eq, ◌⊎◌, inl, inr, ⊎_elim}
use Rattle.std.proofs.Math.ListN.{get_or-map}
use Rattle.std.proofs.lemmas.Bool.{false_from_ne_true, and_from, and_left, and_parts, and_right, both_ways, cases_lt, cases_order, cond-false, cond-true, eq-eqb, eqb-true, le-ltb, ne_eqb}
use Rattle.std.proofs.lemmas.List.{get_or_default, length-map, length-take-le}
use Rattle.std.specs.Cmp.Lexicographic.{slice_cmp}
use Rattle.std.specs.List.{starts_with}
use Rattle.std.specs.Ordering.{is_lt, nat_cmp, ordering_then}
use Rattle.std.specs.declared.cmp.Ordering.TheVariants.{Equal, Greater}
use Rattle.mailparse.specs.ExtendedValues.{starred}
use Rattle.mailparse.specs.private.ExtendedValues.{names_of}
use Rattle.mailparse.specs.private.CharsetSources.{AreInOrder, is_initial_section, name_at, shared_len, shared_lens, is_candidate_for}
use Rattle.mailparse.specs.declared.parameters.extended_values.names.ExtendedName.{ExtendedName}

pub name_of_place : {C : Type 0} (extended : List (ExtendedName C)) (place : ℕ) (d : ExtendedName C) → place < length extended
    → (get_or extended place d).name.now ≡ name_at (names_of extended) place
name_of_place {C} extended place d below =
    let long = length-map extended (λ (w : ExtendedName C). w.name.now) in
    sym (get_or-map (λ (w : ExtendedName C). w.name.now) extended place d) ∙ get_or_default (names_of extended) place d.name.now [] (omega (arith, below, long))

-- ---- names between two that begin alike begin so too, in the order of their starred keys

cmp_equal : (a b : ℕ) → a ≡ b → nat_cmp a b ≡ Equal
cmp_equal a b e = cond-false _ _ _ (le-ltb a b (omega arith)) ∙ cond-true _ _ _ (eq-eqb a b e)

cmp_greater : (a b : ℕ) → b < a → nat_cmp a b ≡ Greater
cmp_greater a b h = cond-false _ _ _ (le-ltb a b (omega arith)) ∙ cond-false _ _ _ (ne_eqb a b (λ e. absurd (omega arith)))

-- a list is below another by its first element, or by the others
below_cases : (a b : ℕ) (xs ys : List ℕ) → is_lt (slice_cmp nat_cmp (a ∷ xs) (b ∷ ys)) ≡ true → (a < b) ⊎ ((a ≡ b) × (is_lt (slice_cmp nat_cmp xs ys) ≡ true))
below_cases a b xs ys h =
    ⊎_elim (λ same. inr (same, sym (ap (λ o. is_lt (ordering_then o (slice_cmp nat_cmp xs ys))) (cmp_equal a b same)) ∙ h))
    (λ apart. ⊎_elim (λ lt. inl lt) (λ gt. let no : false ≡ true = sym (ap (λ o. is_lt (ordering_then o (slice_cmp nat_cmp xs ys))) (cmp_greater a b gt)) ∙ h in absurd (cc)) apart)
    (cases_order a b)

pub first_same : (p b : ℕ) (prefix xs : List ℕ) → starts_with nat_eq (b ∷ xs) (p ∷ prefix) ≡ true → (p ≡ b) × (starts_with nat_eq xs prefix ≡ true)
first_same p b prefix xs h = let tests = and_parts _ _ h in (eqb-true p b tests.0, tests.1)

pub first_more : (p b : ℕ) (prefix xs : List ℕ) → p ≡ b → starts_with nat_eq xs prefix ≡ true → starts_with nat_eq (b ∷ xs) (p ∷ prefix) ≡ true
first_more p b prefix xs e h = and_from _ _ (eq-eqb p b e) h

pub between : (prefix x y z : List ℕ) → is_lt (slice_cmp nat_cmp (starred x) (starred y)) ≡ true → is_lt (slice_cmp nat_cmp (starred y) (starred z)) ≡ true
    → starts_with nat_eq x prefix ≡ true → starts_with nat_eq z prefix ≡ true → starts_with nat_eq y prefix ≡ true
between [] x y z xy yz bx bz = refl
between (p ∷ prefix) [] y z xy yz bx bz = absurd (cc)
between (p ∷ prefix) (a ∷ x) y [] xy yz bx bz = absurd (cc)
between (p ∷ prefix) (a ∷ x) [] (c ∷ z) xy yz bx bz =
    let px = first_same p a prefix x bx in
    let pz = first_same p c prefix z bz in
    ⊎_elim
    (λ lt. ⊎_elim (λ more. absurd (omega (arith, px.0, pz.0))) (λ same. absurd (omega (arith, px.0, pz.0, same.0))) (below_cases 42 c [] (z ++ 42 ∷ []) yz))
    (λ same. absurd (none_below (x ++ 42 ∷ []) same.1))
    (below_cases a 42 (x ++ 42 ∷ []) [] xy)
  where
    none_below : (xs : List ℕ) → is_lt (slice_cmp nat_cmp xs []) ≡ true → ⊥
    none_below [] h = cc
    none_below (b ∷ xs) h = cc
between (p ∷ prefix) (a ∷ x) (b ∷ y) (c ∷ z) xy yz bx bz =
    let px = first_same p a prefix x bx in
    let pz = first_same p c prefix z bz in
    ⊎_elim
    (λ lt. ⊎_elim (λ more. absurd (omega (arith, px.0, pz.0))) (λ same. absurd (omega (arith, px.0, pz.0, same.0))) (below_cases b c (y ++ 42 ∷ []) (z ++ 42 ∷ []) yz))
    (λ same.
    ⊎_elim (λ more. absurd (omega (arith, px.0, pz.0, same.0)))
    (λ like. first_more p b prefix y (px.0 ∙ same.0) (between prefix x y z same.1 like.1 px.1 pz.1))
    (below_cases b c (y ++ 42 ∷ []) (z ++ 42 ∷ []) yz))
    (below_cases a b (x ++ 42 ∷ []) (y ++ 42 ∷ []) xy)

-- ---- the names that have one name as a candidate are adjacent

own_beginning : (n : ℕ) (z : List ℕ) → starts_with nat_eq z (take n z) ≡ true
own_beginning zero z = refl
own_beginning (suc n) [] = refl
own_beginning (suc n) (b ∷ z) = and_from _ _ (eq-eqb b b refl) (own_beginning n z)

-- what was found round the place of a name: the range of the places whose names begin with the prefix
pub record IsRange (names : List (List ℕ)) (prefix : List ℕ) (place first end : ℕ) : Type 0 where
  pub until : first ≤ place
  pub from : place < end
  pub inside : (k : ℕ) → first ≤ k → k < end → starts_with nat_eq (name_at names k) prefix ≡ true
  pub before : 0 < first → starts_with nat_eq (name_at names (first - 1)) prefix ≡ false
  pub after : end < length names → starts_with nat_eq (name_at names end) prefix ≡ false

range_before : (names : List (List ℕ)) (prefix : List ℕ) (place first end : ℕ) → AreInOrder names → place < length names → IsRange names prefix place first end
    → (k : ℕ) → k < first → starts_with nat_eq (name_at names k) prefix ≡ false
range_before names prefix place first end order within r k below =
    let until = r.until in
    false_from_ne_true _ (λ begins.
    ⊎_elim
    (λ lt. both_ways _ (r.before (omega arith))
    (between prefix (name_at names k) (name_at names (first - 1)) (name_at names place) (order k (first - 1) lt (omega arith)) (order (first - 1) place (omega arith) within) begins (r.inside place until r.from)))
    (λ ge. let same : k ≡ first - 1 = omega arith in
    both_ways _ (r.before (omega arith)) (sym (ap (λ j. starts_with nat_eq (name_at names j) prefix) same) ∙ begins))
    (cases_lt k (first - 1)))

range_after : (names : List (List ℕ)) (prefix : List ℕ) (place first end : ℕ) → AreInOrder names → IsRange names prefix place first end
    → (k : ℕ) → end ≤ k → k < length names → starts_with nat_eq (name_at names k) prefix ≡ false
range_after names prefix place first end order r k above within =
    let from = r.from in
    false_from_ne_true _ (λ begins.
    ⊎_elim
    (λ lt. both_ways _ (r.after (omega arith))
    (between prefix (name_at names place) (name_at names end) (name_at names k) (order place end from (omega arith)) (order end k lt within) (r.inside place r.until from) begins))
    (λ ge. let same : k ≡ end = omega arith in
    both_ways _ (r.after (omega arith)) (sym (ap (λ j. starts_with nat_eq (name_at names j) prefix) same) ∙ begins))
    (cases_lt end k))

-- the places after the one of an initial section was written over its range
pub offered : (names : List (List ℕ)) (place first end : ℕ) → AreInOrder names → place < length names → is_initial_section (name_at names place) ≡ true
    → IsRange names (take (length (name_at names place) - 1) (name_at names place)) place first end
    → (old new : List ℕ) → ((k : ℕ) → k < first → get_or new k 0 ≡ get_or old k 0) → ((k : ℕ) → first ≤ k → k < end → get_or new k 0 ≡ place)
    → ((k : ℕ) → end ≤ k → get_or new k 0 ≡ get_or old k 0)
    → (k : ℕ) → k < length names → get_or new k 0 ≡ cond (is_candidate_for (name_at names place) (name_at names k)) place (get_or old k 0)
offered names place first end order within initial r old new before inside after k below =
    let prefix = take (length (name_at names place) - 1) (name_at names place) in
    ⊎_elim
    (λ lt. before k lt ∙ sym (cond-false _ _ _ (and_right _ _ (range_before names prefix place first end order within r k lt))))
    (λ ge.
    ⊎_elim
    (λ lt. inside k ge lt ∙ sym (cond-true _ _ _ (and_from _ _ initial (r.inside k ge lt))))
    (λ past. after k past ∙ sym (cond-false _ _ _ (and_right _ _ (range_after names prefix place first end order r k past below))))
    (cases_lt k end))
    (cases_lt k first)

-- the places after a name that may not
pub not_offered : (names : List (List ℕ)) (place : ℕ) → is_initial_section (name_at names place) ≡ false → (old : ℕ) (k : ℕ)
    → old ≡ cond (is_candidate_for (name_at names place) (name_at names k)) place old
not_offered names place other old k = sym (cond-false _ _ _ (and_left _ _ other))

pub long_names : {C : Type 0} (extended : List (ExtendedName C)) → length (names_of extended) ≡ length extended
long_names {C} extended = length-map extended (λ (w : ExtendedName C). w.name.now)

-- ---- how many bytes names share

-- names that share as many bytes as a prefix has begin with it both or neither
begin_alike : (prefix a b : List ℕ) → length prefix ≤ shared_len a b → starts_with nat_eq a prefix ≡ starts_with nat_eq b prefix
begin_alike [] a b long = refl
begin_alike (p ∷ prefix) [] b long = absurd (omega arith)
begin_alike (p ∷ prefix) (x ∷ a) [] long = absurd (omega arith)
begin_alike (p ∷ prefix) (x ∷ a) (y ∷ b) long = go (eqb x y) refl (λ more. begin_alike prefix a b more) long
  where
    go : (t : Bool) → eqb x y ≡ t → (length prefix ≤ shared_len a b → starts_with nat_eq a prefix ≡ starts_with nat_eq b prefix)
        → suc (length prefix) ≤ cond t (1 + shared_len a b) 0 → starts_with nat_eq (x ∷ a) (p ∷ prefix) ≡ starts_with nat_eq (y ∷ b) (p ∷ prefix)
    go true is rest more = ap (λ z. starts_with nat_eq (z ∷ a) (p ∷ prefix)) (eqb-true x y is) ∙ ap (λ t. nat_eq p y && t) (rest (omega (arith, more)))
    go false is rest more = absurd (omega (arith, more))

-- names that both begin with a prefix share as many bytes
share_prefix : (prefix a b : List ℕ) → starts_with nat_eq a prefix ≡ true → starts_with nat_eq b prefix ≡ true → length prefix ≤ shared_len a b
share_prefix [] a b ba bb = omega arith
share_prefix (p ∷ prefix) [] b ba bb = absurd (cc)
share_prefix (p ∷ prefix) (x ∷ a) [] ba bb = absurd (cc)
share_prefix (p ∷ prefix) (x ∷ a) (y ∷ b) ba bb =
    let fa = first_same p x prefix a ba in
    let fb = first_same p y prefix b bb in
    let rest = share_prefix prefix a b fa.1 fb.1 in
    subst (λ t. suc (length prefix) ≤ cond t (1 + shared_len a b) 0) (sym (eq-eqb x y (sym fa.0 ∙ fb.0))) (omega (arith, rest))

pub long_shared : {C : Type 0} (extended : List (ExtendedName C)) → length (shared_lens extended) ≡ length extended - 1
long_shared [] = refl
long_shared (w ∷ []) = refl
long_shared (w ∷ v ∷ extended) = let rest = long_shared (v ∷ extended) in omega (arith, rest)

pub within_shared : {C : Type 0} (extended : List (ExtendedName C)) (shared : List ℕ) (place : ℕ) → shared ≡ shared_lens extended → place < length extended → place ≤ length shared
within_shared extended shared place are within = let same = ap length are in let long = long_shared extended in omega (arith, same, long, within)

shared_at : {C : Type 0} (extended : List (ExtendedName C)) (k : ℕ) → suc k < length extended
    → get_or (shared_lens extended) k 0 ≡ shared_len (name_at (names_of extended) k) (name_at (names_of extended) (suc k))
shared_at [] k below = absurd (omega arith)
shared_at (w ∷ []) k below = absurd (omega arith)
shared_at (w ∷ v ∷ extended) zero below = refl
shared_at (w ∷ v ∷ extended) (suc k) below = shared_at (v ∷ extended) k (omega arith)

-- the range that the shared lengths show round the place of a name
module _ (C : Type 0) (extended : List (ExtendedName C)) (prefix : List ℕ) (place first last : ℕ) (within : place < length extended) (end : last ≤ length extended - 1)
    (own : starts_with nat_eq (name_at (names_of extended) place) prefix ≡ true) where
  abbrev begins : ℕ → Bool
  begins k = starts_with nat_eq (name_at (names_of extended) k) prefix

  abbrev Shared : ℕ → Type 0
  Shared k = length prefix ≤ get_or (shared_lens extended) k 0

  alike : (k : ℕ) → suc k < length extended → Shared k → begins k ≡ begins (suc k)
  alike k below shared =
      let at = shared_at extended k below in
      begin_alike prefix (name_at (names_of extended) k) (name_at (names_of extended) (suc k)) (omega (arith, at, shared))

  not_both : (k : ℕ) → suc k < length extended → get_or (shared_lens extended) k 0 < length prefix → begins k ≡ true → begins (suc k) ≡ true → ⊥
  not_both k below few one next =
      let at = shared_at extended k below in
      let shared = share_prefix prefix (name_at (names_of extended) k) (name_at (names_of extended) (suc k)) one next in
      omega (arith, at, few, shared)

  back : ((k : ℕ) → first ≤ k → k < place → Shared k) → (n k : ℕ) → n + k ≡ place → first ≤ k → begins k ≡ true
  back shared zero k is from = let same : k ≡ place = omega (arith, is) in ap begins same ∙ own
  back shared (suc n) k is from = alike k (omega (arith, is, within)) (shared k from (omega (arith, is))) ∙ back shared n (suc k) (omega (arith, is)) (omega (arith, from))

  forth : ((k : ℕ) → place ≤ k → k < last → Shared k) → (n k : ℕ) → k ≡ n + place → k ≤ last → begins k ≡ true
  forth shared zero k is until = let same : k ≡ place = omega (arith, is) in ap begins same ∙ own
  forth shared (suc n) k is until =
      let one : k ≡ suc (n + place) = omega (arith, is) in
      ap begins one
      ∙ sym (alike (n + place) (omega (arith, is, until, end, within)) (shared (n + place) (omega arith) (omega (arith, is, until))))
      ∙ forth shared n (n + place) refl (omega (arith, is, until))

  range_shared : first ≤ place → place ≤ last → ((k : ℕ) → first ≤ k → k < place → Shared k) → ((k : ℕ) → place ≤ k → k < last → Shared k)
      → (0 < first → get_or (shared_lens extended) (first - 1) 0 < length prefix) → (last < length extended - 1 → get_or (shared_lens extended) last 0 < length prefix)
      → IsRange (names_of extended) prefix place first (last + 1)
  range_shared until from lower upper before after =
      let long = long_names extended in
      let down : (k : ℕ) → first ≤ k → k ≤ place → begins k ≡ true = λ k above below. back lower (place - k) k (omega (arith, below)) above in
      let up : (k : ℕ) → place ≤ k → k ≤ last → begins k ≡ true = λ k above below. forth upper (k - place) k (omega (arith, above)) below in
      record {
        until = until;
        from = omega (arith, from);
        inside = λ k above below. ⊎_elim (λ lt. down k above (omega arith)) (λ ge. up k ge (omega arith)) (cases_lt k place);
        before = λ some. false_from_ne_true _ (λ yes.
            let same : suc (first - 1) ≡ first = omega (arith, some) in
            not_both (first - 1) (omega (arith, some, until, within)) (before some) yes (ap begins same ∙ down first (omega arith) until));
        after = λ more. false_from_ne_true _ (λ yes.
            let next : suc last ≡ last + 1 = omega arith in
            not_both last (omega (arith, more, long)) (after (omega (arith, more, long))) (up last from (omega arith)) (ap begins next ∙ yes));
      }

pub range_found : {C : Type 0} (extended : List (ExtendedName C)) (shared : List ℕ) → shared ≡ shared_lens extended → (name : List ℕ) (place first last : ℕ) → name ≡ name_at (names_of extended) place → place < length extended
    → first ≤ place → place ≤ last → last ≤ length shared
    → ((k : ℕ) → first ≤ k → k < place → length name - 1 ≤ get_or shared k 0) → ((k : ℕ) → place ≤ k → k < last → length name - 1 ≤ get_or shared k 0)
    → (0 < first → get_or shared (first - 1) 0 < length name - 1) → (last < length shared → get_or shared last 0 < length name - 1)
    → IsRange (names_of extended) (take (length (name_at (names_of extended) place) - 1) (name_at (names_of extended) place)) place first (last + 1)
range_found {C} extended shared are name place first last is within until from end lower upper before after =
    let long = long_shared extended in
    let same = ap length are in
    let prefix : length (take (length name - 1) name) ≡ length name - 1 = length-take-le (length name - 1) name (omega arith) in
    let at : (k : ℕ) → get_or shared k 0 ≡ get_or (shared_lens extended) k 0 = λ k. ap (λ xs. get_or xs k 0) are in
    let own : starts_with nat_eq (name_at (names_of extended) place) (take (length name - 1) name) ≡ true = ap (λ z. starts_with nat_eq z (take (length name - 1) name)) (sym is) ∙ own_beginning (length name - 1) name in
    subst (λ z. IsRange (names_of extended) (take (length z - 1) z) place first (last + 1)) is
    (range_shared C extended (take (length name - 1) name) place first last within (omega (arith, end, same, long)) own until from
    (λ k above below. omega (arith, lower k above below, prefix, at k))
    (λ k above below. omega (arith, upper k above below, prefix, at k))
    (λ some. omega (arith, before some, prefix, at (first - 1)))
    (λ more. omega (arith, after (omega (arith, more, same, long)), prefix, at last)))

-- an offer, up to its range
pub ruleset offers = (long_shared, name_of_place, not_offered, within_shared)
