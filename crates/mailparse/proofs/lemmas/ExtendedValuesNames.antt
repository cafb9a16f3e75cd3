-- The extended names: which they are, and that they are in order.
use Rattle.std.proofs.Common.{◌≡◌, ◌⊎◌, inl, inr, ℕ, zero, suc, ◌<◌, Bool, true, false, not, ◌&&◌, cond, List, [], ◌∷◌, ◌++◌, length, get_or, map, Option, Some, None, is_some, option_map, String, string_bytes, BTreeMap, refl, sym, ap, subst, ◌∙◌, arith, ⊎_elim}
use Rattle.std.proofs.lemmas.Bool.{and_from, and_parts, cond-false, cond-true, not-true}
use Rattle.std.proofs.lemmas.List.{length-map}
use Rattle.std.proofs.lemmas.Map.Keys.{Less-from_sorted}
use Rattle.std.proofs.Math.ListN.{get_or-map}
use Rattle.std.proofs.lemmas.List.Elements.{All-head, All-tail}
use Rattle.std.proofs.lemmas.Map.Text.{is_eq-slice_cmp}
use Rattle.std.proofs.lemmas.Map.Views.{All-found}
use Rattle.std.specs.BTreeMap.{IsOrdered, get, get_by_text}
use Rattle.std.specs.Cmp.Lexicographic.{slice_cmp}
use Rattle.std.specs.Global.{Global}
use Rattle.std.specs.List.{All, AllByRecursion}
use Rattle.std.specs.List.Sorted.{IsStrictlySortedBy}
use Rattle.std.specs.Map.{lookup}
use Rattle.std.specs.Ordering.{is_eq, is_lt, nat_cmp}
use Rattle.std.specs.String.{string_cmp, string_cmp_total}
use Rattle.std.specs.declared.cmp.Ordering.{Ordering}
use Rattle.std.specs.declared.cmp.Ordering.TheVariants.{Less}
use Rattle.mail_codec.specs.Charset.{Charsets}
use Rattle.mailparse.specs.Pairs.{Texts, text_at}
use Rattle.mailparse.specs.ExtendedValues.{is_starred, is_extended, label_in, name_under, starred}
use Rattle.mailparse.specs.private.ExtendedValues.{Found, found_at, extended_entries}
use Rattle.mailparse.specs.private.Pairs.{pair_view}
use Rattle.mailparse.specs.private.CharsetSources.{AreInOrder, name_at}
use Rattle.mailparse.proofs.lemmas.CharsetSources.{In, in_append, in_left, in_right, name_under_starred}
use Rattle.mailparse.proofs.lemmas.ExtendedValues.{equal_bytes, same_bytes}

-- ---- the entries of a map

-- the keys are in order, and the value of each name in the map is that of its entry
pub record IsMapOf (keys : Texts) (entries : List (List ℕ × List ℕ)) : Type 0 where
  pub holds : (e : List ℕ × List ℕ) → In e entries → keys e.0 ≡ Some e.1
  pub finds : (name value : List ℕ) → keys name ≡ Some value → In (name, value) entries
  pub sorted : IsStrictlySortedBy (slice_cmp nat_cmp) (map (λ e. e.0) entries)

-- the order of their starred keys
abbrev by_star : List ℕ → List ℕ → Ordering
by_star x y = slice_cmp nat_cmp (starred x) (starred y)

-- ---- what a walk over them finds

-- Under the charsets that are known.
module _ (known : Charsets) where
  found_cases : (keys : Texts) (e : List ℕ × List ℕ) → (found_at known keys e ≡ [])
      ⊎ ((starred (name_under e.0) ≡ e.0) × (is_some (keys (name_under e.0)) ≡ false) × (found_at known keys e ≡ (name_under e.0, e.1, known (label_in e.1)) ∷ []))
  found_cases keys e = go (is_starred e.0 && not (is_some (keys (name_under e.0)))) refl
    where
      go : (b : Bool) → (is_starred e.0 && not (is_some (keys (name_under e.0)))) ≡ b → (found_at known keys e ≡ [])
          ⊎ ((starred (name_under e.0) ≡ e.0) × (is_some (keys (name_under e.0)) ≡ false) × (found_at known keys e ≡ (name_under e.0, e.1, known (label_in e.1)) ∷ []))
      go false is = inl (cond-false _ _ _ is)
      go true is = let tests = and_parts _ _ is in inr (sym (equal_bytes _ _ tests.0), not-true _ tests.1, cond-true _ _ _ is)

  -- a name that was found
  pub record IsFound (keys : Texts) (entries : List (List ℕ × List ℕ)) (w : Found) : Type 0 where
    pub entry : In (starred w.0, w.1) entries
    pub none : is_some (keys w.0) ≡ false
    pub charset : w.2 ≡ known (label_in w.1)

  pub in_found : (keys : Texts) (entries : List (List ℕ × List ℕ)) (w : Found) → In w (extended_entries known keys entries) → IsFound keys entries w
  in_found keys [] w h = absurd h
  in_found keys (e ∷ entries) w h =
      ⊎_elim (λ i. found_here (found_cases keys e) i) (λ i. let r = in_found keys entries w i in record { entry = inr r.entry; none = r.none; charset = r.charset })
      (in_append w (found_at known keys e) (extended_entries known keys entries) h)
    where
      found_here : (found_at known keys e ≡ [])
          ⊎ ((starred (name_under e.0) ≡ e.0) × (is_some (keys (name_under e.0)) ≡ false) × (found_at known keys e ≡ (name_under e.0, e.1, known (label_in e.1)) ∷ []))
          → In w (found_at known keys e) → IsFound keys (e ∷ entries) w
      found_here (inl none) i = absurd (subst (λ xs. In w xs) none i)
      found_here (inr some) i =
          let made : IsFound keys (e ∷ entries) (name_under e.0, e.1, known (label_in e.1)) =
          record { entry = inl (ap (λ key. (key, e.1)) some.0); none = some.1; charset = refl } in
          ⊎_elim (λ same. subst (λ x. IsFound keys (e ∷ entries) x) (sym same) made) (λ n. absurd n) (subst (λ xs. In w xs) some.2 i)

  -- an entry whose key is a name with a star, where the name is not a key
  pub found_in : (keys : Texts) (entries : List (List ℕ × List ℕ)) (name value : List ℕ) → In (starred name, value) entries → is_some (keys name) ≡ false
      → In (name, value, known (label_in value)) (extended_entries known keys entries)
  found_in keys [] name value h none = absurd h
  found_in keys (e ∷ entries) name value h none =
      ⊎_elim
      (λ same. in_left _ (found_at known keys e) (extended_entries known keys entries)
      (subst (λ x. In (name, value, known (label_in value)) (found_at known keys x)) same here))
      (λ rest. in_right _ (found_at known keys e) (extended_entries known keys entries) (found_in keys entries name value rest none))
      h
    where
      under : name_under (starred name) ≡ name
      under = name_under_starred name

      passes : (is_starred (starred name) && not (is_some (keys (name_under (starred name))))) ≡ true
      passes = and_from _ _ (same_bytes _ _ (sym (ap starred under))) (ap not (ap (λ n. is_some (keys n)) under ∙ none))

      here : In (name, value, known (label_in value)) (found_at known keys (starred name, value))
      here = subst (λ xs. In (name, value, known (label_in value)) xs) (sym (cond-true _ _ _ passes)) (inl (ap (λ n. (n, value, known (label_in value))) (sym under)))

  -- ---- their order

  less_found : (keys : Texts) (key : List ℕ) (entries : List (List ℕ × List ℕ)) → AllByRecursion (λ k. slice_cmp nat_cmp key k ≡ Less) (map (λ e. e.0) entries)
      → AllByRecursion (λ n. slice_cmp nat_cmp key (starred n) ≡ Less) (map (λ w. w.0) (extended_entries known keys entries))
  less_found keys key [] h = tt
  less_found keys key (e ∷ entries) h = go (found_cases keys e) (less_found keys key entries h.1)
    where
      After : List Found → Type 0
      After ws = AllByRecursion (λ n. slice_cmp nat_cmp key (starred n) ≡ Less) (map (λ (w : Found). w.0) (ws ++ extended_entries known keys entries))

      go : (found_at known keys e ≡ [])
          ⊎ ((starred (name_under e.0) ≡ e.0) × (is_some (keys (name_under e.0)) ≡ false) × (found_at known keys e ≡ (name_under e.0, e.1, known (label_in e.1)) ∷ []))
          → AllByRecursion (λ n. slice_cmp nat_cmp key (starred n) ≡ Less) (map (λ w. w.0) (extended_entries known keys entries)) → After (found_at known keys e)
      go (inl none) ih = subst After (sym none) ih
      go (inr some) ih = subst After (sym some.2) (ap (slice_cmp nat_cmp key) some.0 ∙ h.0, ih)

  sorted_found : (keys : Texts) (entries : List (List ℕ × List ℕ)) → IsStrictlySortedBy (slice_cmp nat_cmp) (map (λ e. e.0) entries)
      → IsStrictlySortedBy by_star (map (λ w. w.0) (extended_entries known keys entries))
  unfolding IsStrictlySortedBy
  sorted_found keys [] h = tt
  sorted_found keys (e ∷ entries) h = go (found_cases keys e) (sorted_found keys entries h.1)
    where
      After : List Found → Type 0
      After ws = IsStrictlySortedBy by_star (map (λ (w : Found). w.0) (ws ++ extended_entries known keys entries))

      go : (found_at known keys e ≡ [])
          ⊎ ((starred (name_under e.0) ≡ e.0) × (is_some (keys (name_under e.0)) ≡ false) × (found_at known keys e ≡ (name_under e.0, e.1, known (label_in e.1)) ∷ []))
          → IsStrictlySortedBy by_star (map (λ w. w.0) (extended_entries known keys entries)) → After (found_at known keys e)
      go (inl none) ih = subst After (sym none) ih
      go (inr some) ih =
          subst After (sym some.2)
          (subst (λ k. AllByRecursion (λ n. slice_cmp nat_cmp k (starred n) ≡ Less) (map (λ w. w.0) (extended_entries known keys entries))) (sym some.0) (less_found keys e.0 entries h.0), ih)

-- ---- by places

pub in_at : {A : Type 0} (z d : A) (xs : List A) → In z xs → (i : ℕ) × (i < length xs) × (get_or xs i d ≡ z)
in_at z d [] h = absurd h
in_at z d (x ∷ xs) h = ⊎_elim (λ same. (0, omega arith, sym same)) (λ rest. let r = in_at z d xs rest in (suc r.0, omega (arith, r.1), r.2)) h

pub at_in : {A : Type 0} (d : A) (xs : List A) (i : ℕ) → i < length xs → In (get_or xs i d) xs
at_in d [] i h = absurd (omega arith)
at_in d (x ∷ xs) zero h = inl refl
at_in d (x ∷ xs) (suc i) h = inr (at_in d xs i (omega arith))

-- what the names that were found are, in their order
pub record AreExtended (keys : Texts) (names : List (List ℕ)) : Type 0 where
  pub order : AreInOrder names
  pub sound : (i : ℕ) → i < length names → is_extended keys (name_at names i) ≡ true
  pub complete : (name : List ℕ) → is_extended keys name ≡ true → (i : ℕ) × (i < length names) × (name_at names i ≡ name)

-- Under the charsets that are known.
module _ (known : Charsets) where
  pub are_extended : (keys : Texts) (entries : List (List ℕ × List ℕ)) → IsMapOf keys entries → AreExtended keys (map (λ w. w.0) (extended_entries known keys entries))
  are_extended keys entries map_of = record { order = order; sound = sound; complete = complete }
    where
      found : List Found
      found = extended_entries known keys entries

      nothing : Found
      nothing = ([], [], None)

      long : length (map (λ (w : Found). w.0) found) ≡ length found
      long = length-map found (λ (w : Found). w.0)

      order : AreInOrder (map (λ (w : Found). w.0) found)
      order i j below within = ap is_lt (Less-from_sorted by_star (map (λ (w : Found). w.0) found) i j [] (sorted_found known keys entries map_of.sorted) below within)

      sound : (i : ℕ) → i < length (map (λ (w : Found). w.0) found) → is_extended keys (name_at (map (λ (w : Found). w.0) found) i) ≡ true
      sound i below =
          let f = in_found known keys entries (get_or found i nothing) (at_in nothing found i (omega (arith, long))) in
          ap (is_extended keys) (get_or-map (λ (w : Found). w.0) found i nothing)
          ∙ and_from _ _ (ap is_some (map_of.holds _ f.entry)) (ap not f.none)

      complete : (name : List ℕ) → is_extended keys name ≡ true → (i : ℕ) × (i < length (map (λ (w : Found). w.0) found)) × (name_at (map (λ (w : Found). w.0) found) i ≡ name)
      complete name is_one =
          let tests = and_parts _ _ is_one in go (keys (starred name)) refl tests.0 (not-true _ tests.1)
        where
          go : (o : Option (List ℕ)) → keys (starred name) ≡ o → is_some o ≡ true → is_some (keys name) ≡ false
              → (i : ℕ) × (i < length (map (λ (w : Found). w.0) found)) × (name_at (map (λ (w : Found). w.0) found) i ≡ name)
          go None is some none = absurd (cc)
          go (Some value) is some none =
              let at = in_at _ nothing found (found_in known keys entries name value (map_of.finds (starred name) value is) none) in
              (at.0, omega (arith, long, at.1), get_or-map (λ (w : Found). w.0) found at.0 nothing ∙ ap (λ (w : Found). w.0) at.2)

-- ---- the entries of a map of texts

text_found : (q : List ℕ) (entries : List (String Global × String Global)) (value : String Global)
    → lookup (λ k. is_eq (slice_cmp nat_cmp q (string_bytes k))) entries ≡ Some value → In (q, string_bytes value) (map pair_view entries)
text_found q [] value h = absurd (cc)
text_found q (e ∷ entries) value h = go (is_eq (slice_cmp nat_cmp q (string_bytes e.0))) refl (λ i. text_found q entries value i) h
  where
    go : (b : Bool) → is_eq (slice_cmp nat_cmp q (string_bytes e.0)) ≡ b
        → (lookup (λ k. is_eq (slice_cmp nat_cmp q (string_bytes k))) entries ≡ Some value → In (q, string_bytes value) (map pair_view entries))
        → cond b (Some e.1) (lookup (λ k. is_eq (slice_cmp nat_cmp q (string_bytes k))) entries) ≡ Some value → In (q, string_bytes value) (map pair_view (e ∷ entries))
    go true is ih i =
        let same : e.1 ≡ value = cc in
        let key : q ≡ string_bytes e.0 = equal_bytes q (string_bytes e.0) (sym (is_eq-slice_cmp q (string_bytes e.0)) ∙ is) in
        inl (ap (λ v. (q, string_bytes v)) (sym same) ∙ ap (λ k. (k, string_bytes e.1)) key)
    go false is ih i = inr (ih i)

abbrev holds_entry : BTreeMap (String Global) (String Global) → String Global × String Global → Type 0
holds_entry m e = get string_cmp m e.0 ≡ Some e.1

texts_hold : (m : BTreeMap (String Global) (String Global)) (entries : List (String Global × String Global)) → All (holds_entry m) entries
    → (e : List ℕ × List ℕ) → In e (map pair_view entries) → text_at m e.0 ≡ Some e.1
texts_hold m [] all e i = absurd i
texts_hold m (x ∷ entries) all e i =
    ⊎_elim
    (λ same. let at : get_by_text m (string_bytes x.0) ≡ Some x.1 = All-head (holds_entry m) x entries all in
    ap (λ (p : List ℕ × List ℕ). text_at m p.0) same ∙ ap (option_map string_bytes) at ∙ sym (ap (λ (p : List ℕ × List ℕ). Some p.1) same))
    (λ rest. texts_hold m entries (All-tail (holds_entry m) x entries all) e rest)
    i

texts_sorted : (entries : List (String Global × String Global)) → IsStrictlySortedBy string_cmp (map (λ e. e.0) entries)
    → IsStrictlySortedBy (slice_cmp nat_cmp) (map (λ e. e.0) (map pair_view entries))
unfolding IsStrictlySortedBy
texts_sorted [] h = tt
texts_sorted (e ∷ entries) h = (less e.0 entries h.0, texts_sorted entries h.1)
  where
    less : (key : String Global) (es : List (String Global × String Global)) → AllByRecursion (λ k. string_cmp key k ≡ Less) (map (λ e. e.0) es)
        → AllByRecursion (λ k. slice_cmp nat_cmp (string_bytes key) k ≡ Less) (map (λ e. e.0) (map pair_view es))
    less key [] h = tt
    less key (x ∷ es) h = (h.0, less key es h.1)

pub map_of_texts : (m : BTreeMap (String Global) (String Global)) → IsOrdered string_cmp m → IsMapOf (text_at m) (map pair_view m.entries)
map_of_texts m ordered = record {
  holds = texts_hold m m.entries (All-found string_cmp_total m ordered);
  finds = λ q value h. finds (get_by_text m q) q value refl h;
  sorted = texts_sorted m.entries ordered;
}
  where
    finds : (o : Option (String Global)) (q value : List ℕ) → get_by_text m q ≡ o → option_map string_bytes o ≡ Some value → In (q, value) (map pair_view m.entries)
    finds None q value is h = absurd (cc)
    finds (Some s) q value is h = let same : string_bytes s ≡ value = cc in subst (λ v. In (q, v) (map pair_view m.entries)) same (text_found q m.entries s is)
