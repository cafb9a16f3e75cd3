-- A map that is filled name by name.
use Rattle.std.proofs.Common.{◌≡◌, ℕ, Bool, true, false, ◌||◌, cond, List, [], ◌∷◌, ◌++◌, Option, Some, None, option_map, BTreeMap, String, string_bytes, refl, sym, ap, ◌∙◌}
use Rattle.std.proofs.Math.Bool.{or-false, or-true}
use Rattle.std.proofs.lemmas.List.Folds.{list_any-append}
use Rattle.std.proofs.lemmas.Bool.{cond-false, cond-true}
use Rattle.std.proofs.lemmas.Map.Text.{btree_map_updates_text}
use Rattle.std.specs.Borrow.{Bor}
use Rattle.std.specs.Global.{Global}
use Rattle.std.specs.BTreeMap.{UpdatesBy, get_by_text}
use Rattle.std.specs.Cmp.Lexicographic.{slice_cmp}
use Rattle.std.specs.List.{list_any}
use Rattle.std.specs.Ordering.{nat_cmp}
use Rattle.std.specs.String.{string_cmp}
use Rattle.std.specs.Str.{bytes_eq}
use Rattle.mailparse.specs.private.Filled.{filled, holds_name}
use Rattle.mailparse.proofs.lemmas.Pairs.{mapped}
use Rattle.mailparse.proofs.lemmas.ExtendedValues.{equal_bytes}

-- the name of an entry that a walk showed
abbrev pub shown_name : {X : Type 0} → Bor (String Global) × Bor X → List ℕ
shown_name e = string_bytes e.0.now

-- the name of an entry that a walk took
abbrev pub taken_name : {X : Type 0} → String Global × X → List ℕ
taken_name e = string_bytes e.0

pub any_push : (test : List ℕ → Bool) (names : List (List ℕ)) (name : List ℕ) → list_any test (names ++ name ∷ []) ≡ (list_any test names || test name)
any_push test names name = list_any-append test names (name ∷ []) ∙ ap (λ b. list_any test names || b) (or-false (test name))

pub holds_push : (names : List (List ℕ)) (name q : List ℕ) → holds_name (names ++ name ∷ []) q ≡ (holds_name names q || bytes_eq name q)
holds_push names name q = any_push (λ n. bytes_eq n q) names name

-- a function over an optional entry
pub mapped_unless : {X B : Type 0} (f : X → B) (b : Bool) (o : Option X) → option_map f (cond b None o) ≡ cond b None (option_map f o)
mapped_unless f true o = refl
mapped_unless f false o = refl

-- the entry of one more name was set
pub filled_push : {A : Type 0} (f g : List ℕ → Option A) (names : List (List ℕ)) (name q : List ℕ) (old new : Option A) → old ≡ filled f g names q
    → new ≡ cond (bytes_eq name q) (f name) old → new ≡ filled f g (names ++ name ∷ []) q
filled_push {A = A} f g names name q old new before step = go (bytes_eq name q) refl
  where
    go : (b : Bool) → bytes_eq name q ≡ b → new ≡ filled f g (names ++ name ∷ []) q
    go true is =
        step ∙ cond-true _ _ _ is ∙ ap f (equal_bytes name q is)
        ∙ sym (cond-true _ _ _ (holds_push names name q ∙ ap (λ b. holds_name names q || b) is ∙ or-true (holds_name names q)))
    go false is =
        step ∙ cond-false _ _ _ is ∙ before
        ∙ ap (λ b. cond b (f q) (g q)) (sym (holds_push names name q ∙ ap (λ b. holds_name names q || b) is ∙ or-false (holds_name names q)))

-- one more name was skipped, for which both maps agree
pub filled_skip : {A : Type 0} (f g : List ℕ → Option A) (names : List (List ℕ)) (name q : List ℕ) (old : Option A) → old ≡ filled f g names q
    → f name ≡ g name → old ≡ filled f g (names ++ name ∷ []) q
filled_skip {A = A} f g names name q old before same = go (bytes_eq name q) refl
  where
    here : bytes_eq name q ≡ true → (b : Bool) → cond b (f q) (g q) ≡ f q
    here is true = refl
    here is false = ap g (sym (equal_bytes name q is)) ∙ sym same ∙ ap f (equal_bytes name q is)

    go : (b : Bool) → bytes_eq name q ≡ b → old ≡ filled f g (names ++ name ∷ []) q
    go true is = before ∙ here is (holds_name names q) ∙ sym (here is (holds_name (names ++ name ∷ []) q))
    go false is = before ∙ ap (λ b. cond b (f q) (g q)) (sym (holds_push names name q ∙ ap (λ b. holds_name names q || b) is ∙ or-false (holds_name names q)))

-- a name that is there already
pub holds_again : (names : List (List ℕ)) (name q : List ℕ) → holds_name names name ≡ true → holds_name (names ++ name ∷ []) q ≡ holds_name names q
holds_again names name q held = holds_push names name q ∙ go (bytes_eq name q) refl
  where
    go : (b : Bool) → bytes_eq name q ≡ b → (holds_name names q || bytes_eq name q) ≡ holds_name names q
    go true is = ap (λ b. holds_name names q || b) is ∙ or-true (holds_name names q) ∙ sym (ap (holds_name names) (sym (equal_bytes name q is)) ∙ held)
    go false is = ap (λ b. holds_name names q || b) is ∙ or-false (holds_name names q)

pub filled_again : {A : Type 0} (f g : List ℕ → Option A) (names : List (List ℕ)) (name q : List ℕ) (old : Option A) → old ≡ filled f g names q
    → holds_name names name ≡ true → old ≡ filled f g (names ++ name ∷ []) q
filled_again f g names name q old before held = before ∙ ap (λ b. cond b (f q) (g q)) (sym (holds_again names name q held))

-- all names for which the maps may differ were visited
pub filled_all : {A : Type 0} (f g : List ℕ → Option A) (names : List (List ℕ)) (q : List ℕ) (old : Option A) → old ≡ filled f g names q
    → (holds_name names q ≡ false → f q ≡ g q) → old ≡ f q
filled_all {A = A} f g names q old before same = go (holds_name names q) refl
  where
    go : (b : Bool) → holds_name names q ≡ b → old ≡ f q
    go true is = before ∙ cond-true _ _ _ is
    go false is = before ∙ cond-false _ _ _ is ∙ sym (same is)

-- ---- the entries after one is set

pub stored : {Y X B : Type 0} (f : X → B) (name : List ℕ) (old new : BTreeMap (String Y) X) (v : X) → UpdatesBy string_cmp (λ k. slice_cmp nat_cmp name (string_bytes k)) old new (Some v)
    → (q : List ℕ) → option_map f (get_by_text new q) ≡ cond (bytes_eq name q) (Some (f v)) (option_map f (get_by_text old q))
stored f name old new v updates q = ap (option_map f) (btree_map_updates_text name old new (Some v) updates q) ∙ mapped f (bytes_eq name q) v (get_by_text old q)

-- the entries after one is removed
pub removed : {Y X B : Type 0} (f : X → B) (name : List ℕ) (old new : BTreeMap (String Y) X) → UpdatesBy string_cmp (λ k. slice_cmp nat_cmp name (string_bytes k)) old new None
    → (q : List ℕ) → option_map f (get_by_text new q) ≡ cond (bytes_eq name q) None (option_map f (get_by_text old q))
removed f name old new updates q = ap (option_map f) (btree_map_updates_text name old new None updates q) ∙ mapped_unless f (bytes_eq name q) (get_by_text old q)
