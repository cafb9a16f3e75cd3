-- The entry of each name after the extended values are read.
use Rattle.std.proofs.Common.{◌≡◌, ℕ, Bool, true, false, ◌&&◌, ◌||◌, cond, List, [], ◌∷◌, ◌++◌, map, Option, Some, None, is_some, option_map, BTreeMap, String, string_bytes, refl, sym, ap, ◌∙◌}
use Rattle.std.proofs.lemmas.List.{map-id}
use Rattle.std.proofs.lemmas.Simd.{map-map}
use Rattle.std.proofs.Math.Bool.{or-false, or-true}
use Rattle.std.proofs.lemmas.Bool.{and_from, and_left, cond-false, cond-true, false_from_ne_true, false≢true, or_parts, true_from_ne_false}
use Rattle.std.proofs.lemmas.Map.Text.{is_eq-slice_cmp}
use Rattle.std.specs.BTreeMap.{get_by_text}
use Rattle.std.specs.Prelude.{if◌then◌else◌}
use Rattle.std.specs.Borrow.{Bor}
use Rattle.std.specs.Global.{Global}
use Rattle.std.specs.Cmp.Lexicographic.{slice_cmp}
use Rattle.std.specs.Map.{lookup}
use Rattle.std.specs.Option.{option_or, unwrap_or}
use Rattle.std.specs.Ordering.{is_eq, nat_cmp}
use Rattle.std.specs.Str.{bytes_eq}
use Rattle.mail_codec.specs.Charset.{Charsets}
use Rattle.mailparse.specs.Sections as words
use Rattle.mailparse.specs.ExtendedValues.{extended_at, has_left, section_at, extended_value, is_starred, name_under, reading_of, starred}
use Rattle.mailparse.specs.Pairs.{Texts}
use Rattle.mailparse.specs.private.Filled.{filled, holds_name}
use Rattle.mailparse.proofs.lemmas.Filled.{filled_all, holds_push, mapped_unless, shown_name, taken_name, removed}
use Rattle.mailparse.proofs.lemmas.CharsetSources.{name_under_starred}
use Rattle.mailparse.proofs.lemmas.ExtendedValues.{equal_bytes, is_some_map, same_bytes}

-- the texts of keys, less the starred keys of some names
abbrev pub without_starred : Texts → List (List ℕ) → Texts
without_starred keys names key = if is_starred key && holds_name names (name_under key) then None else keys key

pub or_none : {A : Type 0} (o : Option A) → option_or o None ≡ o
or_none None = refl
or_none (Some x) = refl

pub cond_none : {A : Type 0} (b : Bool) → cond {A = Option A} b None None ≡ None
cond_none true = refl
cond_none false = refl

-- a name that is not a key
pub section_none : (known : Charsets) (keys : Texts) (q : List ℕ) → keys q ≡ None → section_at known keys q ≡ extended_at known keys q
unfolding section_at
section_none known keys q h =
    ap (λ o. option_or (extended_at known keys q) (cond (has_left known keys q) None (option_map words.text o))) h
    ∙ ap (option_or (extended_at known keys q)) (cond_none (has_left known keys q))
    ∙ or_none (extended_at known keys q)

-- ---- the starred keys that leave

-- the key of one more name leaves
pub starred_leaves : (keys : Texts) (names : List (List ℕ)) (name q : List ℕ) (old new : Option (List ℕ)) → old ≡ without_starred keys names q
    → new ≡ cond (bytes_eq (starred name) q) None old → new ≡ without_starred keys (names ++ name ∷ []) q
starred_leaves keys names name q old new before step = go (bytes_eq (starred name) q) refl
  where
    more : holds_name (names ++ name ∷ []) (name_under q) ≡ (holds_name names (name_under q) || bytes_eq name (name_under q))
    more = holds_push names name (name_under q)

    go : (b : Bool) → bytes_eq (starred name) q ≡ b → new ≡ without_starred keys (names ++ name ∷ []) q
    go true is =
        let whole : starred name ≡ q = equal_bytes (starred name) q is in
        let under : name ≡ name_under q = sym (name_under_starred name) ∙ ap name_under whole in
        let ends : is_starred q ≡ true = same_bytes q (starred (name_under q)) (sym whole ∙ ap starred under) in
        let held : holds_name (names ++ name ∷ []) (name_under q) ≡ true =
        more ∙ ap (λ b. holds_name names (name_under q) || b) (same_bytes name (name_under q) under) ∙ or-true (holds_name names (name_under q)) in
        step ∙ cond-true _ _ _ is ∙ sym (cond-true _ _ _ (and_from _ _ ends held))
    go false is = step ∙ cond-false _ _ _ is ∙ before ∙ ap (λ b. cond b None (keys q)) (sym (other (is_starred q) refl))
      where
        other : (b : Bool) → is_starred q ≡ b → (is_starred q && holds_name (names ++ name ∷ []) (name_under q)) ≡ (is_starred q && holds_name names (name_under q))
        other false ends = and_left _ _ ends ∙ sym (and_left _ _ ends)
        other true ends = ap (λ b. is_starred q && b) (more ∙ ap (λ b. holds_name names (name_under q) || b) unlike ∙ or-false (holds_name names (name_under q)))
          where
            unlike : bytes_eq name (name_under q) ≡ false
            unlike = false_from_ne_true _ (λ e. false≢true (sym is ∙ same_bytes (starred name) q (ap starred (equal_bytes name (name_under q) e) ∙ sym (equal_bytes q (starred (name_under q)) ends))))

starred_at : (keys : Texts) (names : List (List ℕ)) (name : List ℕ) → without_starred keys names (starred name) ≡ cond (holds_name names name) None (keys (starred name))
starred_at keys names name =
    ap (λ b. cond (b && holds_name names (name_under (starred name))) None (keys (starred name))) (same_bytes (starred name) (starred (name_under (starred name))) (ap starred (sym (name_under_starred name))))
    ∙ ap (λ n. cond (holds_name names n) None (keys (starred name))) (name_under_starred name)

-- the value of a name, where its key has not left
pub value_there : (keys : Texts) (names : List (List ℕ)) (name value : List ℕ) → Some value ≡ without_starred keys names (starred name) → extended_value keys name ≡ value
value_there keys names name value is = go (holds_name names name) (is ∙ starred_at keys names name)
  where
    go : (b : Bool) → Some value ≡ cond b None (keys (starred name)) → extended_value keys name ≡ value
    go true h = let clash : Some value ≡ None = h in absurd (cc)
    go false h = sym (ap (λ o. unwrap_or o []) h)

-- a missing key has left
pub value_gone : (keys : Texts) (names : List (List ℕ)) (name : List ℕ) → is_some (keys (starred name)) ≡ true → None ≡ without_starred keys names (starred name)
    → holds_name names name ≡ true
value_gone keys names name some is = true_from_ne_false _ (λ e. false≢true (sym (sym some ∙ ap is_some (sym ((is ∙ starred_at keys names name) ∙ cond-false _ _ _ e)))))

-- Under the charsets that are known.
module _ (known : Charsets) where
  -- all values were read
  pub sections_read : (keys : Texts) (names : List (List ℕ)) (q : List ℕ) (extended : Option words.Section) (texts : Option (List ℕ))
      → ((z : List ℕ) → holds_name names z ≡ is_some (reading_of known keys z))
      → extended ≡ filled (extended_at known keys) (λ _. None) names q → texts ≡ without_starred keys names q
      → option_or extended (option_map words.text texts) ≡ section_at known keys q
  unfolding section_at
  sections_read keys names q extended texts all e t =
      ap (λ o. option_or o (option_map words.text texts)) (filled_all (extended_at known keys) (λ _. None) names q extended e (λ none. unread (sym (all q) ∙ none)))
      ∙ ap (option_or (extended_at known keys q))
      (ap (option_map words.text) (t ∙ ap (λ b. cond (is_starred q && b) None (keys q)) (all (name_under q))) ∙ mapped_unless words.text (has_left known keys q) (keys q))
    where
      unread : is_some (reading_of known keys q) ≡ false → extended_at known keys q ≡ None
      unread none = by_none _ (is_some_map _ (reading_of known keys q) ∙ none)
        where
          by_none : (o : Option words.Section) → is_some o ≡ false → o ≡ None
          by_none None h = refl
          by_none (Some x) h = absurd (cc)

-- ---- the names of a map

-- all were shown
pub names_shown : {X : Type 0} (shown : List (Bor (String Global) × Bor X)) (entries : List (String Global × X)) → map (λ e. (e.0.now, e.1.now)) shown ≡ entries
    → map shown_name shown ≡ map (λ e. string_bytes e.0) entries
names_shown {X = X} shown entries h =
    sym (map-map (λ (e : String Global × X). string_bytes e.0) (λ (e : Bor (String Global) × Bor X). (e.0.now, e.1.now)) shown) ∙ ap (map (λ (e : String Global × X). string_bytes e.0)) h

lookup_unnamed : {X : Type 0} (q : List ℕ) (entries : List (String Global × X)) → holds_name (map (λ e. string_bytes e.0) entries) q ≡ false
    → lookup (λ k. is_eq (slice_cmp nat_cmp q (string_bytes k))) entries ≡ None
lookup_unnamed q [] h = refl
lookup_unnamed q (e ∷ entries) h =
    let none = or_parts _ _ h in
    cond-false _ _ _ (is_eq-slice_cmp q (string_bytes e.0) ∙ false_from_ne_true _ (λ is. false≢true (sym none.0 ∙ same_bytes (string_bytes e.0) q (sym (equal_bytes q (string_bytes e.0) is)))))
    ∙ lookup_unnamed q entries none.1

pub unnamed : {X : Type 0} (q : List ℕ) (m : BTreeMap (String Global) X) → holds_name (map (λ e. string_bytes e.0) m.entries) q ≡ false → get_by_text m q ≡ None
unnamed q m h = lookup_unnamed q m.entries h

lookup_named : {X : Type 0} (q : List ℕ) (entries : List (String Global × X)) → holds_name (map (λ e. string_bytes e.0) entries) q ≡ true
    → is_some (lookup (λ k. is_eq (slice_cmp nat_cmp q (string_bytes k))) entries) ≡ true
lookup_named q [] h = absurd (cc)
lookup_named {X = X} q (e ∷ entries) h = pick (bytes_eq (string_bytes e.0) q) refl h (lookup_named q entries)
  where
    either : (b : Bool) (o : Option X) → is_some o ≡ true → is_some (cond b (Some e.1) o) ≡ true
    either true o h = refl
    either false o h = h

    pick : (b : Bool) → bytes_eq (string_bytes e.0) q ≡ b → (bytes_eq (string_bytes e.0) q || holds_name (map (λ x. string_bytes x.0) entries) q) ≡ true
        → (holds_name (map (λ x. string_bytes x.0) entries) q ≡ true → is_some (lookup (λ k. is_eq (slice_cmp nat_cmp q (string_bytes k))) entries) ≡ true)
        → is_some (cond (is_eq (slice_cmp nat_cmp q (string_bytes e.0))) (Some e.1) (lookup (λ k. is_eq (slice_cmp nat_cmp q (string_bytes k))) entries)) ≡ true
    pick true is held rest = ap is_some (cond-true _ (Some e.1) _ (is_eq-slice_cmp q (string_bytes e.0) ∙ same_bytes q (string_bytes e.0) (sym (equal_bytes (string_bytes e.0) q is))))
    pick false is held rest =
        either (is_eq (slice_cmp nat_cmp q (string_bytes e.0))) _ (rest (sym (ap (λ b. b || holds_name (map (λ x. string_bytes x.0) entries) q) is) ∙ held))

pub named : {X : Type 0} (q : List ℕ) (m : BTreeMap (String Global) X) → holds_name (map (λ e. string_bytes e.0) m.entries) q ≡ true → is_some (get_by_text m q) ≡ true
named q m h = lookup_named q m.entries h

-- all were taken
pub names_taken : {X : Type 0} (taken entries : List (String Global × X)) → map (λ e. e) taken ≡ entries → map taken_name taken ≡ map (λ e. string_bytes e.0) entries
names_taken taken entries h = ap (map taken_name) (sym (map-id taken) ∙ h)

-- ---- the entries that are removed from both maps

pub taken_both : (b : Bool) (e new_e : Option words.Section) (t new_t : Option (List ℕ)) → new_e ≡ cond b None e → new_t ≡ cond b None t
    → option_or new_e (option_map words.text new_t) ≡ cond b None (option_or e (option_map words.text t))
taken_both b e new_e t new_t first second = ap (λ o. option_or o (option_map words.text new_t)) first ∙ ap (λ o. option_or (cond b None e) (option_map words.text o)) second ∙ go b
  where
    go : (b : Bool) → option_or (cond b None e) (option_map words.text (cond b None t)) ≡ cond b None (option_or e (option_map words.text t))
    go true = refl
    go false = refl

-- an entry that is removed
pub ruleset removals = (removed, taken_both)
