-- Extended values: keys that end in a star, and their names.
use Rattle.std.proofs.Common.{cond, ◌≡◌, ◌≢◌, ℕ, ◌-◌, Bool, true, false, not, List, [], ◌∷◌, ◌++◌, length, map, take, drop, Option, Some, None, String, string_bytes, is_some, option_map, refl, sym, ap, ◌∙◌, arith}
use Rattle.std.proofs.lemmas.Bool.{false_from_ne_true, true_from_ne_false, and_from, and_left, and_right, cond-true, cond-false}
use Rattle.std.proofs.lemmas.List.{append-nil, drop_all, flat_map_more, map_push, take-append-drop}
use Rattle.std.proofs.lemmas.Slice.Eq.{bytes_eq-Decides}
use Rattle.std.specs.Borrow.{Bor}
use Rattle.std.specs.Option.{MatchOption}
use Rattle.std.specs.Str.{bytes_eq}
use Rattle.std.specs.Str.Pattern.{FindsCharSuffix, StripsSuffix}
use Rattle.std.specs.Global.{Global}
use Rattle.mail_codec.specs.Charset.{Charsets}
use Rattle.mailparse.specs.Pairs.{Texts}
use Rattle.mailparse.specs.ExtendedValues.{is_starred, label_in, name_under, starred}
use Rattle.mailparse.specs.private.ExtendedValues.{Found, found_at, star_taken, extended_entries, extended_view}
use Rattle.mailparse.specs.private.Pairs.{pair_view}
use Rattle.mailparse.specs.declared.parameters.extended_values.names.ExtendedName.{ExtendedName}
use Rattle.std.proofs.lemmas.Iterator.Consumers.{YieldsList-end, YieldsList-from_rest}

-- an entry that a walk showed, by its bytes
abbrev pub shown_view : Bor (String Global) × Bor (String Global) → List ℕ × List ℕ
shown_view e = (string_bytes e.0.now, string_bytes e.1.now)

pub is_some_map : {A B : Type 0} (f : A → B) (o : Option A) → is_some (option_map f o) ≡ is_some o
is_some_map f None = refl
is_some_map f (Some x) = refl

pub is_some_where : {A : Type 0} (b : Bool) (x : A) → is_some (cond b (Some x) None) ≡ b
is_some_where true x = refl
is_some_where false x = refl

pub same_bytes : (xs ys : List ℕ) → xs ≡ ys → bytes_eq xs ys ≡ true
same_bytes xs ys e = (bytes_eq-Decides xs ys).1 e

pub equal_bytes : (xs ys : List ℕ) → bytes_eq xs ys ≡ true → xs ≡ ys
equal_bytes xs ys e = (bytes_eq-Decides xs ys).0 e

-- ---- the star of a key

pub star_none : (key : List ℕ) → ((front : List ℕ) → key ≢ front ++ 42 ∷ []) → star_taken key ≡ None
star_none key h = cond-false _ _ _ (false_from_ne_true _ (λ is. h (name_under key) (equal_bytes _ _ is)))

pub star_some : (key name : List ℕ) (n : ℕ) → n ≡ 1 → name ≡ take (length key - n) key → drop (length key - n) key ≡ 42 ∷ drop (length key) key
    → star_taken key ≡ Some name
star_some key name n one taken star =
    let under : name ≡ name_under key = taken ∙ ap (λ m. take (length key - m) key) one in
    let whole : key ≡ starred (name_under key) =
    sym (take-append-drop (length key - n) key)
    ∙ ap (λ rest. take (length key - n) key ++ rest) (star ∙ ap (λ rest. 42 ∷ rest) (drop_all (length key) key (omega arith)))
    ∙ ap (λ front. front ++ 42 ∷ []) (ap (λ m. take (length key - m) key) one)
    in
    cond-true _ _ _ (same_bytes _ _ whole) ∙ ap Some (sym under)

pub star_cases : (key : List ℕ) (r : Option (Bor (List ℕ))) → MatchOption r (FindsCharSuffix 42 key None) (λ x. StripsSuffix (FindsCharSuffix 42) key x.now)
    → option_map (λ name. name.now) r ≡ star_taken key
unfolding lib.Utf8.encode
star_cases key None h = sym (star_none key h)
star_cases key (Some x) h = sym (star_some key x.now h.0 h.1.0 h.2 h.1.1.split)

taken_some : (key name : List ℕ) → star_taken key ≡ Some name → (is_starred key ≡ true) × (name_under key ≡ name)
taken_some key name h =
    let is = true_from_ne_false (is_starred key) (λ e. let same : None ≡ Some name = sym (cond-false _ _ _ e) ∙ h in cc) in
    let same : Some (name_under key) ≡ Some name = sym (cond-true _ _ _ is) ∙ h in
    (is, cc)

taken_none : (key : List ℕ) → star_taken key ≡ None → is_starred key ≡ false
taken_none key h = false_from_ne_true _ (λ is. let same : Some (name_under key) ≡ None = sym (cond-true _ _ _ is) ∙ h in cc)

-- ---- the extended names, as a walk over the entries finds them

-- Under the charsets that are known.
module _ (known : Charsets) where
  pub found_unstarred : (keys : Texts) (e : List ℕ × List ℕ) → star_taken e.0 ≡ None → found_at known keys e ≡ []
  found_unstarred keys e h = cond-false _ _ _ (and_left _ _ (taken_none e.0 h))

  pub found_key : (keys : Texts) (e : List ℕ × List ℕ) (name : List ℕ) → star_taken e.0 ≡ Some name → is_some (keys name) ≡ true → found_at known keys e ≡ []
  found_key keys e name h is =
      let taken = taken_some e.0 name h in
      cond-false _ _ _ (and_right _ _ (ap not (ap (λ n. is_some (keys n)) taken.1 ∙ is)))

  pub found_name : (keys : Texts) (e : List ℕ × List ℕ) (name : List ℕ) → star_taken e.0 ≡ Some name → is_some (keys name) ≡ false
      → found_at known keys e ≡ (name, e.1, known (label_in e.1)) ∷ []
  found_name keys e name h is =
      let taken = taken_some e.0 name h in
      cond-true _ _ _ (and_from _ _ taken.0 (ap not (ap (λ n. is_some (keys n)) taken.1 ∙ is)))
      ∙ ap (λ n. (n, e.1, known (label_in e.1)) ∷ []) taken.1

  pub found_more : (keys : Texts) (shown : List (Bor (String Global) × Bor (String Global))) (e : Bor (String Global) × Bor (String Global)) (old new : List Found)
      → old ≡ extended_entries known keys (map shown_view shown) → new ≡ old ++ found_at known keys (shown_view e) → new ≡ extended_entries known keys (map shown_view (shown ++ e ∷ []))
  found_more keys shown e old new before more =
      more ∙ ap (λ found. found ++ found_at known keys (shown_view e)) before
      ∙ flat_map_more (found_at known keys) [] (map shown_view shown) (shown_view e)
      ∙ ap (extended_entries known keys) (sym (map_push shown_view shown e))

  pub found_same : (keys : Texts) (shown : List (Bor (String Global) × Bor (String Global))) (e : Bor (String Global) × Bor (String Global)) (old : List Found)
      → old ≡ extended_entries known keys (map shown_view shown) → found_at known keys (shown_view e) ≡ [] → old ≡ extended_entries known keys (map shown_view (shown ++ e ∷ []))
  found_same keys shown e old before none =
      found_more keys shown e old old before (sym (ap (λ r. old ++ r) none ∙ append-nil old))

  found_view : {C : Type 0} (reads : C → List ℕ → List ℕ) (w : ExtendedName C) (value label : List ℕ) → w.value.now ≡ value → label ≡ value → option_map reads w.charset ≡ known (label_in label)
      → extended_view reads w ≡ (w.name.now, value, known (label_in value))
  found_view reads w value label v l charset =
      ap (λ x. (w.name.now, x, option_map reads w.charset)) v ∙ ap (λ x. (w.name.now, value, x)) (charset ∙ ap (λ x. known (label_in x)) l)

  pub found_push : {C : Type 0} (reads : C → List ℕ → List ℕ) (items new : List (ExtendedName C)) (w : ExtendedName C) (value label : List ℕ) → new ≡ items ++ w ∷ [] → w.value.now ≡ value → label ≡ value
      → option_map reads w.charset ≡ known (label_in label)
      → map (extended_view reads) new ≡ map (extended_view reads) items ++ (w.name.now, value, known (label_in value)) ∷ []
  found_push reads items new w value label pushed v l charset =
      ap (map (extended_view reads)) pushed ∙ map_push (extended_view reads) items w ∙ ap (λ x. map (extended_view reads) items ++ x ∷ []) (found_view reads w value label v l charset)

-- all entries were shown
pub shown_all : (shown : List (Bor (String Global) × Bor (String Global))) (entries : List (String Global × String Global))
    → map (λ e. (e.0.now, e.1.now)) shown ≡ entries → map shown_view shown ≡ map pair_view entries
shown_all [] entries h = ap (map pair_view) h
shown_all (e ∷ shown) entries h = ap (λ r. shown_view e ∷ r) (shown_all shown (map (λ e. (e.0.now, e.1.now)) shown) refl) ∙ ap (map pair_view) h

-- the names that are found
pub ruleset names_found = (YieldsList-end, YieldsList-from_rest, shown_view, is_some_map, found_unstarred, found_key, found_name, found_more, found_push, found_same, shown_all)
