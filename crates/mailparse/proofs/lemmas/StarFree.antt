-- If no key contains a star, the parameters are the pairs.
use Rattle.std.proofs.Common.{◌≡◌, ℕ, Bool, true, false, cond, not, ◌&&◌, ◌||◌, eqb, ltb, List, [], ◌∷◌, ◌++◌, length, map, Option, Some, None, BTreeMap, String, refl, sym, ap, ◌∙◌}
use Rattle.mailparse.proofs.lemmas.ExtendedValues.{is_some_where}
use Rattle.std.proofs.lemmas.List.Folds.{list_any-append}
use Rattle.std.proofs.Math.Bool.{or-true}
use Rattle.std.proofs.lemmas.List.{map_push}
use Rattle.std.proofs.lemmas.Bool.{or_from, or_parts, cond-false, false_from_ne_true, false≢true, and_right}
use Rattle.std.proofs.lemmas.Slice.Eq.{bytes_eq-Decides}
use Rattle.std.specs.Borrow.{Bor}
use Rattle.std.specs.Global.{Global}
use Rattle.std.specs.List.{list_any}
use Rattle.std.specs.Option.{is_some, option_map, option_or, option_map_or}
use Rattle.std.specs.Prelude.{string_bytes}
use Rattle.std.specs.Str.{bytes_eq}
use Rattle.mail_codec.specs.Charset.{Charsets}
use Rattle.mail_codec.specs.Places.{byte_place}
use Rattle.mail_codec.proofs.lemmas.Places.{first_place-begins}
use Rattle.mailparse.proofs.lemmas.EncodedWord.{any_from_place}
use Rattle.mailparse.specs.Continuations.{is_first_of, is_base, is_used, sections_of, joined, joined_at, parameters_in, possible_names}
use Rattle.mailparse.specs.ExtendedValues.{has_left, section_at, starred, is_starred, name_under, is_extended, octets_of, reading_of}
use Rattle.mailparse.specs.Sections.{text, octets, alone, is_star, numbered, section_name}
use Rattle.mailparse.specs.Pairs.{last_of, text_at}
use Rattle.mailparse.specs.private.Continuations.{has_star, names_in}
use Rattle.mailparse.specs.private.Filled.{holds_name}
use Rattle.mailparse.proofs.lemmas.Filled.{any_push, shown_name}
use Rattle.mailparse.proofs.lemmas.Sections.{unnamed}

-- ---- the search for a star

pub star_found : (name : List ℕ) → is_some (byte_place name 42) ≡ has_star name
star_found name = is_some_where _ _ ∙ ap (λ n. ltb n (length name)) (first_place-begins is_star name) ∙ sym (any_from_place is_star name)

-- ---- names without a star

pub another_key : (key name : List ℕ) → has_star key ≡ false → has_star name ≡ true → bytes_eq key name ≡ false
another_key key name free some = false_from_ne_true _ (λ e. false≢true (sym free ∙ ap has_star ((bytes_eq-Decides key name).0 e) ∙ some))

not_held : (names : List (List ℕ)) (name : List ℕ) → list_any has_star names ≡ false → has_star name ≡ true → holds_name names name ≡ false
not_held [] name free some = refl
not_held (key ∷ names) name free some =
    let parts = or_parts _ _ free in
    or_from _ _ (another_key key name parts.0 some) (not_held names name parts.1 some)

-- a map whose names contain no star has nothing at a name with one
pub nothing_starred : (m : BTreeMap (String Global) (String Global)) (name : List ℕ) → list_any has_star (names_in m) ≡ false → has_star name ≡ true → text_at m name ≡ None
nothing_starred m name free some = ap (option_map string_bytes) (unnamed name m (not_held (names_in m) name free some))

-- one more name
pub star_more : (yielded : List (Bor (String Global) × Bor (String Global))) (e : Bor (String Global) × Bor (String Global)) (so here : Bool)
    → so ≡ list_any has_star (map shown_name yielded) → here ≡ has_star (shown_name e)
    → (so || here) ≡ list_any has_star (map shown_name (yielded ++ e ∷ []))
star_more yielded e so here before now =
    (λ i. before i || now i) ∙ sym (any_push has_star (map shown_name yielded) (shown_name e)) ∙ ap (list_any has_star) (sym (map_push shown_name yielded e))

starred_has : (name : List ℕ) → has_star (starred name) ≡ true
starred_has name = list_any-append is_star name (42 ∷ []) ∙ or-true (list_any is_star name)

-- ---- pairs that have nothing at a name with a star

module _ (known : Charsets) (pairs : List (List ℕ × List ℕ)) (none_starred : (name : List ℕ) → has_star name ≡ true → last_of pairs name ≡ None) where
  none_extended : (name : List ℕ) → is_extended (last_of pairs) name ≡ false
  none_extended name = ap (λ t. is_some t && not (is_some (last_of pairs name))) (none_starred (starred name) (starred_has name))

  none_reads : (name : List ℕ) → reading_of known (last_of pairs) name ≡ None
  unfolding reading_of
  none_reads name = cond-false _ _ _ (none_extended name)

  section_is : (name : List ℕ) → section_at known (last_of pairs) name ≡ option_map text (last_of pairs name)
  unfolding section_at
  section_is name =
      ap (λ r. option_or (option_map (λ reading. cond (is_some (numbered name)) (octets reading (octets_of (last_of pairs) name)) (text (reading (octets_of (last_of pairs) name)))) r)
      (cond (has_left known (last_of pairs) name) None (option_map text (last_of pairs name)))) (none_reads name)
      ∙ cond-false _ _ _ (and_right (is_starred name) _ (ap is_some (none_reads (name_under name))))

  -- what has a number has a star
  unnumbered : (name : List ℕ) → has_star name ≡ false → numbered name ≡ None
  unfolding numbered
  unnumbered name none = cond-false _ _ _ none

  first_of_none : (base name : List ℕ) → (is_some (section_at known (last_of pairs) name) && is_first_of base name) ≡ false
  first_of_none base name = go (has_star name) refl
    where
      go : (t : Bool) → has_star name ≡ t → (is_some (section_at known (last_of pairs) name) && is_first_of base name) ≡ false
      go true e = ap (λ p. is_some p && is_first_of base name) (section_is name ∙ ap (option_map text) (none_starred name e))
      go false e = and_right _ _ (ap (λ n. option_map_or (λ n. bytes_eq n.0 base && eqb n.1 0) n false) (unnumbered name e))

  no_bases : (names : List (List ℕ)) (base : List ℕ) → is_base (section_at known (last_of pairs)) names base ≡ false
  no_bases names base = and_right _ _ (none names)
    where
      none : (names : List (List ℕ)) → list_any (λ name. is_some (section_at known (last_of pairs) name) && is_first_of base name) names ≡ false
      none [] = refl
      none (name ∷ names) = ap (λ t. t || list_any (λ name. is_some (section_at known (last_of pairs) name) && is_first_of base name) names) (first_of_none base name) ∙ none names

  none_used : (names : List (List ℕ)) (name : List ℕ) → is_used (section_at known (last_of pairs)) names name ≡ false
  none_used names name = go (numbered name)
    where
      go : (n : Option (List ℕ × ℕ))
          → option_map_or (λ n. is_base (section_at known (last_of pairs)) names n.0 && (ltb n.1 (length (sections_of (section_at known (last_of pairs)) n.0)) && bytes_eq name (section_name n.0 n.1))) n false ≡ false
      go None = refl
      go (Some n) = ap (λ t. t && (ltb n.1 (length (sections_of (section_at known (last_of pairs)) n.0)) && bytes_eq name (section_name n.0 n.1))) (no_bases names n.0)

  pub parameters_are_pairs : (name : List ℕ) → parameters_in known pairs name ≡ last_of pairs name
  unfolding joined_at
  parameters_are_pairs name =
      let names = possible_names (map (λ pair. pair.0) pairs) in
      let at = section_at known (last_of pairs) in
      ap (λ t. option_or (cond t None (option_map alone (at name))) (cond (is_base at names name) (Some (joined (sections_of at name))) None)) (none_used names name)
      ∙ ap (λ t. option_or (option_map alone (at name)) (cond t (Some (joined (sections_of at name))) None)) (no_bases names name)
      ∙ ap (λ p. option_or (option_map alone p) None) (section_is name)
      ∙ alone_text (last_of pairs name)
    where
      alone_text : (t : Option (List ℕ)) → option_or (option_map alone (option_map text t)) None ≡ t
      alone_text None = refl
      alone_text (Some t) = refl
