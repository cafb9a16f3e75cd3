-- The parameters do not depend on the order in which the names are walked.
use Rattle.std.proofs.Common.{◌≡◌, ◌⊎◌, inl, inr, ℕ, Bool, true, false, not, ◌&&◌, ◌||◌, cond, List, [], ◌∷◌, ◌++◌, ltb, length, map, Option, Some, None, is_some, option_map, BTreeMap, String, string_bytes, refl, sym, ap, ◌∙◌, ⊎_elim}
use Rattle.std.proofs.lemmas.Bool.{and_parts, cond-false, or_left, or_right, true_from_ne_false}
use Rattle.std.proofs.lemmas.List.Folds.{list_any-append}
use Rattle.std.specs.BTreeMap.{get_by_text}
use Rattle.std.specs.Global.{Global}
use Rattle.std.specs.List.{list_any}
use Rattle.std.specs.Map.{update, update_all}
use Rattle.std.specs.Option.{option_map_or, option_or}
use Rattle.std.specs.Str.{bytes_eq}
use Rattle.mail_codec.specs.Charset.{Charsets}
use Rattle.mailparse.specs.Continuations as joined
use Rattle.mailparse.specs.Sections as words
use Rattle.mailparse.specs.Continuations.{is_base, is_first_of, joined_at, parameters_in, possible_names}
use Rattle.mailparse.specs.ExtendedValues.{section_at, is_extended, name_under, starred}
use Rattle.mailparse.specs.Sections.{is_text}
use Rattle.mailparse.specs.private.Continuations.{names_in, names_of_sections}
use Rattle.mailparse.specs.private.Sections.{section_view, sections_at, stored_section}
use Rattle.mailparse.specs.Pairs.{Texts, last_of, text_at}
use Rattle.mailparse.specs.private.Filled.{holds_name}
use Rattle.mailparse.specs.declared.parameters.sections.Sections.{Sections}
use Rattle.mailparse.specs.declared.parameters.sections.Section.{Section}
use Rattle.mailparse.proofs.lemmas.ExtendedValuesSections.{extended_none}
use Rattle.mailparse.proofs.lemmas.Sections.{named, section_none, unnamed}
use Rattle.mailparse.proofs.lemmas.CharsetSources.{name_under_starred}
use Rattle.mailparse.proofs.lemmas.ExtendedValues.{equal_bytes, is_some_map, same_bytes}

-- ---- a test that passes only names of two lists says the same of both

pub or_either : (a b : Bool) → (a || b) ≡ true → (a ≡ true) ⊎ (b ≡ true)
or_either true b h = inl refl
or_either false b h = inr h

any_of : (test : List ℕ → Bool) (names : List (List ℕ)) → list_any test names ≡ true → (z : List ℕ) × (test z ≡ true)
any_of test [] h = absurd (cc)
any_of test (n ∷ names) h = ⊎_elim (λ here. (n, here)) (λ rest. any_of test names rest) (or_either (test n) (list_any test names) h)

any_at : (test : List ℕ → Bool) (names : List (List ℕ)) (z : List ℕ) → test z ≡ true → holds_name names z ≡ true → list_any test names ≡ true
any_at test [] z t h = absurd (cc)
any_at test (n ∷ names) z t h =
    ⊎_elim (λ here. or_left (test n) (list_any test names) (ap test (equal_bytes n z here) ∙ t)) (λ rest. or_right (test n) (list_any test names) (any_at test names z t rest))
    (or_either (bytes_eq n z) (holds_name names z) h)

any_same : (test : List ℕ → Bool) (xs ys : List (List ℕ)) → ((z : List ℕ) → test z ≡ true → holds_name xs z ≡ true) → ((z : List ℕ) → test z ≡ true → holds_name ys z ≡ true)
    → list_any test xs ≡ list_any test ys
any_same test xs ys inx iny = go (list_any test xs) (list_any test ys) refl refl
  where
    go : (a b : Bool) → list_any test xs ≡ a → list_any test ys ≡ b → a ≡ b
    go true true p q = refl
    go false false p q = refl
    go true false p q = let z = any_of test xs p in let clash : true ≡ false = sym (any_at test ys z.0 z.1 (iny z.0 z.1)) ∙ q in absurd (cc)
    go false true p q = let z = any_of test ys q in let clash : true ≡ false = sym (any_at test xs z.0 z.1 (inx z.0 z.1)) ∙ p in absurd (cc)

base_names : (at : List ℕ → Option words.Section) (xs ys : List (List ℕ)) → ((z : List ℕ) → is_some (at z) ≡ true → holds_name xs z ≡ true)
    → ((z : List ℕ) → is_some (at z) ≡ true → holds_name ys z ≡ true) → (q : List ℕ) → is_base at xs q ≡ is_base at ys q
base_names at xs ys inx iny q =
    ap (λ b. not (is_text (at q)) && b)
    (any_same (λ n. is_some (at n) && is_first_of q n) xs ys (λ z h. inx z (and_parts _ _ h).0) (λ z h. iny z (and_parts _ _ h).0))

-- what a name has in the end, by a test of the bases
abbrev joined_by : (List ℕ → Bool) → (List ℕ → Option words.Section) → List ℕ → Option (List ℕ)
joined_by base at name =
    option_or
    (cond (option_map_or (λ n. base n.0 && (ltb n.1 (length (joined.sections_of at n.0)) && bytes_eq name (words.section_name n.0 n.1))) (words.numbered name) false)
    None (option_map words.alone (at name)))
    (cond (base name) (Some (joined.joined (joined.sections_of at name))) None)

by_base : (at : List ℕ → Option words.Section) (names : List (List ℕ)) (q : List ℕ) → joined_at at names q ≡ joined_by (is_base at names) at q
unfolding joined_at
by_base at names q = refl

joined_same : (at : List ℕ → Option words.Section) (xs ys : List (List ℕ)) → ((z : List ℕ) → is_some (at z) ≡ true → holds_name xs z ≡ true)
    → ((z : List ℕ) → is_some (at z) ≡ true → holds_name ys z ≡ true) → (q : List ℕ) → joined_at at xs q ≡ joined_at at ys q
joined_same at xs ys inx iny q =
    let same : is_base at xs ≡ is_base at ys = λ i b. base_names at xs ys inx iny b i in
    by_base at xs q ∙ ap (λ base. joined_by base at q) same ∙ sym (by_base at ys q)

-- ---- the names that have an entry

some_of : {A : Type 0} (o : Option A) → o ≡ None → is_some o ≡ true → ⊥
some_of o e h = let clash : false ≡ true = sym (ap is_some e) ∙ h in cc

last_holds : (pairs : List (List ℕ × List ℕ)) (start : Texts) (q : List ℕ) → is_some (update_all bytes_eq start pairs q) ≡ true
    → (is_some (start q) ≡ true) ⊎ (holds_name (map (λ p. p.0) pairs) q ≡ true)
last_holds [] start q h = inl h
last_holds (p ∷ pairs) start q h =
    ⊎_elim (λ before. go (bytes_eq p.0 q) refl before) (λ rest. inr (or_right (bytes_eq p.0 q) (holds_name (map (λ r. r.0) pairs) q) rest))
    (last_holds pairs (update bytes_eq start p.0 (Some p.1)) q h)
  where
    go : (b : Bool) → bytes_eq p.0 q ≡ b → is_some (cond (bytes_eq p.0 q) (Some p.1) (start q)) ≡ true → (is_some (start q) ≡ true) ⊎ (holds_name (map (λ r. r.0) (p ∷ pairs)) q ≡ true)
    go true is some = inr (or_left (bytes_eq p.0 q) (holds_name (map (λ r. r.0) pairs) q) is)
    go false is some = inl (sym (ap is_some (cond-false _ (Some p.1) (start q) is)) ∙ some)

key_held : (pairs : List (List ℕ × List ℕ)) (q : List ℕ) → is_some (last_of pairs q) ≡ true → holds_name (map (λ p. p.0) pairs) q ≡ true
key_held pairs q h = ⊎_elim (λ none. let clash : false ≡ true = none in absurd (cc)) (λ held. held) (last_holds pairs (λ _. None) q h)

names_key : (keys : List (List ℕ)) (q : List ℕ) → holds_name keys q ≡ true → holds_name (possible_names keys) q ≡ true
names_key [] q h = absurd (cc)
names_key (k ∷ keys) q h =
    ⊎_elim (λ here. or_left (bytes_eq k q) _ here) (λ rest. or_right (bytes_eq k q) _ (or_right (bytes_eq (name_under k) q) _ (names_key keys q rest)))
    (or_either (bytes_eq k q) (holds_name keys q) h)

names_under : (keys : List (List ℕ)) (q : List ℕ) → holds_name keys (starred q) ≡ true → holds_name (possible_names keys) q ≡ true
names_under [] q h = absurd (cc)
names_under (k ∷ keys) q h =
    ⊎_elim
    (λ here. or_right (bytes_eq k q) _ (or_left (bytes_eq (name_under k) q) _ (same_bytes (name_under k) q (ap name_under (equal_bytes k (starred q) here) ∙ name_under_starred q))))
    (λ rest. or_right (bytes_eq k q) _ (or_right (bytes_eq (name_under k) q) _ (names_under keys q rest)))
    (or_either (bytes_eq k (starred q)) (holds_name keys (starred q)) h)

pub section_named : (known : Charsets) (pairs : List (List ℕ × List ℕ)) (q : List ℕ) → is_some (section_at known (last_of pairs) q) ≡ true → holds_name (possible_names (map (λ p. p.0) pairs)) q ≡ true
section_named known pairs q h = go (last_of pairs q) refl
  where
    without_key : last_of pairs q ≡ None → (b : Bool) → is_extended (last_of pairs) q ≡ b → holds_name (possible_names (map (λ p. p.0) pairs)) q ≡ true
    without_key none true is = names_under (map (λ p. p.0) pairs) q (key_held pairs (starred q) (and_parts _ _ is).0)
    without_key none false is = absurd (some_of _ (section_none known (last_of pairs) q none ∙ extended_none known (last_of pairs) q is) h)

    go : (o : Option (List ℕ)) → last_of pairs q ≡ o → holds_name (possible_names (map (λ p. p.0) pairs)) q ≡ true
    go (Some v) is = names_key (map (λ p. p.0) pairs) q (key_held pairs q (ap is_some is))
    go None is = without_key is (is_extended (last_of pairs) q) refl

entry_named : {X : Type 0} (m : BTreeMap (String Global) X) (q : List ℕ) → is_some (get_by_text m q) ≡ true → holds_name (names_in m) q ≡ true
entry_named m q h = true_from_ne_false _ (λ is. some_of _ (unnamed q m is) h)

-- the names of sections are those that have an entry
holds_both : (xs ys : List (List ℕ)) (q : List ℕ) → holds_name (xs ++ ys) q ≡ (holds_name xs q || holds_name ys q)
holds_both xs ys q = list_any-append (λ n. bytes_eq n q) xs ys

pub sections_named : {C : Type 0} (reads : C → List ℕ → List ℕ) (sections : Sections C) (q : List ℕ) → is_some (stored_section reads sections q) ≡ true → holds_name (names_of_sections sections) q ≡ true
sections_named {C} reads sections q h = holds_both (names_in sections.texts) (names_in sections.extended) q ∙ go (get_by_text sections.extended q) refl h
  where
    go : (o : Option (Section C)) → get_by_text sections.extended q ≡ o → is_some (option_or (option_map (section_view reads) (get_by_text sections.extended q)) (option_map words.text (text_at sections.texts q))) ≡ true
        → (holds_name (names_in sections.texts) q || holds_name (names_in sections.extended) q) ≡ true
    go (Some p) is some = or_right _ _ (entry_named sections.extended q (ap is_some is))
    go None is some =
        or_left _ _ (entry_named sections.texts q
        (sym (is_some_map string_bytes (get_by_text sections.texts q)) ∙ sym (is_some_map words.text (text_at sections.texts q))
        ∙ sym (ap (λ o. is_some (option_or (option_map (section_view reads) o) (option_map words.text (text_at sections.texts q)))) is) ∙ some))

pub named_sections : {C : Type 0} (reads : C → List ℕ → List ℕ) (sections : Sections C) (q : List ℕ) → holds_name (names_of_sections sections) q ≡ true → is_some (stored_section reads sections q) ≡ true
named_sections reads sections q h =
    ⊎_elim
    (λ text. second (sections_at reads sections.extended q) _ (is_some_map words.text (text_at sections.texts q) ∙ is_some_map string_bytes (get_by_text sections.texts q) ∙ named q sections.texts text))
    (λ extended. first (option_map words.text (text_at sections.texts q)) _ (is_some_map (section_view reads) (get_by_text sections.extended q) ∙ named q sections.extended extended))
    (or_either _ _ (sym (holds_both (names_in sections.texts) (names_in sections.extended) q) ∙ h))
  where
    second : (o p : Option words.Section) → is_some p ≡ true → is_some (option_or o p) ≡ true
    second None p h = h
    second (Some x) p h = refl

    first : (p o : Option words.Section) → is_some o ≡ true → is_some (option_or o p) ≡ true
    first p None h = absurd (cc)
    first p (Some x) h = refl

pub resolved : (known : Charsets) (keys : Texts) (at : List ℕ → Option words.Section) (names : List (List ℕ)) (given : Option (List ℕ)) (q : List ℕ) → ((z : List ℕ) → at z ≡ section_at known keys z)
    → ((z : List ℕ) → is_some (at z) ≡ true → holds_name names z ≡ true) → given ≡ joined_at at names q
    → (pairs : List (List ℕ × List ℕ)) → ((z : List ℕ) → keys z ≡ last_of pairs z) → given ≡ parameters_in known pairs q
resolved known keys at names given q read have made pairs holds =
    let same_keys : keys ≡ last_of pairs = λ i z. holds z i in
    let same : at ≡ section_at known (last_of pairs) = λ i z. (read z ∙ ap (λ k. section_at known k z) same_keys) i in
    made
    ∙ joined_same at names (possible_names (map (λ p. p.0) pairs)) have (λ z h. section_named known pairs z (sym (ap (λ a. is_some (a z)) same) ∙ h)) q
    ∙ ap (λ a. joined_at a (possible_names (map (λ p. p.0) pairs)) q) same
