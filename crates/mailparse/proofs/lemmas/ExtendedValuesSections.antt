-- How the values of the extended names are read.
use Rattle.std.proofs.Common.{◌≡◌, ℕ, ◌+◌, ◌<◌, ◌≤◌, Bool, true, false, not, ◌&&◌, ◌||◌, cond, eqb, List, [], ◌∷◌, ◌++◌, length, take, get_or, map, Option, Some, None, is_some, option_map, refl, sym, ap, subst, ◌∙◌, arith, ⊎_elim}
use Rattle.std.proofs.Math.ListN.{get_or-map}
use Rattle.std.proofs.Math.Bool.{and-or_distrib_right, or-and_distrib_right, or-false}
use Rattle.std.proofs.lemmas.Bool.{and_parts, false≢true, or_right, and_from, and_right, cases_order, cond-false, cond-true, eq-eqb, false_from_ne_true, ne_eqb}
use Rattle.std.proofs.lemmas.List.{map-id, get_or_default, length-map, take_all}
use Rattle.std.proofs.lemmas.Simd.{map-map}
use Rattle.std.proofs.lemmas.List.Folds.{list_any_at, list_any_more}
use Rattle.std.specs.List.{All}
use Rattle.std.specs.Option.{unwrap_or}
use Rattle.std.specs.Str.{bytes_eq}
use Rattle.mail_codec.specs.Charset.{Charsets}
use Rattle.mailparse.specs.Sections as words
use Rattle.mailparse.specs.ExtendedValues.{extended_at, charset_source, extended_value, starred, is_extended, label_in, octets_of, reading_of, text_in}
use Rattle.mailparse.specs.private.ExtendedValues.{Found, IsReading, Read, extended_section, found_by_place, names_of, names_read, read_section, reading_by, reading_view, extended_entries, extended_view}
use Rattle.mailparse.specs.Pairs.{Texts}
use Rattle.mailparse.specs.private.CharsetSources.{AreInOrder, source_place, name_at}
use Rattle.mailparse.specs.private.Filled.{holds_name}
use Rattle.mailparse.specs.declared.parameters.extended_values.Reading.{Reading}
use Rattle.mailparse.specs.declared.parameters.extended_values.names.ExtendedName.{ExtendedName}
use Rattle.mailparse.proofs.lemmas.Filled.{holds_push}
use Rattle.mailparse.proofs.lemmas.CharsetSources.{source_place_within, charset_source_at, is_before, not_itself}
use Rattle.mailparse.proofs.lemmas.ExtendedValues.{equal_bytes, is_some_map, same_bytes}
use Rattle.mailparse.proofs.lemmas.ExtendedValuesNames.{AreExtended, IsFound, IsMapOf, are_extended, at_in, in_found}
use Rattle.percent_encoding.specs.Percent.{percent_decode}

-- Under the charsets that are known.
module _ (known : Charsets) where
  -- the names that were found
  pub names_found : {C : Type 0} (reads : C → List ℕ → List ℕ) (keys : Texts) (entries : List (List ℕ × List ℕ)) (extended : List (ExtendedName C)) → map (extended_view reads) extended ≡ extended_entries known keys entries
      → names_of extended ≡ map (λ (w : Found). w.0) (extended_entries known keys entries)
  names_found reads keys entries extended found = sym (map-map (λ (w : Found). w.0) (extended_view reads) extended) ∙ ap (map (λ (w : Found). w.0)) found

  pub extended_found : {C : Type 0} (reads : C → List ℕ → List ℕ) (keys : Texts) (entries : List (List ℕ × List ℕ)) (extended : List (ExtendedName C)) → IsMapOf keys entries → map (extended_view reads) extended ≡ extended_entries known keys entries
      → AreExtended keys (names_of extended)
  extended_found reads keys entries extended map_of found = subst (AreExtended keys) (sym (names_found reads keys entries extended found)) (are_extended known keys entries map_of)

  -- one by its place
  found_at_place : {C : Type 0} (reads : C → List ℕ → List ℕ) (keys : Texts) (entries : List (List ℕ × List ℕ)) (extended : List (ExtendedName C)) → map (extended_view reads) extended ≡ extended_entries known keys entries
      → (place : ℕ) → place < length extended → IsFound known keys entries (found_by_place (map (extended_view reads) extended) place)
  found_at_place reads keys entries extended found place below =
      let long = ap length found in
      let same = length-map extended (extended_view reads) in
      subst (IsFound known keys entries) (sym (ap (λ ws. get_or ws place ([], [], None)) found))
      (in_found known keys entries _ (at_in ([], [], None) (extended_entries known keys entries) place (omega arith)))

name_by_place : {C : Type 0} (reads : C → List ℕ → List ℕ) (extended : List (ExtendedName C)) (place : ℕ) → (found_by_place (map (extended_view reads) extended) place).0 ≡ name_at (names_of extended) place
name_by_place reads extended place =
    sym (get_or-map (λ (w : Found). w.0) (map (extended_view reads) extended) place ([], [], None)) ∙ ap (λ ns. name_at ns place) (map-map (λ (w : Found). w.0) (extended_view reads) extended)

-- names at different places differ
apart : (names : List (List ℕ)) → AreInOrder names → (i j : ℕ) → i < length names → j < length names → bytes_eq (name_at names i) (name_at names j) ≡ eqb i j
apart names order i j below within =
    ⊎_elim (λ same. same_bytes _ _ (ap (name_at names) same) ∙ sym (eq-eqb i j same))
    (λ other. false_from_ne_true _
    (λ e. ⊎_elim (λ lt. clash (name_at names i) (name_at names j) (equal_bytes _ _ e) (order i j lt within)) (λ gt. clash (name_at names j) (name_at names i) (sym (equal_bytes _ _ e)) (order j i gt below)) other)
    ∙ sym (ne_eqb i j (λ e. ⊎_elim (λ lt. absurd (omega arith)) (λ gt. absurd (omega arith)) other)))
    (cases_order i j)
  where
    clash : (x y : List ℕ) → x ≡ y → is_before x y ≡ true → ⊥
    clash x y e h = let no : false ≡ true = sym (not_itself y) ∙ sym (ap (λ z. is_before z y) e) ∙ h in cc

-- Under the charsets that are known.
module _ (known : Charsets) where
  -- the charset and the bytes of a name, by what was found of it and of its charset source
  reading_found : (keys : Texts) (entries : List (List ℕ × List ℕ)) (w z : Found) → IsMapOf keys entries → IsFound known keys entries w → IsFound known keys entries z → z.0 ≡ charset_source keys w.0
      → reading_of known keys w.0 ≡ z.2
  unfolding reading_of
  reading_found keys entries w z map_of fw fz is_own_source =
      cond-true _ _ _ (and_from _ _ (ap is_some (map_of.holds _ fw.entry)) (ap not fw.none))
      ∙ ap (λ n. known (label_in (extended_value keys n))) (sym is_own_source)
      ∙ ap (λ o. known (label_in (unwrap_or o []))) (map_of.holds _ fz.entry)
      ∙ sym fz.charset

  octets_found : (keys : Texts) (entries : List (List ℕ × List ℕ)) (w : Found) (last : List ℕ) (is_own_source : Bool) → IsMapOf keys entries → IsFound known keys entries w → last ≡ charset_source keys w.0
      → bytes_eq last w.0 ≡ is_own_source → percent_decode (cond is_own_source (text_in w.1) w.1) ≡ octets_of keys w.0
  octets_found keys entries w last is_own_source map_of fw is same =
      sym (ap (λ v. percent_decode (cond (bytes_eq (charset_source keys w.0) w.0) (text_in v) v)) (ap (λ o. unwrap_or o []) (map_of.holds _ fw.entry))
      ∙ ap (λ n. percent_decode (cond (bytes_eq n w.0) (text_in w.1) w.1)) (sym is)
      ∙ ap (λ b. percent_decode (cond b (text_in w.1) w.1)) same)

  -- the entry of the name at an index, if the name at another index is its charset source
  abbrev extended_by : List Found → ℕ → ℕ → Option words.Section
  extended_by found place last =
      let one = found_by_place found place in
      option_map (λ reading. extended_section one.0 reading (percent_decode (cond (eqb last place) (text_in one.1) one.1))) (found_by_place found last).2

  extended_is : {C : Type 0} (reads : C → List ℕ → List ℕ) (keys : Texts) (entries : List (List ℕ × List ℕ)) (extended : List (ExtendedName C)) (place last : ℕ) → IsMapOf keys entries → map (extended_view reads) extended ≡ extended_entries known keys entries
      → place < length extended → last ≡ source_place (names_of extended) (length extended) place
      → extended_by (map (extended_view reads) extended) place last ≡ extended_at known keys (name_at (names_of extended) place)
  extended_is {C} reads keys entries extended place last map_of found below is =
      ap (λ bytes. option_map (λ reading. extended_section w.0 reading bytes) z.2) octets
      ∙ ap (option_map (λ reading. extended_section w.0 reading (octets_of keys w.0))) (sym reading)
      ∙ ap (extended_at known keys) (name_by_place reads extended place)
    where
      names : List (List ℕ)
      names = names_of extended

      long : length names ≡ length extended
      long = length-map extended (λ (v : ExtendedName C). v.name.now)

      all : AreExtended keys names
      all = extended_found known reads keys entries extended map_of found

      w : Found
      w = found_by_place (map (extended_view reads) extended) place

      z : Found
      z = found_by_place (map (extended_view reads) extended) last

      same : last ≡ source_place names (length names) place
      same = is ∙ ap (λ n. source_place names n place) (sym long)

      within : last < length extended
      within = let d = source_place_within names place (omega (arith, long)) in omega (arith, long, same)

      is_own_source : z.0 ≡ charset_source keys w.0
      is_own_source =
          name_by_place reads extended last ∙ ap (name_at names) same
          ∙ charset_source_at keys names all.order all.sound all.complete place (omega (arith, long))
          ∙ ap (charset_source keys) (sym (name_by_place reads extended place))

      fw : IsFound known keys entries w
      fw = found_at_place known reads keys entries extended found place below

      fz : IsFound known keys entries z
      fz = found_at_place known reads keys entries extended found last within

      own : bytes_eq z.0 w.0 ≡ eqb last place
      own =
          ap (λ n. bytes_eq n w.0) (name_by_place reads extended last) ∙ ap (bytes_eq (name_at names last)) (name_by_place reads extended place)
          ∙ apart names all.order last place (omega (arith, long, within)) (omega (arith, long))

      octets : percent_decode (cond (eqb last place) (text_in w.1) w.1) ≡ octets_of keys w.0
      octets = octets_found keys entries w z.0 (eqb last place) map_of fw is_own_source own

      reading : reading_of known keys w.0 ≡ z.2
      reading = reading_found keys entries w z map_of fw fz is_own_source

  -- how the name at a place is read
  pub reading_known : {C : Type 0} (reads : C → List ℕ → List ℕ) (keys : Texts) (entries : List (List ℕ × List ℕ)) (extended : List (ExtendedName C)) (place last : ℕ) → IsMapOf keys entries → map (extended_view reads) extended ≡ extended_entries known keys entries
      → place < length extended → last ≡ source_place (names_of extended) (length extended) place
      → is_some (reading_of known keys (name_at (names_of extended) place)) ≡ is_some (reading_by (map (extended_view reads) extended) place last)
  reading_known reads keys entries extended place last map_of found below is =
      sym (is_some_map _ (reading_of known keys (name_at (names_of extended) place)))
      ∙ ap is_some (sym (extended_is reads keys entries extended place last map_of found below is))
      ∙ is_some_map _ (found_by_place (map (extended_view reads) extended) last).2
      ∙ sym (is_some_map _ (found_by_place (map (extended_view reads) extended) last).2)

  pub reading_made : {C : Type 0} (reads : C → List ℕ → List ℕ) (keys : Texts) (entries : List (List ℕ × List ℕ)) (extended : List (ExtendedName C)) (place last : ℕ) (r : Read) → IsMapOf keys entries
      → map (extended_view reads) extended ≡ extended_entries known keys entries → place < length extended → last ≡ source_place (names_of extended) (length extended) place
      → Some r ≡ reading_by (map (extended_view reads) extended) place last → IsReading known keys r × (r.0 ≡ name_at (names_of extended) place)
  reading_made reads keys entries extended place last r map_of found below is made = go z.2 refl
    where
      w : Found
      w = found_by_place (map (extended_view reads) extended) place

      z : Found
      z = found_by_place (map (extended_view reads) extended) last

      fw : IsFound known keys entries w
      fw = found_at_place known reads keys entries extended found place below

      there : keys (starred w.0) ≡ Some w.1
      there = map_of.holds _ fw.entry

      gives : (charset : List ℕ → List ℕ) → z.2 ≡ Some charset → extended_at known keys w.0 ≡ Some (read_section (w.0, charset, eqb last place) (extended_value keys w.0))
      gives charset e =
          ap (extended_at known keys) (name_by_place reads extended place)
          ∙ sym (extended_is reads keys entries extended place last map_of found below is)
          ∙ ap (option_map (λ c. extended_section w.0 c (percent_decode (cond (eqb last place) (text_in w.1) w.1)))) e
          ∙ ap (λ v. Some (read_section (w.0, charset, eqb last place) v)) (sym (ap (λ o. unwrap_or o []) there))

      go : (o : Option (List ℕ → List ℕ)) → z.2 ≡ o → IsReading known keys r × (r.0 ≡ name_at (names_of extended) place)
      go None e = let clash : Some r ≡ None = made ∙ ap (option_map (λ charset. (w.0, charset, eqb last place))) e in absurd (cc)
      go (Some charset) e =
          let whole : Some r ≡ Some (w.0, charset, eqb last place) = made ∙ ap (option_map (λ c. (w.0, c, eqb last place))) e in
          let same : r ≡ (w.0, charset, eqb last place) = ap (λ o. unwrap_or o r) whole in
          (subst (IsReading known keys) (sym same) (record { valued = ap is_some there; gives = gives charset e }), ap (λ (x : Read). x.0) same ∙ name_by_place reads extended place)

-- ---- a walk over the places

-- the names so far whose values are read, of those that are known
pub names_more : (names : List (List ℕ)) (known : List ℕ → Bool) (place : ℕ) (found : List (List ℕ)) (name q : List ℕ) → place < length names
    → name ≡ name_at names place → known (name_at names place) ≡ true → holds_name found q ≡ (holds_name (take place names) q && known q)
    → holds_name (found ++ name ∷ []) q ≡ (holds_name (take (place + 1) names) q && known q)
names_more names known place found name q below is known_here before =
    holds_push found name q ∙ ap (λ b. b || bytes_eq name q) before
    ∙ or-and_distrib_right (holds_name (take place names) q) (known q) (bytes_eq name q) ∙ ap (λ k. (holds_name (take place names) q || bytes_eq name q) && k) (stays (bytes_eq name q) refl)
    ∙ ap (λ b. b && known q) (sym (list_any_more (λ n. bytes_eq n q) names place [] below ∙ ap (λ n. holds_name (take place names) q || bytes_eq n q) (sym is)))
  where
    stays : (b : Bool) → bytes_eq name q ≡ b → (known q || bytes_eq name q) ≡ known q
    stays true e = or_right _ _ e ∙ sym (ap known (sym (equal_bytes name q e) ∙ is) ∙ known_here)
    stays false e = ap (λ b. known q || b) e ∙ or-false (known q)

pub names_passed : (names : List (List ℕ)) (known : List ℕ → Bool) (place : ℕ) (found : List (List ℕ)) (q : List ℕ) → place < length names
    → known (name_at names place) ≡ false → holds_name found q ≡ (holds_name (take place names) q && known q)
    → holds_name found q ≡ (holds_name (take (place + 1) names) q && known q)
names_passed names known place found q below unknown before =
    let held = holds_name (take place names) q in
    let here = bytes_eq (name_at names place) q in
    let apart : (here && known q) ≡ false = false_from_ne_true _ (λ both. let parts = and_parts _ _ both in false≢true (sym unknown ∙ ap known (equal_bytes _ _ parts.0) ∙ parts.1)) in
    before ∙ sym (and-or_distrib_right held here (known q) ∙ ap (λ b. (held && known q) || b) apart ∙ or-false (held && known q))
    ∙ ap (λ b. b && known q) (sym (list_any_more (λ n. bytes_eq n q) names place [] below))

-- the place of the charset source, as it was read
pub place_read : {C : Type 0} (extended slice : List (ExtendedName C)) (items : List ℕ) (place at : ℕ) → slice ≡ extended → AreInOrder (names_of extended) → length items ≡ length slice
    → (AreInOrder (names_of slice) → (k : ℕ) → k < length slice → get_or items k 0 ≡ source_place (names_of slice) (length slice) k) → place < length extended → at ≡ get_or items place at
    → at ≡ source_place (names_of extended) (length extended) place
place_read extended slice items place at same order long is_own_source below is =
    let len = ap length same in
    is ∙ get_or_default items place at 0 (omega arith)
    ∙ is_own_source (subst (λ ws. AreInOrder (names_of ws)) (sym same) order) place (omega arith)
    ∙ ap (λ ws. source_place (names_of ws) (length ws) place) same

pub place_within : {C : Type 0} (extended : List (ExtendedName C)) (place : ℕ) → place < length extended → source_place (names_of extended) (length extended) place < length extended
place_within {C} extended place below =
    let long = length-map extended (λ (w : ExtendedName C). w.name.now) in
    let within = source_place_within (names_of extended) place (omega arith) in
    let same = ap (λ n. source_place (names_of extended) n place) long in
    omega (arith, within, same)

-- a name that is not extended has nothing
pub extended_none : (known : Charsets) (keys : Texts) (q : List ℕ) → is_extended keys q ≡ false → extended_at known keys q ≡ None
unfolding reading_of
extended_none known keys q h = ap (option_map (λ reading. extended_section q reading (octets_of keys q))) (cond-false _ _ _ h)

-- Under the charsets that are known.
module _ (known : Charsets) where
  -- all extended names were passed
  pub names_all : (keys : Texts) (names : List (List ℕ)) (place : ℕ) → AreExtended keys names → length names ≤ place → (q : List ℕ) (found : List (List ℕ))
      → holds_name found q ≡ (holds_name (take place names) q && is_some (reading_of known keys q)) → holds_name found q ≡ is_some (reading_of known keys q)
  unfolding reading_of
  names_all keys names place all full q found before = before ∙ ap (λ ns. holds_name ns q && is_some (reading_of known keys q)) (take_all place names full) ∙ go (is_extended keys q) refl
    where
      go : (b : Bool) → is_extended keys q ≡ b → (holds_name names q && is_some (reading_of known keys q)) ≡ is_some (reading_of known keys q)
      go false is =
          let none = ap is_some (cond-false (is_extended keys q) (known (label_in (extended_value keys (charset_source keys q)))) None is) in
          and_right _ _ none ∙ sym none
      go true is =
          let at = all.complete q is in
          let some = list_any_at (λ n. bytes_eq n q) names at.0 [] at.1 (same_bytes _ _ at.2) in
          ap (λ b. b && is_some (reading_of known keys q)) some

-- ---- a walk over the readings

-- Under the charsets that are known.
module _ (known : Charsets) where
  pub reading_turn : {C : Type 0} (reads : C → List ℕ → List ℕ) (keys : Texts) (items : List (Reading C)) (k : ℕ) (r : Reading C) → All (IsReading known keys) (map (reading_view reads) items) → k < length items → r ≡ get_or items k r
      → IsReading known keys (reading_view reads r)
  reading_turn reads keys items k r all below is =
      let long = length-map items (reading_view reads) in
      subst (IsReading known keys) (get_or-map (reading_view reads) items k r ∙ ap (reading_view reads) (sym is)) (all k (reading_view reads r) (omega (arith, below, long)))

pub names_of_all : {C : Type 0} (taken items : List (Reading C)) → map (λ r. r) taken ≡ items → names_read taken ≡ names_read items
names_of_all taken items h = ap names_read (sym (map-id taken) ∙ h)
