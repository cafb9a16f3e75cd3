-- Whole delimiter lines split a multipart whose text is of the grammar as all lines that begin with its dash-boundary do.
use Rattle.std.proofs.Common.{◌≡◌, ◌∙◌, ◌<◌, ◌≤◌, ◌+◌, ◌-◌, ℕ, zero, suc, Bool, true, false, cond, List, [], ◌∷◌, ◌++◌}
use Rattle.std.proofs.Common.{length, drop, map, Option, Some, None, refl, sym, ap, subst, inl, inr, arith, length-drop}
use Rattle.std.specs.Prelude.{◌⊎◌, ◌&&◌, ◌||◌, ◌==◌, codes, filter_map, is_none, nat_lt, option_map}
use Rattle.std.specs.List.{cons_option, list_all}
use Rattle.std.specs.Option.{option_map_or}
use Rattle.std.proofs.lemmas.Bool.{cases_lt, cond-false, cond-true, eq-eqb, false≢true, le-ltb, lt-ltb}
use Rattle.std.proofs.lemmas.Bool.{and_from, and_parts, cases_Bool, not-true, or_parts}
use Rattle.std.proofs.lemmas.List.{drop-drop}
use Rattle.mail_codec.specs.Ascii.{carriage_return, line_feed}
use Rattle.mail_codec.specs.Places.{begins, byte_place, first_place, has_prefix, least, values_below}
use Rattle.mail_codec.proofs.lemmas.Places.{first_place-past, least-before}
use Rattle.mailparse.specs.Block.{blank_line, headers_end}
use Rattle.mailparse.specs.ContentType.{ContentType}
use Rattle.mailparse.specs.Delimiters.{Cut, before_line_end, cut_parts_as, delimiter_from, delimiter_from_as}
use Rattle.mailparse.specs.Delimiters.{ends_line, first_part_as, is_blank_line, is_close_delimiter, is_delimiter}
use Rattle.mailparse.specs.Delimiters.{next_part_as, part_after, part_range_as, part_start_as, part_starts_as, preamble_range_as}
use Rattle.mailparse.specs.Delimiters.{starts_line}
use Rattle.mailparse.specs.Header.{is_line_feed}
use Rattle.mailparse.specs.Mail.{cut_of, cut_of_as, whole_lines_for}
use Rattle.mailparse.specs.Options.{◌>>=◌}
use Rattle.mailparse.specs.Ranges.{Range}
use Rattle.mailparse.proofs.lemmas.Delimiters.{delimiter_from-out}
use Rattle.mailparse.proofs.lemmas.Delimiters.{next_part_as-bounds}
use Rattle.mail_check.specs.Bytes.{is_line_left}
use Rattle.mail_check.specs.Multiparts.{without_dashes}
use Rattle.mail_grammar.specs.Delimiters.{EndsLine, no_more_bytes, line_ends, HasParts}
use Rattle.mail_grammar.specs.Fields.{IsBoundary}
use Rattle.mail_check_laws.proofs.lemmas.Delimiters.{Opened, ends_there, parts_found, starts}
use Rattle.mail_check_laws.proofs.lemmas.Delimiters as strict_lines
use Rattle.mail_grammar.proofs.lemmas.Boundaries.{boundary_inner, is_inner}

-- ---- ends of lines

left_blank : (xs : List ℕ) → EndsLine xs → is_blank_line xs ≡ true
unfolding is_blank_line
left_blank xs no_more_bytes = refl
left_blank xs (line_ends rest (inl e) made) =
    subst (λ (ys : List ℕ). is_blank_line ys ≡ true) (sym (made ∙ ap (λ (line : List ℕ). line ++ rest) e)) refl
left_blank xs (line_ends rest (inr e) made) =
    subst (λ (ys : List ℕ). is_blank_line ys ≡ true) (sym (made ∙ ap (λ (line : List ℕ). line ++ rest) e)) refl

left_ends : (rest : List ℕ) → is_line_left (without_dashes rest) ≡ true → ends_line rest ≡ true
unfolding ends_line
left_ends rest h = by_dashes (has_prefix (codes "--") rest) h
  where
    by_dashes : (t : Bool) → is_line_left (cond t (drop 2 rest) rest) ≡ true
        → cond t (is_blank_line (drop 2 rest)) (is_blank_line rest) ≡ true
    by_dashes true h = left_blank (drop 2 rest) (strict_lines.ends_line (drop 2 rest) h)
    by_dashes false h = left_blank rest (strict_lines.ends_line rest h)

-- ---- the text after a header block

module _ (dash bytes : List ℕ) (i : ℕ) (some : 0 < length dash) (is : HasParts dash true (drop i bytes))
    (plain : list_all is_inner dash ≡ true) where
  opened : Opened dash true (drop i bytes)
  opened = parts_found dash plain some true (drop i bytes) is

  no_dash_past : (d : List ℕ) → 0 < length d → has_prefix d [] ≡ true → ⊥
  no_dash_past [] low h = omega (arith, low)
  no_dash_past (x ∷ d) low h = let none : false ≡ true = h in absurd (cc)

  -- each dash-boundary is a whole line
  whole_at : (p : ℕ) → i ≤ p → has_prefix dash (drop p bytes) ≡ true → ends_line (drop (p + length dash) bytes) ≡ true
  whole_at p low h =
      let same : drop (p - i) (drop i bytes) ≡ drop p bytes =
      drop-drop (p - i) i bytes ∙ ap (λ (n : ℕ). drop n bytes) {x = i + (p - i)} {y = p} (omega (arith, low)) in
      elim (cases_Bool (has_prefix dash (drop (p - i) (drop i bytes)))) [
        | inr e ↦ let no : has_prefix dash (drop p bytes) ≡ false =
            subst (λ (xs : List ℕ). has_prefix dash xs ≡ false) same e in absurd (cc)
        | inl e ↦
            let found = opened.closed.sound (p - i) (within (p - i) e) e in
            let left = left_ends (drop (length dash) (drop (p - i) (drop i bytes))) found.1 in
            subst (λ (xs : List ℕ). ends_line xs ≡ true) (ap (drop (length dash)) same ∙ drop-drop (length dash) p bytes) left
      ]
    where
      within : (n : ℕ) → has_prefix dash (drop n (drop i bytes)) ≡ true → n < length (drop i bytes)
      within n e = go n (drop i bytes) e
        where
          go : (n : ℕ) (xs : List ℕ) → has_prefix dash (drop n xs) ≡ true → n < length xs
          go zero [] e = absurd (no_dash_past dash some e)
          go zero (x ∷ xs) e = omega arith
          go (suc n) [] e = absurd (no_dash_past dash some e)
          go (suc n) (x ∷ xs) e = let more = go n xs e in omega (arith, more)

  same_test : (start p : ℕ) → i ≤ p
      → (is_delimiter dash bytes start p && ends_line (drop (p + length dash) bytes)) ≡ is_delimiter dash bytes start p
  same_test start p low = elim (cases_Bool (is_delimiter dash bytes start p)) [
    | inr e ↦ ap (λ (t : Bool). t && ends_line (drop (p + length dash) bytes)) e ∙ sym e
    | inl e ↦
        ap (λ (t : Bool). is_delimiter dash bytes start p && t)
        (whole_at p low (and_parts (starts_line bytes start p) (has_prefix dash (drop p bytes)) e).1)
        ∙ and_true (is_delimiter dash bytes start p)
  ]
    where
      and_true : (t : Bool) → (t && true) ≡ t
      and_true true = refl
      and_true false = refl

  same_from : (start : ℕ) → i ≤ start → delimiter_from_as true dash bytes start ≡ delimiter_from dash bytes start
  unfolding delimiter_from
  same_from start low =
      let tests : (λ n. is_delimiter dash bytes start (start + n) && ends_line (drop ((start + n) + length dash) bytes))
      ≡ (λ n. is_delimiter dash bytes start (start + n)) = λ j n. same_test start (start + n) (omega (arith, low)) j in
      ap (λ (test : ℕ → Bool). cond (nat_lt (least test (length bytes - start)) (length bytes - start))
      (Some (start + least test (length bytes - start))) None) tests

  -- ---- the parts

  -- an offset, if there is one, is not before the text
  abbrev AtLeast : Option ℕ → Type 0
  AtLeast None = Unit
  AtLeast (Some s) = i ≤ s

  after_low : (p : ℕ) → i ≤ p → AtLeast (part_after dash bytes p)
  after_low p low = by_place (byte_place (drop (p + length dash) bytes) 10)
    where
      by_place : (o : Option ℕ) → AtLeast (option_map (λ k. suc ((p + length dash) + k)) o)
      by_place None = tt
      by_place (Some k) = omega (arith, low)

  first_low : AtLeast (first_part_as false dash bytes i)
  first_low = by_delimiter (delimiter_from dash bytes i) refl
    where
      by_delimiter : (o : Option ℕ) → delimiter_from dash bytes i ≡ o → AtLeast (o >>= part_after dash bytes)
      by_delimiter None e = tt
      by_delimiter (Some p) e = after_low p (delimiter_from-out dash bytes i p e).low

  next_low : (s : ℕ) → i ≤ s → AtLeast (next_part_as false dash bytes s)
  next_low s low = by_next (next_part_as false dash bytes s) refl
    where
      by_next : (o : Option ℕ) → next_part_as false dash bytes s ≡ o → AtLeast o
      by_next None e = tt
      by_next (Some next) e = let bounds = next_part_as-bounds false dash bytes s next e in omega (arith, low, bounds.0)

  same_next : (s : ℕ) → i ≤ s → next_part_as true dash bytes s ≡ next_part_as false dash bytes s
  same_next s low =
      ap (λ (o : Option ℕ). o >>= λ p. cond (is_close_delimiter dash bytes p) None (part_after dash bytes p)) (same_from s low)

  same_first : first_part_as true dash bytes i ≡ first_part_as false dash bytes i
  same_first = ap (λ (o : Option ℕ). o >>= part_after dash bytes) (same_from i (omega arith))

  after_start : (o : Option ℕ) → AtLeast o
      → ((o >>= next_part_as true dash bytes) ≡ (o >>= next_part_as false dash bytes)) × AtLeast
      (o >>= next_part_as false dash bytes)
  after_start None low = (refl, tt)
  after_start (Some s) low = (same_next s low, next_low s low)

  same_start : (first : Option ℕ) → AtLeast first → (j : ℕ)
      → (part_start_as true dash bytes first j ≡ part_start_as false dash bytes first j) × AtLeast
      (part_start_as false dash bytes first j)
  same_start first low zero = (refl, low)
  same_start first low (suc j) =
      let before = same_start first low j in
      let next = after_start (part_start_as false dash bytes first j) before.1 in
      (ap (λ (o : Option ℕ). o >>= next_part_as true dash bytes) before.0 ∙ next.0, next.1)

  same_range : (s : ℕ) → i ≤ s → part_range_as true dash bytes s ≡ part_range_as false dash bytes s
  same_range s low =
      ap (λ (o : Option ℕ). let end : ℕ = option_map_or (before_line_end bytes s) o
      (length bytes) in let range : Range = record { start = s; end = end } in range) (same_from s low)

  same_ranges : (n : ℕ) (f g : ℕ → Option ℕ) → ((j : ℕ) → f j ≡ g j) → ((j : ℕ) → AtLeast (g j))
      → map (part_range_as true dash bytes) (filter_map (λ start. start) (values_below n f))
      ≡ map (part_range_as false dash bytes) (filter_map (λ start. start) (values_below n g))
  same_ranges zero f g same low = refl
  same_ranges (suc n) f g same low =
      ap (λ (o : Option ℕ). map (part_range_as true dash bytes)
      (cons_option o (filter_map (λ start. start) (values_below n (λ k. f (suc k)))))) (same 0)
      ∙ by_first (g 0) (low 0) (filter_map (λ start. start) (values_below n (λ k. f (suc k))))
      (filter_map (λ start. start) (values_below n (λ k. g (suc k))))
      (same_ranges n (λ k. f (suc k)) (λ k. g (suc k)) (λ j. same (suc j)) (λ j. low (suc j)))
    where
      by_first : (o : Option ℕ) → AtLeast o → (xs ys : List ℕ)
          → map (part_range_as true dash bytes) xs ≡ map (part_range_as false dash bytes) ys
          → map (part_range_as true dash bytes) (cons_option o xs) ≡ map (part_range_as false dash bytes) (cons_option o ys)
      by_first None low xs ys more = more
      by_first (Some s) low xs ys more = λ j. same_range s low j ∷ more j

  -- ---- the preamble

  opening : (o : ℕ) → starts true (drop i bytes) o ≡ true → has_prefix dash (drop o (drop i bytes)) ≡ true
      → is_delimiter dash bytes i (i + o) ≡ true
  opening o line h =
      and_from (starts_line bytes i (i + o)) (has_prefix dash (drop (i + o) bytes)) (by_offset o line)
      (subst (λ (xs : List ℕ). has_prefix dash xs ≡ true) (drop-drop o i bytes) h)
    where
      by_offset : (o : ℕ) → starts true (drop i bytes) o ≡ true → starts_line bytes i (i + o) ≡ true
      by_offset zero line =
          ap (λ (t : Bool). t || begins is_line_feed (drop ((i + 0) - 1) bytes)) (eq-eqb (i + 0) i (omega arith))
      by_offset (suc p) line =
          or_true ((i + suc p) == i) (begins is_line_feed (drop ((i + suc p) - 1) bytes))
          (subst (λ (xs : List ℕ). begins is_line_feed xs ≡ true)
          (drop-drop p i bytes ∙ ap (λ (n : ℕ). drop n bytes) {x = i + p} {y = (i + suc p) - 1} (omega arith)) line)
        where
          or_true : (s t : Bool) → t ≡ true → (s || t) ≡ true
          or_true true t e = refl
          or_true false t e = e

  some_delimiter : (p : ℕ) × (delimiter_from dash bytes i ≡ Some p)
  unfolding delimiter_from
  some_delimiter =
      let test : ℕ → Bool = λ n. is_delimiter dash bytes i (i + n) in
      let early = opened.early in
      let low = opened.closed.within in
      let size = length-drop i bytes in
      let is_there = opening opened.o (opened.closed.sound opened.o (omega (arith, early, low)) opened.opens).0 opened.opens in
      elim (cases_lt (least test (length bytes - i)) (length bytes - i)) [
        | inl l ↦ (i + least test (length bytes - i), cond-true _ _ _ (lt-ltb _ _ l))
        | inr g ↦
            let no : test opened.o ≡ false = least-before test (length bytes - i) opened.o (omega (arith, g, early, low, size)) in
            absurd (false≢true (sym no ∙ is_there))
      ]

  same_body : preamble_range_as true dash bytes i ≡ preamble_range_as false dash bytes i
  same_body =
      let found = some_delimiter in
      let body : ℕ → Option ℕ → Range =
      λ otherwise o. record { start = i; end = option_map_or (before_line_end bytes i) o otherwise } in
      ap (body (length bytes)) (same_from i (omega arith) ∙ found.1) ∙ ap (body i) (sym found.1)

  -- ---- both

  same_cut : cut_parts_as true dash bytes i ≡ cut_parts_as false dash bytes i
  unfolding cut_parts_as part_starts_as
  same_cut =
      let starts = same_start (first_part_as false dash bytes i) first_low in
      let parts =
      ap (λ (o : Option ℕ). map (part_range_as true dash bytes)
      (filter_map (λ start. start) (values_below (suc (length bytes)) (part_start_as true dash bytes o)))) same_first
      ∙ same_ranges (suc (length bytes)) (part_start_as true dash bytes (first_part_as false dash bytes i))
      (part_start_as false dash bytes (first_part_as false dash bytes i))
      (λ j. (starts j).0) (λ j. (starts j).1) in
      λ j. record { body = same_body j; parts = parts j }

-- ---- types

unfed : (dash : List ℕ) → list_all is_inner dash ≡ true → first_place (begins (λ b. b == line_feed)) dash ≡ length dash
unfed [] all = refl
unfed (b ∷ rest) all =
    let parts = and_parts (is_inner b) (list_all is_inner rest) all in
    let lines = or_parts (b == carriage_return) (b == line_feed) (not-true (b == carriage_return || b == line_feed) parts.0) in
    first_place-past (begins (λ b. b == line_feed)) b rest lines.1 ∙ ap suc (unfed rest parts.1)

whole_for : (dash : List ℕ) → list_all is_inner dash ≡ true → whole_lines_for true dash ≡ true
whole_for dash all =
    let e = unfed dash all in
    ap is_none (cond-false (nat_lt (first_place (begins (λ b. b == line_feed)) dash) (length dash))
    (Some (first_place (begins (λ b. b == line_feed)) dash)) None
    (le-ltb (first_place (begins (λ b. b == line_feed)) dash) (length dash) (omega (arith, e))))

-- a message whose type is no multipart, or a multipart with such a text
pub cuts_alike : (ctype : ContentType) (bytes : List ℕ) (i : ℕ)
    → (has_prefix (codes "multipart") ctype.mimetype ≡ false) ⊎
    ((text : List ℕ) × (ctype.params (codes "boundary") ≡ Some text) × IsBoundary 70 text × HasParts (codes "--" ++ text) true
    (drop i bytes))
    → cut_of_as true ctype bytes i ≡ cut_of ctype bytes i
cuts_alike ctype bytes i is = by_dash (has_prefix (codes "multipart") ctype.mimetype) refl is
  where
    none : Cut
    none = record { body = record { start = i; end = length bytes }; parts = [] }

    by_dash : (t : Bool) → has_prefix (codes "multipart") ctype.mimetype ≡ t
        → (has_prefix (codes "multipart") ctype.mimetype ≡ false) ⊎
        ((text : List ℕ) × (ctype.params (codes "boundary") ≡ Some text) × IsBoundary 70 text × HasParts
        (codes "--" ++ text) true (drop i bytes))
        → option_map_or (λ dash. cut_parts_as (whole_lines_for true dash) dash bytes i)
        (cond t (option_map (λ boundary. codes "--" ++ boundary) (ctype.params (codes "boundary"))) None) none
        ≡ option_map_or (λ dash. cut_parts_as (whole_lines_for false dash) dash bytes i)
        (cond t (option_map (λ boundary. codes "--" ++ boundary) (ctype.params (codes "boundary"))) None) none
    by_dash false e is = refl
    by_dash true e (inl f) = absurd (false≢true (sym f ∙ e))
    by_dash true e (inr (text, found, is, parts)) =
        let dash : List ℕ = codes "--" ++ text in
        let plain : list_all is_inner dash ≡ true = boundary_inner 70 text is in
        let both : Bool → Option (List ℕ) → Cut =
        λ w o. option_map_or (λ dash. cut_parts_as (whole_lines_for w dash) dash bytes i)
        (option_map (λ boundary. codes "--" ++ boundary) o) none in
        ap (both true) found ∙ ap (λ (w : Bool). cut_parts_as w dash bytes i) (whole_for dash plain)
        ∙ same_cut dash bytes i (omega arith) parts plain
        ∙ ap (both false) (sym found)
