-- The searches for delimiters find nothing in a text exactly if it is that of a strict multipart.
use Rattle.std.proofs.Common.{◌≡◌, ◌∙◌, ◌+◌, ◌-◌, ◌<◌, ◌≤◌, ℕ, zero, suc, Bool, true, false, not, cond, List, ◌++◌, length, drop, Option, Some, None, refl, sym, ap, subst, inl, inr, arith}
use Rattle.std.specs.Prelude.{◌||◌, ◌==◌, nat_lt, is_none, codes}
use Rattle.std.specs.List.{list_all}
use Rattle.std.proofs.Math.Dec.{eqb-suc-zero}
use Rattle.std.proofs.lemmas.Bool.{cases_lt, eqb-true, le-ltb, lt-ltb}
use Rattle.std.proofs.lemmas.Bool.{and_from, and_left, and_parts, and_right, cases_Bool, not-false, not_from_false, not_from_true, or_from}
use Rattle.std.proofs.lemmas.List.{drop-drop}
use Rattle.mail_codec.specs.Ascii.{carriage_return, line_feed}
use Rattle.mail_codec.specs.Places.{begins, has_prefix, least}
use Rattle.mail_codec.proofs.lemmas.Places.{least-before, least-passes}
use Rattle.mailparse.specs.ContentType.{ContentType}
use Rattle.mailparse.specs.Delimiters.{starts_line}
use Rattle.mailparse.specs.Header.{is_line_feed}
use Rattle.mail_check.specs.Bytes.{first_offset, is_line_left}
use Rattle.mail_check.specs.Clean.{Nowhere}
use Rattle.mail_check.specs.Multiparts.{dash_of, dash_with, is_boundary, is_close, is_delimiter, is_from, is_inside, is_open, is_past, is_tailed, late_after, late_delimiter, without_dashes}
use Rattle.mail_grammar.specs.Fields.{IsBoundary, last_character, more_characters, is_boundary_character}
use Rattle.mail_check.proofs.lemmas.Bytes.{offset-found}
use Rattle.mail_check.proofs.lemmas.Clean.{found_nowhere, nowhere_found}
use Rattle.mail_check_laws.proofs.lemmas.Delimiters.{Opened, closes, ends_there, starts}
use Rattle.mail_check_laws.proofs.lemmas.Fields.{boundary_found, found_boundary}
use Rattle.mail_check.proofs.lemmas.Booleans.{second_false}
use Rattle.mail_grammar.proofs.lemmas.Boundaries.{is_inner}

-- ---- dash-boundaries

module _ (ctype : ContentType) where
  -- the dash-boundary of a multipart with this boundary
  pub dash_made : (text : List ℕ) → has_prefix (codes "multipart/") ctype.mimetype ≡ true → ctype.params (codes "boundary") ≡ Some text → IsBoundary 70 text
      → dash_of ctype ≡ Some (codes "--" ++ text)
  dash_made text e f is =
      ap (λ (t : Bool). cond t (dash_with (ctype.params (codes "boundary"))) None) e ∙ ap dash_with f
      ∙ ap (λ (t : Bool). cond t (Some (codes "--" ++ text)) None) (found_boundary text is)

  -- and its boundary
  pub record MadeOf (dash : List ℕ) : Type 0 where
    pub text : List ℕ
    pub several : has_prefix (codes "multipart/") ctype.mimetype ≡ true
    pub given : ctype.params (codes "boundary") ≡ Some text
    pub is : IsBoundary 70 text
    pub made : codes "--" ++ text ≡ dash

  pub made_of : (dash : List ℕ) → dash_of ctype ≡ Some dash → MadeOf dash
  made_of dash h = by_type (has_prefix (codes "multipart/") ctype.mimetype) (ctype.params (codes "boundary")) refl refl h
    where
      by_text : (text : List ℕ) (t : Bool) → is_boundary text ≡ t → has_prefix (codes "multipart/") ctype.mimetype ≡ true → ctype.params (codes "boundary") ≡ Some text
          → cond t (Some (codes "--" ++ text)) None ≡ Some dash → MadeOf dash
      by_text text false e f g h = absurd (cc)
      by_text text true e f g h = record { text = text; several = f; given = g; is = boundary_found text e; made = cc }

      by_type : (s : Bool) (o : Option (List ℕ)) → has_prefix (codes "multipart/") ctype.mimetype ≡ s → ctype.params (codes "boundary") ≡ o
          → cond s (dash_with o) None ≡ Some dash → MadeOf dash
      by_type false o e f h = absurd (cc)
      by_type true None e f h = absurd (cc)
      by_type true (Some text) e f h = by_text text (is_boundary text) refl e f h

-- ---- searches

found_offset : (test : ℕ → Bool) (bytes : List ℕ) (p : ℕ) → first_offset test bytes ≡ Some p → (p < length bytes) × (test p ≡ true) × ((k : ℕ) → k < p → test k ≡ false)
unfolding first_offset
found_offset test bytes p h = elim (cases_lt (least test (length bytes)) (length bytes)) [
  | inr g ↦ let e = le-ltb (least test (length bytes)) (length bytes) g in let s = rw e at h in absurd (cc)
  | inl l ↦
      let e = lt-ltb (least test (length bytes)) (length bytes) l in
      let s = rw e at h in
      let same : least test (length bytes) ≡ p = cc in
      subst (λ (n : ℕ). (n < length bytes) × (test n ≡ true) × ((k : ℕ) → k < n → test k ≡ false)) same
      (l, least-passes test (length bytes) l, least-before test (length bytes))
]

some_offset : (test : ℕ → Bool) (bytes : List ℕ) (p : ℕ) → p < length bytes → test p ≡ true → (q : ℕ) × (first_offset test bytes ≡ Some q) × (q ≤ p)
unfolding first_offset
some_offset test bytes p low is = elim (cases_lt p (least test (length bytes))) [
  | inl l ↦ let no = least-before test (length bytes) p l in absurd (cc)
  | inr g ↦
      let e = lt-ltb (least test (length bytes)) (length bytes) (omega (arith, g, low)) in
      (least test (length bytes), rw e refl, g)
]

starts_is : (xs : List ℕ) (p : ℕ) → starts true xs p ≡ starts_line xs 0 p
starts_is xs zero = refl
starts_is xs (suc p) =
    sym (ap (λ (t : Bool). t || begins is_line_feed (drop (suc p - 1) xs)) (eqb-suc-zero p)
    ∙ ap (λ (n : ℕ). begins is_line_feed (drop n xs)) {x = suc p - 1} {y = p} (omega arith))

not_below : (c : ℕ) → not (nat_lt c c) ≡ false → ⊥
not_below c h = let e = le-ltb c c (omega arith) in let s = rw e at h in cc

module _ (dash xs : List ℕ) where
  -- what follows a dash-boundary at an offset
  after_at : (p : ℕ) → drop (length dash) (drop p xs) ≡ drop (p + length dash) xs
  after_at p = drop-drop (length dash) p xs

  ends_at : (p : ℕ) → ends_there dash (drop p xs) ≡ is_line_left (without_dashes (drop (p + length dash) xs))
  ends_at p = ap (λ (ys : List ℕ). is_line_left (without_dashes ys)) (after_at p)

  closes_at : (p : ℕ) → closes dash (drop p xs) ≡ has_prefix (codes "--") (drop (p + length dash) xs)
  closes_at p = ap (has_prefix (codes "--")) (after_at p)

  -- ---- from findings to the grammar

  module _ (inside : Nowhere (is_inside dash xs) xs) (tailed : Nowhere (is_tailed dash xs) xs) where
    line_at : (p : ℕ) → p < length xs → has_prefix dash (drop p xs) ≡ true → starts_line xs 0 p ≡ true
    line_at p low e = not-false (starts_line xs 0 p) (second_false (has_prefix dash (drop p xs)) (not (starts_line xs 0 p)) e (inside p low))

    tail_at : (p : ℕ) → p < length xs → has_prefix dash (drop p xs) ≡ true → is_line_left (without_dashes (drop (p + length dash) xs)) ≡ true
    tail_at p low e =
        not-false (is_line_left (without_dashes (drop (p + length dash) xs)))
        (second_false (starts_line xs 0 p) _ (line_at p low e) (second_false (has_prefix dash (drop p xs)) _ e (tailed p low)))

    delimiter_there : (p : ℕ) → p < length xs → has_prefix dash (drop p xs) ≡ true → is_delimiter dash xs p ≡ true
    delimiter_there p low e = and_from (has_prefix dash (drop p xs)) _ e (and_from (starts_line xs 0 p) _ (line_at p low e) (tail_at p low e))

    -- the first close-delimiter
    module _ (c : ℕ) (found : first_offset (is_close dash xs) xs ≡ Some c) where
      close_found : (c < length xs) × (is_close dash xs c ≡ true) × ((k : ℕ) → k < c → is_close dash xs k ≡ false)
      close_found = found_offset (is_close dash xs) xs c found

      dash_there : has_prefix dash (drop c xs) ≡ true
      dash_there = (and_parts (has_prefix dash (drop c xs)) _ close_found.1).0

      not_from : first_offset (is_from dash xs c) xs ≡ None → ⊥
      not_from h =
          not_below c (second_false (is_delimiter dash xs c) (not (nat_lt c c)) (delimiter_there c close_found.0 dash_there)
          (nowhere_found (is_from dash xs c) xs h c close_found.0))

      close_before : (p : ℕ) → p < c → has_prefix dash (drop p xs) ≡ true → closes dash (drop p xs) ≡ false
      close_before p low e =
          let high = close_found.0 in
          closes_at p ∙ second_false (starts_line xs 0 p) _ (line_at p (omega (arith, low, high)) e) (second_false (has_prefix dash (drop p xs)) _ e (close_found.2 p low))

      none_past : first_offset (is_past dash xs c) xs ≡ None → (p : ℕ) → c < p → p < length xs → has_prefix dash (drop p xs) ≡ false
      none_past h p low high = elim (cases_Bool (has_prefix dash (drop p xs))) [
        | inr e ↦ e
        | inl e ↦
            let yes = lt-ltb c p low in
            let no = second_false (is_delimiter dash xs p) (nat_lt c p) (delimiter_there p high e) (nowhere_found (is_past dash xs c) xs h p high) in
            absurd (cc)
      ]

      opened_by : (o : ℕ) → first_offset (is_open dash xs) xs ≡ Some o → o < c → first_offset (is_past dash xs c) xs ≡ None → Opened dash true xs
      opened_by o e early h = record {
        c = c;
        o = o;
        closed = record {
          sound = λ p low f. (starts_is xs p ∙ line_at p low f, ends_at p ∙ tail_at p low f);
          within = close_found.0;
          here = dash_there;
          dashes = closes_at c ∙ (and_parts (starts_line xs 0 c) _ (and_parts (has_prefix dash (drop c xs)) _ close_found.1).1).1;
          before = close_before;
          after = none_past h;
        };
        early = early;
        opens = (and_parts (has_prefix dash (drop o xs)) _ (found_offset (is_open dash xs) xs o e).1).0;
      }

      by_offset : (o : Option ℕ) → first_offset (is_open dash xs) xs ≡ o → late_after dash xs o (Some c) ≡ None → Opened dash true xs
      by_offset None e h = absurd (not_from h)
      by_offset (Some o) e h = elim (cases_lt o c) [
        | inl l ↦ let t = lt-ltb o c l in opened_by o e l (sym (ap (λ (s : Bool). cond s (first_offset (is_past dash xs c) xs) (first_offset (is_from dash xs c) xs)) t) ∙ h)
        | inr g ↦ let t = le-ltb o c g in absurd (not_from (sym (ap (λ (s : Bool). cond s (first_offset (is_past dash xs c) xs) (first_offset (is_from dash xs c) xs)) t) ∙ h))
      ]

    pub opened_of : late_delimiter dash xs ≡ None → is_none (first_offset (is_close dash xs) xs) ≡ false → Opened dash true xs
    opened_of late some = by_close (first_offset (is_close dash xs) xs) refl late some
      where
        by_close : (c : Option ℕ) → first_offset (is_close dash xs) xs ≡ c → late_after dash xs (first_offset (is_open dash xs) xs) c ≡ None → is_none c ≡ false → Opened dash true xs
        by_close None e h f = absurd (cc)
        by_close (Some c) e h f = by_offset c e (first_offset (is_open dash xs) xs) refl h

  -- ---- and back

  pub record NotFound : Type 0 where
    pub inside : first_offset (is_inside dash xs) xs ≡ None
    pub tail : first_offset (is_tailed dash xs) xs ≡ None
    pub closed : is_none (first_offset (is_close dash xs) xs) ≡ false
    pub late : late_delimiter dash xs ≡ None

  module _ (h : Opened dash true xs) where
    line_of : (p : ℕ) → p < length xs → has_prefix dash (drop p xs) ≡ true → starts_line xs 0 p ≡ true
    line_of p low e = sym (starts_is xs p) ∙ (h.closed.sound p low e).0

    tail_of : (p : ℕ) → p < length xs → has_prefix dash (drop p xs) ≡ true → is_line_left (without_dashes (drop (p + length dash) xs)) ≡ true
    tail_of p low e = sym (ends_at p) ∙ (h.closed.sound p low e).1

    none_inside : Nowhere (is_inside dash xs) xs
    none_inside p low = elim (cases_Bool (has_prefix dash (drop p xs))) [
      | inr e ↦ and_left (has_prefix dash (drop p xs)) _ e
      | inl e ↦ and_right (has_prefix dash (drop p xs)) _ (not_from_true (starts_line xs 0 p) (line_of p low e))
    ]

    none_tailed : Nowhere (is_tailed dash xs) xs
    none_tailed p low = elim (cases_Bool (has_prefix dash (drop p xs))) [
      | inr e ↦ and_left (has_prefix dash (drop p xs)) _ e
      | inl e ↦ and_right (has_prefix dash (drop p xs)) _ (and_right (starts_line xs 0 p) _ (not_from_true (is_line_left (without_dashes (drop (p + length dash) xs))) (tail_of p low e)))
    ]

    close_there : is_close dash xs h.c ≡ true
    close_there =
        and_from (has_prefix dash (drop h.c xs)) _ h.closed.here
        (and_from (starts_line xs 0 h.c) _ (line_of h.c h.closed.within h.closed.here) (sym (closes_at h.c) ∙ h.closed.dashes))

    no_close_before : (p : ℕ) → p < h.c → is_close dash xs p ≡ false
    no_close_before p low = elim (cases_Bool (has_prefix dash (drop p xs))) [
      | inr e ↦ and_left (has_prefix dash (drop p xs)) _ e
      | inl e ↦ and_right (has_prefix dash (drop p xs)) _ (and_right (starts_line xs 0 p) _ (sym (closes_at p) ∙ h.closed.before p low e))
    ]

    the_close : first_offset (is_close dash xs) xs ≡ Some h.c
    the_close = sym (offset-found (is_close dash xs) xs h.c h.closed.within no_close_before close_there)

    open_there : is_open dash xs h.o ≡ true
    open_there =
        let early = h.early in
        let within = h.closed.within in
        let low : h.o < length xs = omega (arith, early, within) in
        let other = sym (closes_at h.o) ∙ h.closed.before h.o h.early h.opens in
        and_from (has_prefix dash (drop h.o xs)) _ h.opens
        (and_from (starts_line xs 0 h.o) _ (line_of h.o low h.opens) (undashed (drop (h.o + length dash) xs) other (tail_of h.o low h.opens)))
      where
        undashed : (ys : List ℕ) → has_prefix (codes "--") ys ≡ false → is_line_left (without_dashes ys) ≡ true → is_line_left ys ≡ true
        undashed ys f g = let s = rw f at g in s

    none_after : Nowhere (is_past dash xs h.c) xs
    none_after p low = elim (cases_lt h.c p) [
      | inl l ↦ and_left (is_delimiter dash xs p) _ (and_left (has_prefix dash (drop p xs)) _ (h.closed.after p l low))
      | inr g ↦ and_right (is_delimiter dash xs p) (nat_lt h.c p) (le-ltb h.c p g)
    ]

    not_late : late_after dash xs (first_offset (is_open dash xs) xs) (first_offset (is_close dash xs) xs) ≡ None
    not_late =
        let early = h.early in
        let within = h.closed.within in
        let first = some_offset (is_open dash xs) xs h.o (omega (arith, early, within)) open_there in
        let below = first.2 in
        ap (λ (o : Option ℕ). late_after dash xs o (first_offset (is_close dash xs) xs)) first.1
        ∙ ap (late_after dash xs (Some first.0)) the_close
        ∙ ap (λ (s : Bool). cond s (first_offset (is_past dash xs h.c) xs) (first_offset (is_from dash xs h.c) xs)) (lt-ltb first.0 h.c (omega (arith, early, below)))
        ∙ found_nowhere (is_past dash xs h.c) xs none_after

    pub not_found : NotFound
    not_found = record {
      inside = found_nowhere (is_inside dash xs) xs none_inside;
      tail = found_nowhere (is_tailed dash xs) xs none_tailed;
      closed = ap (λ (o : Option ℕ). is_none o) the_close;
      late = not_late;
    }
