-- The text of a multipart in which the dash-boundary only makes delimiters, the last of them the close-delimiter, is that of the
-- grammar of strict messages.
use Rattle.std.proofs.Common.{◌≡◌, ◌∙◌, ◌<◌, ◌≤◌, ℕ, zero, suc, Bool, true, false, not, List, [], ◌∷◌, ◌++◌, length, drop, refl, sym, ap, subst, inl, inr, arith, length-append, length-drop}
use Rattle.std.specs.Prelude.{◌||◌, ◌==◌, codes}
use Rattle.std.specs.List.{list_all}
use Rattle.std.proofs.lemmas.Bool.{eqb-true, eq-eqb}
use Rattle.std.proofs.lemmas.Bool.{and_from, and_left, and_parts, and_right, cases_Bool}
use Rattle.mail_codec.specs.Ascii.{carriage_return, line_feed}
use Rattle.mail_codec.specs.Places.{begins, has_prefix}
use Rattle.mail_check.specs.Bytes.{is_line_left}
use Rattle.mail_check.specs.Multiparts.{without_dashes}
use Rattle.mail_grammar.specs.LineEnds.{IsLineEnd}
use Rattle.mail_grammar.specs.Delimiters.{EndsLine, no_more_bytes, line_ends, HasNoDash, no_dash, no_dash_here, IsClosed, HasClose, part_byte, delimiter, close_delimiter, HasParts, preamble_byte, first_delimiter}
use Rattle.mail_check_laws.proofs.lemmas.Headers.{left_at}
use Rattle.mail_grammar.proofs.lemmas.Boundaries.{all_head, all_tail, is_inner}

-- ---- bytes of line ends, and texts at the front

differ : (x c : ℕ) → is_inner x ≡ true → is_inner c ≡ false → (x == c) ≡ false
differ x c h e = elim (cases_Bool (x == c)) [
  | inr f ↦ f
  | inl f ↦ let no : is_inner c ≡ true = subst (λ (y : ℕ). is_inner y ≡ true) (eqb-true x c f) h in absurd (cc)
]

-- a text without line ends does not begin before one and end after it
no_cross : (d pre : List ℕ) (c : ℕ) (rest : List ℕ) → list_all is_inner d ≡ true → is_inner c ≡ false → length pre < length d → has_prefix d (pre ++ c ∷ rest) ≡ false
no_cross [] pre c rest all bad low = absurd (omega (arith, low))
no_cross (x ∷ d) [] c rest all bad low = and_left (x == c) (has_prefix d rest) (differ x c (all_head is_inner x d all) bad)
no_cross (x ∷ d) (y ∷ pre) c rest all bad low =
    and_right (x == y) (has_prefix d (pre ++ c ∷ rest)) (no_cross d pre c rest (all_tail is_inner x d all) bad (omega (arith, low)))

prefix_split : (d xs : List ℕ) → has_prefix d xs ≡ true → xs ≡ d ++ drop (length d) xs
prefix_split [] xs h = refl
prefix_split (x ∷ d) [] h = absurd (cc)
prefix_split (x ∷ d) (y ∷ ys) h =
    let both = and_parts (x == y) (has_prefix d ys) h in
    ap (λ (z : ℕ). z ∷ ys) (sym (eqb-true x y both.0)) ∙ ap (λ (zs : List ℕ). x ∷ zs) (prefix_split d ys both.1)

prefix_there : (d rest : List ℕ) → has_prefix d (d ++ rest) ≡ true
prefix_there [] rest = refl
prefix_there (x ∷ d) rest = and_from (x == x) (has_prefix d (d ++ rest)) (eq-eqb x x refl) (prefix_there d rest)

prefix_long : (d xs : List ℕ) → has_prefix d xs ≡ true → length d ≤ length xs
prefix_long [] xs h = omega arith
prefix_long (x ∷ d) [] h = absurd (cc)
prefix_long (x ∷ d) (y ∷ ys) h = let more = prefix_long d ys (and_parts (x == y) (has_prefix d ys) h).1 in omega (arith, more)

past : (d rest : List ℕ) → drop (length d) (d ++ rest) ≡ rest
past [] rest = refl
past (x ∷ d) rest = past d rest

-- ---- ends of lines

pub ends_line : (xs : List ℕ) → is_line_left xs ≡ true → EndsLine xs
ends_line [] h = no_more_bytes
ends_line (b ∷ rest) h = elim (cases_Bool (b == line_feed)) [
  | inl e ↦ line_ends rest (inl refl) (ap (λ (x : ℕ). x ∷ rest) (eqb-true b line_feed e))
  | inr e ↦ by_return rest (and_parts (b == carriage_return) (begins (λ x. x == line_feed) rest) (second_true (b == line_feed) _ e (sym (left_at b rest) ∙ h)))
]
  where
    second_true : (s t : Bool) → s ≡ false → (s || t) ≡ true → t ≡ true
    second_true false t e h = h
    second_true true t e h = absurd (cc)

    by_return : (rest : List ℕ) → ((b == carriage_return) ≡ true) × (begins (λ x. x == line_feed) rest ≡ true) → EndsLine (b ∷ rest)
    by_return [] both = let no : false ≡ true = both.1 in absurd (cc)
    by_return (c ∷ rest) both =
        line_ends rest (inr refl) (ap (λ (x : ℕ). x ∷ (c ∷ rest)) (eqb-true b carriage_return both.0) ∙ ap (λ (x : ℕ). carriage_return ∷ (x ∷ rest)) (eqb-true c line_feed both.1))

line_left : (xs : List ℕ) → EndsLine xs → is_line_left xs ≡ true
line_left xs no_more_bytes = refl
line_left xs (line_ends rest (inl e) made) =
    subst (λ (ys : List ℕ). is_line_left ys ≡ true) (sym (made ∙ ap (λ (line : List ℕ). line ++ rest) e)) refl
line_left xs (line_ends rest (inr e) made) =
    subst (λ (ys : List ℕ). is_line_left ys ≡ true) (sym (made ∙ ap (λ (line : List ℕ). line ++ rest) e)) refl

-- ---- a text with delimiters

-- a line starts at an offset, and at the front or not
abbrev pub starts : Bool → List ℕ → ℕ → Bool
starts s xs zero = s
starts s xs (suc p) = begins (λ b. b == line_feed) (drop p xs)

starts_next : (s : Bool) (b : ℕ) (rest : List ℕ) (p : ℕ) → starts s (b ∷ rest) (suc p) ≡ starts (b == line_feed) rest p
starts_next s b rest zero = refl
starts_next s b rest (suc p) = refl

module _ (dash : List ℕ) where
  -- the line that begins with the dash-boundary has only that and `--`
  abbrev pub ends_there : List ℕ → Bool
  ends_there xs = is_line_left (without_dashes (drop (length dash) xs))

  -- `--` follows it
  abbrev pub closes : List ℕ → Bool
  closes xs = has_prefix (codes "--") (drop (length dash) xs)

  -- the dash-boundary only makes delimiters, the last of which is the only close-delimiter, at an offset
  pub record Closed (s : Bool) (xs : List ℕ) (c : ℕ) : Type 0 where
    pub sound : (p : ℕ) → p < length xs → has_prefix dash (drop p xs) ≡ true → (starts s xs p ≡ true) × (ends_there (drop p xs) ≡ true)
    pub within : c < length xs
    pub here : has_prefix dash (drop c xs) ≡ true
    pub dashes : closes (drop c xs) ≡ true
    pub before : (p : ℕ) → p < c → has_prefix dash (drop p xs) ≡ true → closes (drop p xs) ≡ false
    pub after : (p : ℕ) → c < p → p < length xs → has_prefix dash (drop p xs) ≡ false

  pub record SomeClosed (s : Bool) (xs : List ℕ) : Type 0 where
    pub c : ℕ
    pub closed : Closed s xs c

  -- and there is a delimiter before it
  pub record Opened (s : Bool) (xs : List ℕ) : Type 0 where
    pub c : ℕ
    pub o : ℕ
    pub closed : Closed s xs c
    pub early : o < c
    pub opens : has_prefix dash (drop o xs) ≡ true

  -- ---- one byte less, and one more

  shift : (s : Bool) (b : ℕ) (rest : List ℕ) (c : ℕ) → Closed s (b ∷ rest) (suc c) → Closed (b == line_feed) rest c
  shift s b rest c h = record {
    sound = λ p low e. let k = h.sound (suc p) (omega (arith, low)) e in (sym (starts_next s b rest p) ∙ k.0, k.1);
    within = let low = h.within in omega (arith, low);
    here = h.here;
    dashes = h.dashes;
    before = λ p low e. h.before (suc p) (omega (arith, low)) e;
    after = λ p low high. h.after (suc p) (omega (arith, low)) (omega (arith, high));
  }

  unshift : (s : Bool) (b : ℕ) (rest : List ℕ) (c : ℕ) → Closed (b == line_feed) rest c
      → (has_prefix dash (b ∷ rest) ≡ true → (s ≡ true) × (ends_there (b ∷ rest) ≡ true) × (closes (b ∷ rest) ≡ false)) → Closed s (b ∷ rest) (suc c)
  unshift s b rest c h f = record {
    sound = sounds;
    within = let low = h.within in omega (arith, low);
    here = h.here;
    dashes = h.dashes;
    before = befores;
    after = afters;
  }
    where
      sounds : (p : ℕ) → p < length (b ∷ rest) → has_prefix dash (drop p (b ∷ rest)) ≡ true → (starts s (b ∷ rest) p ≡ true) × (ends_there (drop p (b ∷ rest)) ≡ true)
      sounds zero low e = ((f e).0, (f e).1)
      sounds (suc p) low e = let k = h.sound p (omega (arith, low)) e in (starts_next s b rest p ∙ k.0, k.1)

      befores : (p : ℕ) → p < suc c → has_prefix dash (drop p (b ∷ rest)) ≡ true → closes (drop p (b ∷ rest)) ≡ false
      befores zero low e = (f e).2
      befores (suc p) low e = h.before p (omega (arith, low)) e

      afters : (p : ℕ) → suc c < p → p < length (b ∷ rest) → has_prefix dash (drop p (b ∷ rest)) ≡ false
      afters zero low high = absurd (omega (arith, low))
      afters (suc p) low high = h.after p (omega (arith, low)) (omega (arith, high))

  -- no dash-boundary begins here
  shift_free : (s : Bool) (b : ℕ) (rest : List ℕ) (c : ℕ) → Closed s (b ∷ rest) c → has_prefix dash (b ∷ rest) ≡ false → SomeClosed (b == line_feed) rest
  shift_free s b rest zero h e = let no : has_prefix dash (b ∷ rest) ≡ true = h.here in absurd (cc)
  shift_free s b rest (suc c) h e = record { c = c; closed = shift s b rest c h }

  unshift_free : (s : Bool) (b : ℕ) (rest : List ℕ) → SomeClosed (b == line_feed) rest → has_prefix dash (b ∷ rest) ≡ false → SomeClosed s (b ∷ rest)
  unshift_free s b rest h e = record { c = suc h.c; closed = unshift s b rest h.c h.closed (λ f. absurd (cc)) }

  -- ---- a dash-boundary without line ends

  module _ (plain : list_all is_inner dash ≡ true) (some : 0 < length dash) where
    -- bytes that are shorter than the dash-boundary, and a byte of a line end
    forth : (pre : List ℕ) (y : ℕ) (zs : List ℕ) → length pre < length dash → is_inner y ≡ false → (s : Bool) (c : ℕ) → Closed s (pre ++ y ∷ zs) c → SomeClosed (y == line_feed) zs
    forth [] y zs low bad s c h = shift_free s y zs c h (no_cross dash [] y zs plain bad some)
    forth (x ∷ pre) y zs low bad s c h =
        let more = shift_free s x (pre ++ y ∷ zs) c h (no_cross dash (x ∷ pre) y zs plain bad low) in
        forth pre y zs (omega (arith, low)) bad (x == line_feed) more.c more.closed

    back : (pre : List ℕ) (y : ℕ) (zs : List ℕ) → length pre < length dash → is_inner y ≡ false → SomeClosed (y == line_feed) zs → (s : Bool) → SomeClosed s (pre ++ y ∷ zs)
    back [] y zs low bad h s = unshift_free s y zs h (no_cross dash [] y zs plain bad some)
    back (x ∷ pre) y zs low bad h s =
        unshift_free s x (pre ++ y ∷ zs) (back pre y zs (omega (arith, low)) bad h (x == line_feed)) (no_cross dash (x ∷ pre) y zs plain bad low)

    -- as many bytes as it has
    dash_forth : (pre : List ℕ) (y : ℕ) (zs : List ℕ) → length pre ≡ length dash → is_inner y ≡ false → (s : Bool) (c : ℕ) → 0 < c → Closed s (pre ++ y ∷ zs) c
        → SomeClosed (y == line_feed) zs
    dash_forth [] y zs long bad s c pos h = absurd (omega (arith, long, some))
    dash_forth (x ∷ pre) y zs long bad s zero pos h = absurd (omega (arith, pos))
    dash_forth (x ∷ pre) y zs long bad s (suc c) pos h = forth pre y zs (omega (arith, long)) bad (x == line_feed) c (shift s x (pre ++ y ∷ zs) c h)

    dash_back : (pre : List ℕ) (y : ℕ) (zs : List ℕ) → length pre ≡ length dash → is_inner y ≡ false → SomeClosed (y == line_feed) zs
        → ends_there (pre ++ y ∷ zs) ≡ true → closes (pre ++ y ∷ zs) ≡ false → SomeClosed true (pre ++ y ∷ zs)
    dash_back [] y zs long bad h ends opening = absurd (omega (arith, long, some))
    dash_back (x ∷ pre) y zs long bad h ends opening =
        let more = back pre y zs (omega (arith, long)) bad h (x == line_feed) in
        record { c = suc more.c; closed = unshift true x (pre ++ y ∷ zs) more.c more.closed (λ e. (refl, ends, opening)) }

    -- ---- a delimiter

    pub record Delimiter (xs : List ℕ) : Type 0 where
      pub line : List ℕ
      pub rest : List ℕ
      pub is_line : IsLineEnd line
      pub made : xs ≡ dash ++ (line ++ rest)
      pub closed : SomeClosed true rest

    -- what follows a line end
    line_forth : (line rest : List ℕ) → IsLineEnd line → (s : Bool) (c : ℕ) → 0 < c → Closed s (dash ++ (line ++ rest)) c → SomeClosed true rest
    line_forth line rest (inl e) s c pos h = dash_forth dash line_feed rest refl refl s c pos (subst (λ (l : List ℕ). Closed s (dash ++ (l ++ rest)) c) e h)
    line_forth line rest (inr e) s c pos h =
        let more = dash_forth dash carriage_return (line_feed ∷ rest) refl refl s c pos (subst (λ (l : List ℕ). Closed s (dash ++ (l ++ rest)) c) e h) in
        shift_free false line_feed rest more.c more.closed (no_cross dash [] line_feed rest plain refl some)

    opened_line : (rest xs : List ℕ) → xs ≡ dash ++ (10 ∷ rest) → (ends_there xs ≡ true) × (closes xs ≡ false)
    opened_line rest xs made =
        let left : drop (length dash) xs ≡ 10 ∷ rest = ap (drop (length dash)) made ∙ past dash (10 ∷ rest) in
        (ap (λ (ys : List ℕ). is_line_left (without_dashes ys)) left, ap (has_prefix (codes "--")) left)

    opened_return : (rest xs : List ℕ) → xs ≡ dash ++ (13 ∷ 10 ∷ rest) → (ends_there xs ≡ true) × (closes xs ≡ false)
    opened_return rest xs made =
        let left : drop (length dash) xs ≡ 13 ∷ 10 ∷ rest = ap (drop (length dash)) made ∙ past dash (13 ∷ 10 ∷ rest) in
        (ap (λ (ys : List ℕ). is_line_left (without_dashes ys)) left, ap (has_prefix (codes "--")) left)

    line_back : (line rest : List ℕ) → IsLineEnd line → SomeClosed true rest → SomeClosed true (dash ++ (line ++ rest))
    line_back line rest (inl e) h =
        let opened = opened_line rest (dash ++ (line_feed ∷ rest)) refl in
        subst (λ (l : List ℕ). SomeClosed true (dash ++ (l ++ rest))) (sym e) (dash_back dash line_feed rest refl refl h opened.0 opened.1)
    line_back line rest (inr e) h =
        let opened = opened_return rest (dash ++ (carriage_return ∷ line_feed ∷ rest)) refl in
        let more = unshift_free false line_feed rest h (no_cross dash [] line_feed rest plain refl some) in
        subst (λ (l : List ℕ). SomeClosed true (dash ++ (l ++ rest))) (sym e) (dash_back dash carriage_return (line_feed ∷ rest) refl refl more opened.0 opened.1)

    -- no close-delimiter comes after the end
    no_close_left : (s : Bool) (c : ℕ) → 0 < c → Closed s (dash ++ []) c → ⊥
    no_close_left s c pos h =
        let long = prefix_long dash (drop c (dash ++ [])) h.here in
        let size = length-drop c (dash ++ []) in
        let whole = length-append dash [] in
        let low = h.within in
        omega (arith, long, size, whole, pos, low)

    pub delimiter_at : (s : Bool) (xs : List ℕ) (c : ℕ) → Closed s xs c → has_prefix dash xs ≡ true → closes xs ≡ false → Delimiter xs
    delimiter_at s xs zero h e opening = let no : closes xs ≡ true = h.dashes in absurd (cc)
    delimiter_at s xs (suc c) h e opening =
        let low = h.within in
        by_end (drop (length dash) xs) (ends_line (drop (length dash) xs) (undashed (drop (length dash) xs) opening (h.sound 0 (omega (arith, low)) e).1)) (prefix_split dash xs e)
      where
        undashed : (ys : List ℕ) → has_prefix (codes "--") ys ≡ false → is_line_left (without_dashes ys) ≡ true → is_line_left ys ≡ true
        undashed ys f g = let s = rw f at g in s

        by_end : (after : List ℕ) → EndsLine after → xs ≡ dash ++ after → Delimiter xs
        by_end after no_more_bytes made = absurd (no_close_left s (suc c) (omega arith) (subst (λ (ys : List ℕ). Closed s ys (suc c)) made h))
        by_end after (line_ends {line = line} rest is f) made =
            let whole : xs ≡ dash ++ (line ++ rest) = made ∙ ap (λ (ys : List ℕ). dash ++ ys) f in
            record {
              line = line;
              rest = rest;
              is_line = is;
              made = whole;
              closed = line_forth line rest is s (suc c) (omega arith) (subst (λ (ys : List ℕ). Closed s ys (suc c)) whole h);
            }

    -- ---- a close-delimiter

    no_dash_at : (ys : List ℕ) → HasNoDash dash ys → (p : ℕ) → p < length ys → has_prefix dash (drop p ys) ≡ false
    no_dash_at ys no_dash p low = absurd (omega arith)
    no_dash_at ys (no_dash_here e more) zero low = e
    no_dash_at ys (no_dash_here {b = b} {rest = rest} e more) (suc p) low = no_dash_at rest more p (omega (arith, low))

    at_no_dash : (ys : List ℕ) → ((p : ℕ) → p < length ys → has_prefix dash (drop p ys) ≡ false) → HasNoDash dash ys
    at_no_dash [] f = no_dash
    at_no_dash (b ∷ rest) f = no_dash_here (f 0 (omega arith)) (at_no_dash rest (λ p low. f (suc p) (omega (arith, low))))

    dashes_left : (after rest : List ℕ) → after ≡ codes "--" ++ rest → (is_line_left (without_dashes after) ≡ is_line_left rest) × (has_prefix (codes "--") after ≡ true)
    dashes_left after rest e = (ap (λ (ys : List ℕ). is_line_left (without_dashes ys)) e, ap (has_prefix (codes "--")) e)

    closed_here : (xs : List ℕ) → IsClosed dash xs → SomeClosed true xs
    closed_here xs is =
        let left : drop (length dash) xs ≡ codes "--" ++ is.rest = ap (drop (length dash)) is.made ∙ past dash (codes "--" ++ is.rest) in
        let tests = dashes_left (drop (length dash) xs) is.rest left in
        record { c = 0; closed = by_bytes xs is.alone (ap (has_prefix dash) is.made ∙ prefix_there dash (codes "--" ++ is.rest)) (tests.0 ∙ line_left is.rest is.line) tests.1 }
      where
        by_bytes : (xs : List ℕ) → HasNoDash dash (drop 1 xs) → has_prefix dash xs ≡ true → ends_there xs ≡ true → closes xs ≡ true → Closed true xs 0
        by_bytes [] alone e ends close = let long = prefix_long dash [] e in absurd (omega (arith, long, some))
        by_bytes (b ∷ rest) alone e ends close = record {
          sound = sounds;
          within = omega arith;
          here = e;
          dashes = close;
          before = λ p low f. absurd (omega (arith, low));
          after = afters;
        }
          where
            sounds : (p : ℕ) → p < length (b ∷ rest) → has_prefix dash (drop p (b ∷ rest)) ≡ true → (starts true (b ∷ rest) p ≡ true) × (ends_there (drop p (b ∷ rest)) ≡ true)
            sounds zero low f = (refl, ends)
            sounds (suc p) low f = let no = no_dash_at rest alone p (omega (arith, low)) in absurd (cc)

            afters : (p : ℕ) → 0 < p → p < length (b ∷ rest) → has_prefix dash (drop p (b ∷ rest)) ≡ false
            afters zero low high = absurd (omega (arith, low))
            afters (suc p) low high = no_dash_at rest alone p (omega (arith, high))

    -- there are no bytes before it
    close_front : (s : Bool) (xs : List ℕ) (c : ℕ) → Closed s xs c → has_prefix dash xs ≡ true → closes xs ≡ true → c ≡ 0
    close_front s xs zero h e close = refl
    close_front s xs (suc c) h e close = let no = h.before 0 (omega arith) e in absurd (cc)

    close_at : (s : Bool) (xs : List ℕ) → Closed s xs 0 → IsClosed dash xs
    close_at s xs h =
        let left = prefix_split dash xs h.here in
        let dashes = prefix_split (codes "--") (drop (length dash) xs) h.dashes in
        let low = h.within in
        record {
          rest = drop 2 (drop (length dash) xs);
          made = left ∙ ap (λ (ys : List ℕ). dash ++ ys) dashes;
          line = ends_line (drop 2 (drop (length dash) xs)) (sym (dashes_left (drop (length dash) xs) (drop 2 (drop (length dash) xs)) dashes).0 ∙ (h.sound 0 low h.here).1);
          alone = at_no_dash (drop 1 xs) (λ p lower. let size = length-drop 1 xs in later xs h p (omega (arith, lower, size, low)));
        }
      where
        later : (xs : List ℕ) → Closed s xs 0 → (p : ℕ) → suc p < length xs → has_prefix dash (drop p (drop 1 xs)) ≡ false
        later [] h p low = absurd (omega (arith, low))
        later (b ∷ rest) h p low = h.after (suc p) (omega arith) low

    -- ---- both ways

    -- with at most this number of bytes
    close_in : (n : ℕ) (s : Bool) (xs : List ℕ) (c : ℕ) → length xs ≤ n → Closed s xs c → HasClose dash s xs
    close_in zero s [] c most h = let low = h.within in absurd (omega (arith, low))
    close_in zero s (b ∷ rest) c most h = absurd (omega (arith, most))
    close_in (suc n) s [] c most h = let low = h.within in absurd (omega (arith, low))
    close_in (suc n) s (b ∷ rest) c most h = elim (cases_Bool (has_prefix dash (b ∷ rest))) [
      | inr e ↦
          let more = shift_free s b rest c h e in
          part_byte e (close_in n (b == line_feed) rest more.c (omega (arith, most)) more.closed)
      | inl e ↦
          let start : s ≡ true = (h.sound 0 (omega arith) e).0 in
          subst (λ (t : Bool). HasClose dash t (b ∷ rest)) (sym start) (elim (cases_Bool (closes (b ∷ rest))) [
            | inl f ↦ close_delimiter (close_at s (b ∷ rest) (subst (Closed s (b ∷ rest)) (close_front s (b ∷ rest) c h e f) h))
            | inr f ↦
                let is = delimiter_at s (b ∷ rest) c h e f in
                let whole = ap length is.made in
                let sizes = length-append dash (is.line ++ is.rest) in
                let size = length-append is.line is.rest in
                delimiter is.is_line (close_in n true is.rest is.closed.c (omega (arith, most, whole, sizes, size, some)) is.closed.closed) is.made
          ])
    ]

    pub in_close : (s : Bool) (xs : List ℕ) → HasClose dash s xs → SomeClosed s xs
    in_close s xs (part_byte {b = b} {rest = rest} e more) = unshift_free s b rest (in_close (b == line_feed) rest more) e
    in_close s xs (delimiter {line = line} {rest = rest} is more made) = subst (SomeClosed true) (sym made) (line_back line rest is (in_close true rest more))
    in_close s xs (close_delimiter is) = closed_here xs is

    parts_in : (s : Bool) (xs : List ℕ) (c o : ℕ) → Closed s xs c → o < c → has_prefix dash (drop o xs) ≡ true → HasParts dash s xs
    parts_in s [] c o h early opens = let low = h.within in absurd (omega (arith, low))
    parts_in s (b ∷ rest) zero o h early opens = absurd (omega (arith, early))
    parts_in s (b ∷ rest) (suc c) o h early opens = elim (cases_Bool (has_prefix dash (b ∷ rest))) [
      | inr e ↦ by_offset o early opens e (λ n early opens. parts_in (b == line_feed) rest c n (shift s b rest c h) early opens)
      | inl e ↦
          let start : s ≡ true = (h.sound 0 (omega arith) e).0 in
          let is = delimiter_at s (b ∷ rest) (suc c) h e (h.before 0 (omega arith) e) in
          subst (λ (t : Bool). HasParts dash t (b ∷ rest)) (sym start)
          (first_delimiter is.is_line (close_in (length is.rest) true is.rest is.closed.c (omega arith) is.closed.closed) is.made)
    ]
      where
        by_offset : (o : ℕ) → o < suc c → has_prefix dash (drop o (b ∷ rest)) ≡ true → has_prefix dash (b ∷ rest) ≡ false
            → ((n : ℕ) → n < c → has_prefix dash (drop n rest) ≡ true → HasParts dash (b == line_feed) rest) → HasParts dash s (b ∷ rest)
        by_offset zero early opens e more = absurd (cc)
        by_offset (suc o) early opens e more = preamble_byte e (more o (omega (arith, early)) opens)

    pub found_parts : (s : Bool) (xs : List ℕ) → Opened s xs → HasParts dash s xs
    found_parts s xs h = parts_in s xs h.c h.o h.closed h.early h.opens

    -- a delimiter at the front is not the close-delimiter
    first_there : (xs line rest : List ℕ) → IsLineEnd line → xs ≡ dash ++ (line ++ rest) → closes xs ≡ false
    first_there xs line rest (inl e) made = (opened_line rest xs (made ∙ ap (λ (l : List ℕ). dash ++ (l ++ rest)) e)).1
    first_there xs line rest (inr e) made = (opened_return rest xs (made ∙ ap (λ (l : List ℕ). dash ++ (l ++ rest)) e)).1

    pub parts_found : (s : Bool) (xs : List ℕ) → HasParts dash s xs → Opened s xs
    parts_found s xs (preamble_byte {b = b} {rest = rest} e more) =
        let is = parts_found (b == line_feed) rest more in
        let low = is.early in
        record {
          c = suc is.c;
          o = suc is.o;
          closed = unshift s b rest is.c is.closed (λ f. absurd (cc));
          early = omega (arith, low);
          opens = is.opens;
        }
    parts_found s xs (first_delimiter {line = line} {rest = rest} is more made) =
        let found = subst (SomeClosed true) (sym made) (line_back line rest is (in_close true rest more)) in
        let opening = first_there xs line rest is made in
        let opens : has_prefix dash xs ≡ true = ap (has_prefix dash) made ∙ prefix_there dash (line ++ rest) in
        record { c = found.c; o = 0; closed = found.closed; early = later found.c found.closed opening; opens = opens }
      where
        later : (c : ℕ) → Closed true xs c → closes xs ≡ false → 0 < c
        later zero h e = let no : closes xs ≡ true = h.dashes in absurd (cc)
        later (suc c) h e = omega arith
