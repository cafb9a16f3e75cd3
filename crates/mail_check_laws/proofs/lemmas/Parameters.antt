-- Types and dispositions have the syntax that all programs know exactly if they are of the grammar of strict messages.
use Rattle.std.proofs.Common.{◌≡◌, ◌∙◌, ℕ, Bool, true, false, cond, List, [], ◌∷◌, ◌++◌, refl, sym, ap, subst, inl, inr, append_assoc}
use Rattle.std.specs.Prelude.{◌⊎◌, ◌||◌, ◌==◌, codes}
use Rattle.std.specs.Char.{is_ascii_alphanumeric, is_ascii_digit}
use Rattle.std.specs.List.{list_all}
use Rattle.std.proofs.lemmas.Bool.{eqb-true}
use Rattle.std.proofs.lemmas.Bool.{and_from, cases_Bool}
use Rattle.mail_codec.specs.Ascii.{asterisk, backslash, carriage_return, equals_sign, is_blank, line_feed, quote, semicolon, space}
use Rattle.mail_check.specs.Bytes.{is_control}
use Rattle.mail_check.specs.Lines.{is_visible}
use Rattle.mail_check.specs.Parameters.{after_byte, after_bytes, after_semicolon, after_value, in_quotes, is_attribute, is_extended, is_restricted, is_strict, may_end}
use Rattle.mail_check.specs.declared.parameters.ValueState.{ValueState}
use Rattle.mail_check.specs.declared.parameters.ValueState.TheVariants.{Start, Token, Semicolon, Blank, Return, Feed, Fold, Attribute, Star, Equals, StarEquals, Text, Extended, Opened, Quoted, Space, Escaped, Closed, Wrong}
use Rattle.mail_grammar.specs.Parameters.{is_value_character, IsGap, no_gap, gap_blank, gap_fold, IsSection, no_asterisk, asterisk_and, IsName, IsQuotedText, end_quote, text_byte, quoted_pair}
use Rattle.mail_grammar.specs.Parameters.{IsParameterValue, token_value, quoted_value, AreParameters, no_parameter, last_semicolon, parameter, IsTokenWithParameters}
use Rattle.mail_check_laws.proofs.lemmas.Fields.{blanks}
use Rattle.mail_check.proofs.lemmas.Attributes.{miss, pass, text_keeps, token_keeps}
use Rattle.mail_grammar.proofs.lemmas.Boundaries.{all_head, all_tail}

-- ---- what is so of the bytes after a state from which they lead to the end

-- bytes that all pass a test, and then parameters
record TokenThen (test : ℕ → Bool) (bytes : List ℕ) : Type 0 where
  token : List ℕ
  rest : List ℕ
  all : list_all test token ≡ true
  more : AreParameters rest
  made : bytes ≡ token ++ rest

-- a text up to its closing quote, and then parameters
record QuoteThen (bytes : List ℕ) : Type 0 where
  text : List ℕ
  rest : List ℕ
  quoted : IsQuotedText text
  more : AreParameters rest
  made : bytes ≡ text ++ rest

-- a byte after a backslash, and then such a text
record EscapeThen (bytes : List ℕ) : Type 0 where
  b : ℕ
  left : List ℕ
  printable : (b == space || is_visible b) ≡ true
  next : QuoteThen left
  made : bytes ≡ b ∷ left

-- a value, and then parameters
record ValueThen (starred : Bool) (bytes : List ℕ) : Type 0 where
  value : List ℕ
  rest : List ℕ
  is : IsParameterValue starred value
  more : AreParameters rest
  made : bytes ≡ value ++ rest

-- asterisks and digits, an equals sign, and then such a value
record SectionThen (bytes : List ℕ) : Type 0 where
  others : List ℕ
  left : List ℕ
  all : list_all (λ b. b == asterisk || is_ascii_digit b) others ≡ true
  next : ValueThen true left
  made : bytes ≡ others ++ (equals_sign ∷ left)

-- the rest of a name, an equals sign, and then a value
record NameThen (bytes : List ℕ) : Type 0 where
  starred : Bool
  others : List ℕ
  section : List ℕ
  left : List ℕ
  all : list_all is_attribute others ≡ true
  is : IsSection starred section
  next : ValueThen starred left
  made : bytes ≡ others ++ (section ++ (equals_sign ∷ left))

-- blanks, a name and a value
record BlanksThen (bytes : List ℕ) : Type 0 where
  blanks : List ℕ
  first : ℕ
  left : List ℕ
  all : list_all is_blank blanks ≡ true
  begins : is_attribute first ≡ true
  next : NameThen left
  made : bytes ≡ blanks ++ (first ∷ left)

-- a blank after a LF, and then these
record FoldThen (bytes : List ℕ) : Type 0 where
  b : ℕ
  left : List ℕ
  is : is_blank b ≡ true
  next : BlanksThen left
  made : bytes ≡ b ∷ left

record FeedThen (bytes : List ℕ) : Type 0 where
  left : List ℕ
  next : FoldThen left
  made : bytes ≡ line_feed ∷ left

-- blanks with at most one fold, a name and a value
record GapThen (bytes : List ℕ) : Type 0 where
  gap : List ℕ
  first : ℕ
  left : List ℕ
  is : IsGap gap
  begins : is_attribute first ≡ true
  next : NameThen left
  made : bytes ≡ gap ++ (first ∷ left)

abbrev LeadsOn : ValueState → List ℕ → Type 0
LeadsOn Start bytes = IsTokenWithParameters bytes
LeadsOn Token bytes = TokenThen is_restricted bytes
LeadsOn Semicolon bytes = (bytes ≡ []) ⊎ GapThen bytes
LeadsOn Blank bytes = GapThen bytes
LeadsOn Return bytes = FeedThen bytes
LeadsOn Feed bytes = FoldThen bytes
LeadsOn Fold bytes = BlanksThen bytes
LeadsOn Attribute bytes = NameThen bytes
LeadsOn Star bytes = SectionThen bytes
LeadsOn Equals bytes = ValueThen false bytes
LeadsOn StarEquals bytes = ValueThen true bytes
LeadsOn Text bytes = TokenThen is_attribute bytes
LeadsOn Extended bytes = TokenThen is_extended bytes
LeadsOn Opened bytes = QuoteThen bytes
LeadsOn Quoted bytes = QuoteThen bytes
LeadsOn Space bytes = QuoteThen bytes
LeadsOn Escaped bytes = EscapeThen bytes
LeadsOn Closed bytes = AreParameters bytes
LeadsOn Wrong bytes = ⊥

-- ---- one byte

-- the states after some tests have failed
abbrev return_or : ℕ → ValueState
return_or b = cond (b == carriage_return) Return Wrong

abbrev feed_or : ℕ → ValueState
feed_or b = cond (b == line_feed) Feed (return_or b)

abbrev blank_or : ℕ → ValueState
blank_or b = cond (is_blank b) Blank (feed_or b)

abbrev space_or : ℕ → ValueState
space_or b = cond (b == space) Space Quoted

abbrev control_or : ℕ → ValueState
control_or b = cond (is_control b) Wrong (space_or b)

abbrev backslash_or : ℕ → ValueState
backslash_or b = cond (b == backslash) Escaped (control_or b)

-- by a test that is the first of a state
module _ (b : ℕ) (rest : List ℕ) where
  if_true : (t : Bool) (so not_so : ValueState) → t ≡ true → LeadsOn (cond t so not_so) rest → LeadsOn so rest
  if_true t so not_so e h = subst (λ (s : Bool). LeadsOn (cond s so not_so) rest) e h

  if_false : (t : Bool) (so not_so : ValueState) → t ≡ false → LeadsOn (cond t so not_so) rest → LeadsOn not_so rest
  if_false t so not_so e h = subst (λ (s : Bool). LeadsOn (cond s so not_so) rest) e h

  only : (t : Bool) (so : ValueState) → LeadsOn (cond t so Wrong) rest → (t ≡ true) × LeadsOn so rest
  only true so h = (refl, h)
  only false so h = absurd h

  -- parameters after a semicolon
  after_gap : GapThen rest → AreParameters (semicolon ∷ rest)
  after_gap h =
      let name = h.next in
      let value = name.next in
      parameter value.rest h.is (record {
        first = h.first;
        others = name.others;
        section = name.section;
        characters = and_from (is_attribute h.first) _ h.begins name.all;
        is_section = name.is;
        made = refl;
      })
      value.is value.more
      (ap (λ (xs : List ℕ). semicolon ∷ xs) (h.made ∙ ap (λ (xs : List ℕ). h.gap ++ (h.first ∷ xs))
      (name.made ∙ ap (λ (xs : List ℕ). name.others ++ (name.section ++ (equals_sign ∷ xs))) value.made
      ∙ sym (append_assoc name.others name.section (equals_sign ∷ (value.value ++ value.rest))))))

  semicolon_step : LeadsOn Semicolon rest → AreParameters (semicolon ∷ rest)
  semicolon_step (inl e) = subst (λ (xs : List ℕ). AreParameters (semicolon ∷ xs)) (sym e) last_semicolon
  semicolon_step (inr h) = after_gap h

  value_step : LeadsOn (after_value b) rest → AreParameters (b ∷ rest)
  value_step h =
      let x = only (b == semicolon) Semicolon h in
      subst (λ (y : ℕ). AreParameters (y ∷ rest)) (sym (eqb-true b semicolon x.0)) (semicolon_step x.1)

  token_step : (test : ℕ → Bool) (state : ValueState) → (LeadsOn state rest → TokenThen test rest)
      → LeadsOn (cond (test b) state (after_value b)) rest → TokenThen test (b ∷ rest)
  token_step test state same h = elim (cases_Bool (test b)) [
    | inl e ↦
        let more : TokenThen test rest = same (if_true (test b) state (after_value b) e h) in
        record {
          token = b ∷ more.token;
          rest = more.rest;
          all = and_from (test b) _ e more.all;
          more = more.more;
          made = ap (λ (xs : List ℕ). b ∷ xs) more.made;
        }
    | inr e ↦
        record {
          token = [];
          rest = b ∷ rest;
          all = refl;
          more = value_step (if_false (test b) state (after_value b) e h);
          made = refl;
        }
  ]

  -- after a semicolon and blanks
  gap_step : LeadsOn (after_semicolon b) rest → GapThen (b ∷ rest)
  gap_step h = elim (cases_Bool (is_attribute b)) [
    | inl e ↦
        record {
          gap = [];
          first = b;
          left = rest;
          is = no_gap;
          begins = e;
          next = if_true (is_attribute b) Attribute (blank_or b) e h;
          made = refl;
        }
    | inr e ↦ by_blank (if_false (is_attribute b) Attribute (blank_or b) e h)
  ]
    where
      folded : (line : List ℕ) → (line ≡ codes "\n") ⊎ (line ≡ codes "\r\n") → (xs : List ℕ) → FoldThen xs → b ∷ rest ≡ line ++ xs
          → GapThen (b ∷ rest)
      folded line is xs fold made =
          let more = fold.next in
          record {
            gap = line ++ (fold.b ∷ more.blanks);
            first = more.first;
            left = more.left;
            is = gap_fold fold.b more.blanks is (and_from (is_blank fold.b) _ fold.is more.all) refl;
            begins = more.begins;
            next = more.next;
            made =
                made ∙ ap (λ (ys : List ℕ). line ++ ys) (fold.made ∙ ap (λ (ys : List ℕ). fold.b ∷ ys) more.made)
                ∙ sym (append_assoc line (fold.b ∷ more.blanks) (more.first ∷ more.left));
          }

      by_return : LeadsOn (return_or b) rest → GapThen (b ∷ rest)
      by_return h =
          let x = only (b == carriage_return) Return h in
          let feed : FeedThen rest = x.1 in
          folded (codes "\r\n") (inr refl) feed.left feed.next
          (ap (λ (y : ℕ). y ∷ rest) (eqb-true b carriage_return x.0) ∙ ap (λ (xs : List ℕ). carriage_return ∷ xs) feed.made)

      by_feed : LeadsOn (feed_or b) rest → GapThen (b ∷ rest)
      by_feed h = elim (cases_Bool (b == line_feed)) [
        | inl e ↦
            folded (codes "\n") (inl refl) rest (if_true (b == line_feed) Feed (return_or b) e h)
            (ap (λ (y : ℕ). y ∷ rest) (eqb-true b line_feed e))
        | inr e ↦ by_return (if_false (b == line_feed) Feed (return_or b) e h)
      ]

      by_blank : LeadsOn (blank_or b) rest → GapThen (b ∷ rest)
      by_blank h = elim (cases_Bool (is_blank b)) [
        | inl e ↦
            let more : GapThen rest = if_true (is_blank b) Blank (feed_or b) e h in
            record {
              gap = b ∷ more.gap;
              first = more.first;
              left = more.left;
              is = gap_blank e more.is;
              begins = more.begins;
              next = more.next;
              made = ap (λ (xs : List ℕ). b ∷ xs) more.made;
            }
        | inr e ↦ by_feed (if_false (is_blank b) Blank (feed_or b) e h)
      ]

  -- in quotes
  quote_step : LeadsOn (in_quotes b) rest → QuoteThen (b ∷ rest)
  quote_step h = elim (cases_Bool (b == quote)) [
    | inl e ↦
        record {
          text = quote ∷ [];
          rest = rest;
          quoted = end_quote;
          more = if_true (b == quote) Closed (backslash_or b) e h;
          made = ap (λ (y : ℕ). y ∷ rest) (eqb-true b quote e);
        }
    | inr e ↦ by_backslash e (if_false (b == quote) Closed (backslash_or b) e h)
  ]
    where
      plain : (b == quote) ≡ false → (b == backslash) ≡ false → is_control b ≡ false → QuoteThen rest → QuoteThen (b ∷ rest)
      plain e f g more = record {
        text = b ∷ more.text;
        rest = more.rest;
        quoted = text_byte e f g more.quoted;
        more = more.more;
        made = ap (λ (xs : List ℕ). b ∷ xs) more.made;
      }

      by_space : (b == quote) ≡ false → (b == backslash) ≡ false → is_control b ≡ false → LeadsOn (space_or b) rest
          → QuoteThen (b ∷ rest)
      by_space e f g h = elim (cases_Bool (b == space)) [
        | inl i ↦ plain e f g (if_true (b == space) Space Quoted i h)
        | inr i ↦ plain e f g (if_false (b == space) Space Quoted i h)
      ]

      by_control : (b == quote) ≡ false → (b == backslash) ≡ false → LeadsOn (control_or b) rest → QuoteThen (b ∷ rest)
      by_control e f h = elim (cases_Bool (is_control b)) [
        | inl g ↦ absurd (if_true (is_control b) Wrong (space_or b) g h)
        | inr g ↦ by_space e f g (if_false (is_control b) Wrong (space_or b) g h)
      ]

      by_backslash : (b == quote) ≡ false → LeadsOn (backslash_or b) rest → QuoteThen (b ∷ rest)
      by_backslash e h = elim (cases_Bool (b == backslash)) [
        | inl f ↦
            let escape : EscapeThen rest = if_true (b == backslash) Escaped (control_or b) f h in
            let next = escape.next in
            record {
              text = b ∷ (escape.b ∷ next.text);
              rest = next.rest;
              quoted =
                  quoted_pair escape.printable next.quoted
                  (ap (λ (y : ℕ). y ∷ (escape.b ∷ next.text)) (eqb-true b backslash f));
              more = next.more;
              made = ap (λ (xs : List ℕ). b ∷ xs) (escape.made ∙ ap (λ (xs : List ℕ). escape.b ∷ xs) next.made);
            }
        | inr f ↦ by_control e f (if_false (b == backslash) Escaped (control_or b) f h)
      ]

  escape_step : LeadsOn (cond (b == space) Space (cond (is_visible b) Quoted Wrong)) rest → EscapeThen (b ∷ rest)
  escape_step h = elim (cases_Bool (b == space)) [
    | inl e ↦
        record {
          b = b;
          left = rest;
          printable = first_true (b == space) (is_visible b) e;
          next = if_true (b == space) Space (cond (is_visible b) Quoted Wrong) e h;
          made = refl;
        }
    | inr e ↦
        let x = only (is_visible b) Quoted (if_false (b == space) Space (cond (is_visible b) Quoted Wrong) e h) in
        record { b = b; left = rest; printable = last_true (b == space) (is_visible b) x.0; next = x.1; made = refl }
  ]
    where
      first_true : (s t : Bool) → s ≡ true → (s || t) ≡ true
      first_true true t h = refl
      first_true false t h = absurd (cc)

      last_true : (s t : Bool) → t ≡ true → (s || t) ≡ true
      last_true true t h = refl
      last_true false t h = h

  -- the value of a parameter
  value_first : (starred : Bool) (state : ValueState) → (LeadsOn state rest → TokenThen (is_value_character starred) rest)
      → LeadsOn (cond (is_value_character starred b) state (cond (b == quote) Opened Wrong)) rest → ValueThen starred (b ∷ rest)
  value_first starred state same h = elim (cases_Bool (is_value_character starred b)) [
    | inl e ↦
        let more = same (if_true (is_value_character starred b) state (cond (b == quote) Opened Wrong) e h) in
        record {
          value = b ∷ more.token;
          rest = more.rest;
          is = token_value (and_from (is_value_character starred b) _ e more.all);
          more = more.more;
          made = ap (λ (xs : List ℕ). b ∷ xs) more.made;
        }
    | inr e ↦
        let x = only (b == quote) Opened (if_false (is_value_character starred b) state (cond (b == quote) Opened Wrong) e h) in
        let more : QuoteThen rest = x.1 in
        record {
          value = b ∷ more.text;
          rest = more.rest;
          is = quoted_value more.quoted (ap (λ (y : ℕ). y ∷ more.text) (eqb-true b quote x.0));
          more = more.more;
          made = ap (λ (xs : List ℕ). b ∷ xs) more.made;
        }
  ]

  -- its name
  attribute_step : LeadsOn (cond (is_attribute b) Attribute (cond (b == asterisk) Star (cond (b == equals_sign) Equals Wrong)))
      rest → NameThen (b ∷ rest)
  attribute_step h = elim (cases_Bool (is_attribute b)) [
    | inl e ↦
        let more : NameThen rest =
        if_true (is_attribute b) Attribute (cond (b == asterisk) Star (cond (b == equals_sign) Equals Wrong)) e h in
        record {
          starred = more.starred;
          others = b ∷ more.others;
          section = more.section;
          left = more.left;
          all = and_from (is_attribute b) _ e more.all;
          is = more.is;
          next = more.next;
          made = ap (λ (xs : List ℕ). b ∷ xs) more.made;
        }
    | inr e ↦
        by_asterisk (if_false (is_attribute b) Attribute (cond (b == asterisk) Star (cond (b == equals_sign) Equals Wrong)) e h)
  ]
    where
      by_asterisk : LeadsOn (cond (b == asterisk) Star (cond (b == equals_sign) Equals Wrong)) rest → NameThen (b ∷ rest)
      by_asterisk h = elim (cases_Bool (b == asterisk)) [
        | inl e ↦
            let more : SectionThen rest = if_true (b == asterisk) Star (cond (b == equals_sign) Equals Wrong) e h in
            record {
              starred = true;
              others = [];
              section = asterisk ∷ more.others;
              left = more.left;
              all = refl;
              is = asterisk_and more.all;
              next = more.next;
              made = ap (λ (y : ℕ). y ∷ rest) (eqb-true b asterisk e) ∙ ap (λ (xs : List ℕ). asterisk ∷ xs) more.made;
            }
        | inr e ↦
            let x = only (b == equals_sign) Equals (if_false (b == asterisk) Star (cond (b == equals_sign) Equals Wrong) e h) in
            record {
              starred = false;
              others = [];
              section = [];
              left = rest;
              all = refl;
              is = no_asterisk;
              next = x.1;
              made = ap (λ (y : ℕ). y ∷ rest) (eqb-true b equals_sign x.0);
            }
      ]

  star_step : LeadsOn (cond (b == asterisk || is_ascii_digit b) Star (cond (b == equals_sign) StarEquals Wrong)) rest
      → SectionThen (b ∷ rest)
  star_step h = elim (cases_Bool (b == asterisk || is_ascii_digit b)) [
    | inl e ↦
        let more : SectionThen rest =
        if_true (b == asterisk || is_ascii_digit b) Star (cond (b == equals_sign) StarEquals Wrong) e h in
        record {
          others = b ∷ more.others;
          left = more.left;
          all = and_from (b == asterisk || is_ascii_digit b) _ e more.all;
          next = more.next;
          made = ap (λ (xs : List ℕ). b ∷ xs) more.made;
        }
    | inr e ↦
        let x =
        only (b == equals_sign) StarEquals
        (if_false (b == asterisk || is_ascii_digit b) Star (cond (b == equals_sign) StarEquals Wrong) e h) in
        record { others = []; left = rest; all = refl; next = x.1; made = ap (λ (y : ℕ). y ∷ rest) (eqb-true b equals_sign x.0) }
  ]

  fold_step : LeadsOn (cond (is_attribute b) Attribute (cond (is_blank b) Fold Wrong)) rest → BlanksThen (b ∷ rest)
  fold_step h = elim (cases_Bool (is_attribute b)) [
    | inl e ↦
        record {
          blanks = [];
          first = b;
          left = rest;
          all = refl;
          begins = e;
          next = if_true (is_attribute b) Attribute (cond (is_blank b) Fold Wrong) e h;
          made = refl;
        }
    | inr e ↦
        let x = only (is_blank b) Fold (if_false (is_attribute b) Attribute (cond (is_blank b) Fold Wrong) e h) in
        let more : BlanksThen rest = x.1 in
        record {
          blanks = b ∷ more.blanks;
          first = more.first;
          left = more.left;
          all = and_from (is_blank b) _ x.0 more.all;
          begins = more.begins;
          next = more.next;
          made = ap (λ (xs : List ℕ). b ∷ xs) more.made;
        }
  ]

step : (state : ValueState) (b : ℕ) (rest : List ℕ) → LeadsOn (after_byte state b) rest → LeadsOn state (b ∷ rest)
step Start b rest h =
    let x = only b rest (is_ascii_alphanumeric b) Token h in
    let more : TokenThen is_restricted rest = x.1 in
    record {
      first = b;
      others = more.token;
      rest = more.rest;
      begins = x.0;
      characters = more.all;
      parameters = more.more;
      made = ap (λ (xs : List ℕ). b ∷ xs) more.made;
    }
step Token b rest h = token_step b rest is_restricted Token (λ x. x) h
step Semicolon b rest h = inr (gap_step b rest h)
step Blank b rest h = gap_step b rest h
step Return b rest h =
    let x = only b rest (b == line_feed) Feed h in
    record { left = rest; next = x.1; made = ap (λ (y : ℕ). y ∷ rest) (eqb-true b line_feed x.0) }
step Feed b rest h = let x = only b rest (is_blank b) Fold h in record { b = b; left = rest; is = x.0; next = x.1; made = refl }
step Fold b rest h = fold_step b rest h
step Attribute b rest h = attribute_step b rest h
step Star b rest h = star_step b rest h
step Equals b rest h = value_first b rest false Text (λ x. x) h
step StarEquals b rest h = value_first b rest true Extended (λ x. x) h
step Text b rest h = token_step b rest is_attribute Text (λ x. x) h
step Extended b rest h = token_step b rest is_extended Extended (λ x. x) h
step Opened b rest h = quote_step b rest h
step Quoted b rest h = quote_step b rest h
step Space b rest h = quote_step b rest h
step Escaped b rest h = escape_step b rest h
step Closed b rest h = value_step b rest h
step Wrong b rest h = h

leads_on : (state : ValueState) (bytes : List ℕ) → may_end (after_bytes state bytes) ≡ true → LeadsOn state bytes
leads_on state (b ∷ rest) h = step state b rest (leads_on (after_byte state b) rest h)
leads_on Start [] h = absurd (cc)
leads_on Token [] h = record { token = []; rest = []; all = refl; more = no_parameter; made = refl }
leads_on Semicolon [] h = inl refl
leads_on Blank [] h = absurd (cc)
leads_on Return [] h = absurd (cc)
leads_on Feed [] h = absurd (cc)
leads_on Fold [] h = absurd (cc)
leads_on Attribute [] h = absurd (cc)
leads_on Star [] h = absurd (cc)
leads_on Equals [] h = absurd (cc)
leads_on StarEquals [] h = absurd (cc)
leads_on Text [] h = record { token = []; rest = []; all = refl; more = no_parameter; made = refl }
leads_on Extended [] h = record { token = []; rest = []; all = refl; more = no_parameter; made = refl }
leads_on Opened [] h = absurd (cc)
leads_on Quoted [] h = absurd (cc)
leads_on Space [] h = absurd (cc)
leads_on Escaped [] h = absurd (cc)
leads_on Closed [] h = no_parameter
leads_on Wrong [] h = absurd (cc)

pub strict_of : (bytes : List ℕ) → is_strict bytes ≡ true → IsTokenWithParameters bytes
unfolding is_strict
strict_of bytes h = leads_on Start bytes h

-- ---- and back

abbrev Ends : ValueState → List ℕ → Type 0
Ends state bytes = may_end (after_bytes state bytes) ≡ true

-- characters after which the state stays
stays : (test : ℕ → Bool) (state : ValueState) → ((b : ℕ) → test b ≡ true → after_byte state b ≡ state) → (token rest : List ℕ)
    → list_all test token ≡ true
    → after_bytes state (token ++ rest) ≡ after_bytes state rest
stays test state keeps [] rest h = refl
stays test state keeps (b ∷ token) rest h =
    ap (λ (s : ValueState). after_bytes s (token ++ rest)) (keeps b (all_head test b token h))
    ∙ stays test state keeps token rest (all_tail test b token h)

-- blanks are no characters of names
blank_not : (b : ℕ) → is_blank b ≡ true → is_attribute b ≡ false
blank_not b h = elim (blanks b h) [
  | inl e ↦ subst (λ (x : ℕ). is_attribute x ≡ false) (sym e) refl
  | inr e ↦ subst (λ (x : ℕ). is_attribute x ≡ false) (sym e) refl
]

pub blank_after : (b : ℕ) → is_blank b ≡ true → after_semicolon b ≡ Blank
blank_after b h =
    miss (is_attribute b) Attribute (blank_or b) (blank_not b h) ∙ pass (is_blank b) Blank (feed_or b) h

pub blank_folds : (b : ℕ) → is_blank b ≡ true → after_byte Fold b ≡ Fold
blank_folds b h = miss (is_attribute b) Attribute (cond (is_blank b) Fold Wrong) (blank_not b h) ∙ pass (is_blank b) Fold Wrong h

-- a gap and the first character of a name
fold_ends : (first : ℕ) (blanks rest : List ℕ) (b : ℕ) → list_all is_blank (first ∷ blanks) ≡ true → is_attribute b ≡ true
    → after_bytes Feed ((first ∷ blanks) ++ (b ∷ rest)) ≡ after_bytes Attribute rest
fold_ends first blanks rest b all is =
    ap (λ (s : ValueState). after_bytes s (blanks ++ (b ∷ rest)))
    (pass (is_blank first) Fold Wrong (all_head is_blank first blanks all))
    ∙ stays is_blank Fold blank_folds blanks (b ∷ rest) (all_tail is_blank first blanks all)
    ∙ ap (λ (s : ValueState). after_bytes s rest) (pass (is_attribute b) Attribute (cond (is_blank b) Fold Wrong) is)

blank_gap : (gap rest : List ℕ) (b : ℕ) → IsGap gap → is_attribute b ≡ true
    → after_bytes Blank (gap ++ (b ∷ rest)) ≡ after_bytes Attribute rest
blank_gap gap rest b no_gap is =
    ap (λ (s : ValueState). after_bytes s rest)
    (pass (is_attribute b) Attribute (blank_or b) is)
blank_gap gap rest b (gap_blank {b = c} {rest = others} blank more) is =
    ap (λ (s : ValueState). after_bytes s (others ++ (b ∷ rest))) (blank_after c blank) ∙ blank_gap others rest b more is
blank_gap gap rest b (gap_fold first blanks (inl e) all made) is =
    ap (λ (xs : List ℕ). after_bytes Blank (xs ++ (b ∷ rest))) (made ∙ ap (λ (line : List ℕ). line ++ (first ∷ blanks)) e)
    ∙ fold_ends first blanks rest b all is
blank_gap gap rest b (gap_fold first blanks (inr e) all made) is =
    ap (λ (xs : List ℕ). after_bytes Blank (xs ++ (b ∷ rest))) (made ∙ ap (λ (line : List ℕ). line ++ (first ∷ blanks)) e)
    ∙ fold_ends first blanks rest b all is

-- after a semicolon it is the same
first_gap : (xs rest : List ℕ) (b : ℕ) → after_bytes Semicolon (xs ++ (b ∷ rest)) ≡ after_bytes Blank (xs ++ (b ∷ rest))
first_gap [] rest b = refl
first_gap (x ∷ xs) rest b = refl

-- the rest of a name
pub attribute_keeps : (b : ℕ) → is_attribute b ≡ true → after_byte Attribute b ≡ Attribute
attribute_keeps b h = pass (is_attribute b) Attribute (cond (b == asterisk) Star (cond (b == equals_sign) Equals Wrong)) h

star_keeps : (b : ℕ) → (b == asterisk || is_ascii_digit b) ≡ true → after_byte Star b ≡ Star
star_keeps b h = pass (b == asterisk || is_ascii_digit b) Star (cond (b == equals_sign) StarEquals Wrong) h

abbrev equals_of : Bool → ValueState
equals_of true = StarEquals
equals_of false = Equals

section_ends : (starred : Bool) (section rest : List ℕ) → IsSection starred section
    → after_bytes Attribute (section ++ (equals_sign ∷ rest)) ≡ after_bytes (equals_of starred) rest
section_ends starred section rest no_asterisk = refl
section_ends starred section rest (asterisk_and {others = others} all) =
    stays (λ b. b == asterisk || is_ascii_digit b) Star star_keeps others (equals_sign ∷ rest) all

-- in quotes
space_same : (text rest : List ℕ) → IsQuotedText text → after_bytes Space (text ++ rest) ≡ after_bytes Quoted (text ++ rest)
space_same text rest end_quote = refl
space_same text rest (text_byte e f g left) = refl
space_same text rest (quoted_pair is left made) =
    ap (λ (xs : List ℕ). after_bytes Space (xs ++ rest)) made ∙ sym (ap (λ (xs : List ℕ). after_bytes Quoted (xs ++ rest)) made)

opened_same : (text rest : List ℕ) → IsQuotedText text → after_bytes Opened (text ++ rest) ≡ after_bytes Quoted (text ++ rest)
opened_same text rest end_quote = refl
opened_same text rest (text_byte e f g left) = refl
opened_same text rest (quoted_pair is left made) =
    ap (λ (xs : List ℕ). after_bytes Opened (xs ++ rest)) made ∙ sym (ap (λ (xs : List ℕ). after_bytes Quoted (xs ++ rest)) made)

after_text : (t : Bool) (text rest : List ℕ) → IsQuotedText text
    → after_bytes (cond t Space Quoted) (text ++ rest) ≡ after_bytes Quoted (text ++ rest)
after_text false text rest is = refl
after_text true text rest is = space_same text rest is

after_escape : (s t : Bool) (text rest : List ℕ) → (s || t) ≡ true → IsQuotedText text
    → after_bytes (cond s Space (cond t Quoted Wrong)) (text ++ rest) ≡ after_bytes Quoted (text ++ rest)
after_escape true t text rest h is = space_same text rest is
after_escape false true text rest h is = refl
after_escape false false text rest h is = absurd (cc)

quote_goes : (text rest : List ℕ) → IsQuotedText text → after_bytes Quoted (text ++ rest) ≡ after_bytes Closed rest
quote_goes text rest end_quote = refl
quote_goes text rest (text_byte {b = b} {rest = more} e f g left) =
    ap (λ (s : ValueState). after_bytes s (more ++ rest))
    (miss (b == quote) Closed (backslash_or b) e ∙ miss (b == backslash) Escaped (control_or b) f
    ∙ miss (is_control b) Wrong (space_or b) g)
    ∙ after_text (b == space) more rest left ∙ quote_goes more rest left
quote_goes text rest (quoted_pair {b = b} {rest = more} is left made) =
    ap (λ (xs : List ℕ). after_bytes Quoted (xs ++ rest)) made ∙ after_escape (b == space) (is_visible b) more rest is left
    ∙ quote_goes more rest left

-- what follows a value leads to the end
record EndsAfter (rest : List ℕ) : Type 0 where
  token : Ends Token rest
  text : Ends Text rest
  extended : Ends Extended rest
  closed : Ends Closed rest

extended_keeps : (b : ℕ) → is_extended b ≡ true → after_byte Extended b ≡ Extended
extended_keeps b h = pass (is_extended b) Extended (after_value b) h

value_ends : (starred : Bool) (value rest : List ℕ) → IsParameterValue starred value → EndsAfter rest
    → Ends (equals_of starred) (value ++ rest)
value_ends false value rest (token_value {first = first} {others = others} all) h =
    ap (λ (s : ValueState). may_end (after_bytes s (others ++ rest)))
    (pass (is_attribute first) Text (cond (first == quote) Opened Wrong) (all_head is_attribute first others all))
    ∙ ap may_end (stays is_attribute Text text_keeps others rest (all_tail is_attribute first others all)) ∙ h.text
value_ends true value rest (token_value {first = first} {others = others} all) h =
    ap (λ (s : ValueState). may_end (after_bytes s (others ++ rest)))
    (pass (is_extended first) Extended (cond (first == quote) Opened Wrong) (all_head is_extended first others all))
    ∙ ap may_end (stays is_extended Extended extended_keeps others rest (all_tail is_extended first others all)) ∙ h.extended
value_ends false value rest (quoted_value {text = text} is made) h =
    ap (λ (xs : List ℕ). may_end (after_bytes Equals (xs ++ rest))) made
    ∙ ap may_end (opened_same text rest is ∙ quote_goes text rest is) ∙ h.closed
value_ends true value rest (quoted_value {text = text} is made) h =
    ap (λ (xs : List ℕ). may_end (after_bytes StarEquals (xs ++ rest))) made
    ∙ ap may_end (opened_same text rest is ∙ quote_goes text rest is) ∙ h.closed

parameter_ends : (starred : Bool) (gap name value rest : List ℕ) → IsGap gap → IsName starred name
    → IsParameterValue starred value → EndsAfter rest
    → Ends Semicolon (gap ++ (name ++ (equals_sign ∷ (value ++ rest))))
parameter_ends starred gap name value rest is_gap is is_value h =
    let last = equals_sign ∷ (value ++ rest) in
    ap (λ (xs : List ℕ). may_end (after_bytes Semicolon (gap ++ (xs ++ last)))) is.made
    ∙ ap may_end (first_gap gap ((is.others ++ is.section) ++ last) is.first
    ∙ blank_gap gap ((is.others ++ is.section) ++ last) is.first is_gap (all_head is_attribute is.first is.others is.characters)
    ∙ ap (after_bytes Attribute) (append_assoc is.others is.section last)
    ∙ stays is_attribute Attribute attribute_keeps is.others (is.section ++ last)
    (all_tail is_attribute is.first is.others is.characters)
    ∙ section_ends starred is.section (value ++ rest) is.is_section)
    ∙ value_ends starred value rest is_value h

parameters_end : (bytes : List ℕ) → AreParameters bytes → EndsAfter bytes
parameters_end bytes no_parameter = record { token = refl; text = refl; extended = refl; closed = refl }
parameters_end bytes last_semicolon = record { token = refl; text = refl; extended = refl; closed = refl }
parameters_end bytes (parameter {starred = starred} {gap = gap} {name = name} {value = value} rest is_gap is is_value more made) =
    let inner = parameter_ends starred gap name value rest is_gap is is_value (parameters_end rest more) in
    subst EndsAfter (sym made) (record { token = inner; text = inner; extended = inner; closed = inner })

pub of_strict : (bytes : List ℕ) → IsTokenWithParameters bytes → is_strict bytes ≡ true
unfolding is_strict
of_strict bytes is =
    ap (λ (xs : List ℕ). may_end (after_bytes Start xs)) is.made
    ∙ ap (λ (s : ValueState). may_end (after_bytes s (is.others ++ is.rest)))
    (pass (is_ascii_alphanumeric is.first) Token Wrong is.begins)
    ∙ ap may_end (stays is_restricted Token token_keeps is.others is.rest is.characters)
    ∙ (parameters_end is.rest is.parameters).token
