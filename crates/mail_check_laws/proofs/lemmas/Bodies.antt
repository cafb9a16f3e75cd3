-- The bodies in which nothing is found are those of the grammar of strict messages.
use Rattle.std.proofs.Common.{◌≡◌, ◌∙◌, ◌+◌, ℕ, zero, suc, Bool, true, false, not, cond, List, [], ◌∷◌, ◌++◌, drop, Option, Some, None, refl, sym, ap, subst, inl, inr, arith}
use Rattle.std.specs.Prelude.{◌⊎◌, ◌&&◌, ◌||◌, ◌==◌, codes}
use Rattle.std.specs.List.{list_all}
use Rattle.std.proofs.lemmas.Bool.{eqb-true}
use Rattle.std.proofs.lemmas.Bool.{and_from, and_left, and_parts, and_right, cases_Bool, not-false, not-true, not_from_false, not_from_true, or_from, or_parts}
use Rattle.mail_codec.specs.Ascii.{carriage_return, equals_sign, is_blank, line_feed}
use Rattle.mail_codec.specs.Places.{begins, has_prefix}
use Rattle.mail_check.specs.Bodies.{after_byte, after_bytes, is_base64_lines, is_letter, line_end_or_wrong, may_end}
use Rattle.mail_check.specs.Bytes.{byte_at, earlier, has_line_end, is_bad_escape, is_control, is_end_blank, is_escape_digit, is_escaped_end, is_line_left}
use Rattle.mail_check.specs.Clean.{Nowhere}
use Rattle.mail_check.specs.declared.bodies.Base64State.{Base64State}
use Rattle.mail_check.specs.declared.bodies.Base64State.TheVariants.{Start, One, Two, Three, Whole, Return, Pad, Padded, End, EndReturn, Wrong}
use Rattle.mail_grammar.specs.Bodies.{is_upper_digit, GoesOn, other_next, return_next, FollowsEquals, digits, soft_break, IsQuotedPrintable, quoted_end, quoted_byte, quoted_blank, quoted_equals, is_base64_letter}
use Rattle.mail_grammar.specs.Bodies.{AreLineEnds, no_line_end, one_line_end, IsBase64, base64_end, group, three_letters, two_letters, base64_line, empty_line}
use Rattle.mail_grammar.specs.Delimiters.{EndsLine, no_more_bytes, line_ends}
use Rattle.mail_check.proofs.lemmas.Booleans.{second_false}
use Rattle.mail_check_laws.proofs.lemmas.Delimiters.{ends_line}
use Rattle.mail_check_laws.proofs.lemmas.Fields.{blanks}
use Rattle.mail_check_laws.proofs.lemmas.Headers.{left_at}
use Rattle.mail_grammar.proofs.lemmas.Boundaries.{all_head, all_tail}

-- ---- bytes

-- a byte that passes a test is not one that fails it
other_than : (test : ℕ → Bool) (b c : ℕ) → test b ≡ true → test c ≡ false → (b == c) ≡ false
other_than test b c h e = elim (cases_Bool (b == c)) [
  | inr f ↦ f
  | inl f ↦ let yes : test c ≡ true = subst (λ (x : ℕ). test x ≡ true) (eqb-true b c f) h in absurd (cc)
]

pub not_earlier : (p q : Option ℕ) → earlier p q ≡ None → (p ≡ None) × (q ≡ None)
not_earlier None q h = (refl, h)
not_earlier (Some p) None h = absurd (cc)
not_earlier (Some p) (Some q) h = absurd (cc)

pub none_earlier : (p q : Option ℕ) → p ≡ None → q ≡ None → earlier p q ≡ None
none_earlier None q h e = e
none_earlier (Some p) q h e = absurd (cc)

-- ---- what follows an equals sign

abbrev is_end_byte : ℕ → Bool
is_end_byte b = b == carriage_return || b == line_feed

-- what the searches say of it
abbrev no_escape : List ℕ → Bool
no_escape rest = not (has_line_end rest || (begins is_escape_digit rest && begins is_escape_digit (drop 1 rest)))

abbrev ends_escaped : List ℕ → Bool
ends_escaped rest = list_all is_end_byte rest || (has_prefix (codes "0D") rest || has_prefix (codes "0A") rest)

broken : (xs : List ℕ) → EndsLine xs → list_all is_end_byte xs ≡ false → FollowsEquals xs
broken xs no_more_bytes h = absurd (cc)
broken xs (line_ends rest (inl e) made) h =
    let whole : xs ≡ 10 ∷ rest = made ∙ ap (λ (line : List ℕ). line ++ rest) e in
    let other : list_all is_end_byte rest ≡ false = subst (λ (ys : List ℕ). list_all is_end_byte ys ≡ false) whole h in
    soft_break rest (inl refl) other whole
broken xs (line_ends rest (inr e) made) h =
    let whole : xs ≡ 13 ∷ 10 ∷ rest = made ∙ ap (λ (line : List ℕ). line ++ rest) e in
    let other : list_all is_end_byte rest ≡ false = subst (λ (ys : List ℕ). list_all is_end_byte ys ≡ false) whole h in
    soft_break rest (inr refl) other whole

right_true : (s t : Bool) → s ≡ false → (s || t) ≡ true → t ≡ true
right_true false t e h = h
right_true true t e h = absurd (cc)

either_true : (s t : Bool) → t ≡ true → (s || t) ≡ true
either_true true t h = refl
either_true false t h = h

follows : (rest : List ℕ) → no_escape rest ≡ false → ends_escaped rest ≡ false → FollowsEquals rest
follows [] h e = absurd (cc)
follows (b ∷ rest) h e =
    let some = not-false (has_line_end (b ∷ rest) || (begins is_escape_digit (b ∷ rest) && begins is_escape_digit rest)) h in
    let first = or_parts (list_all is_end_byte (b ∷ rest)) _ e in
    let second = or_parts (has_prefix (codes "0D") (b ∷ rest)) (has_prefix (codes "0A") (b ∷ rest)) first.1 in
    elim (cases_Bool (has_line_end (b ∷ rest))) [
      | inl f ↦ broken (b ∷ rest) (ends_line (b ∷ rest) f) first.0
      | inr f ↦ by_digits rest (and_parts (is_escape_digit b) (begins is_escape_digit rest) (right_true (has_line_end (b ∷ rest)) _ f some)) second.0 second.1
    ]
  where
    by_digits : (rest : List ℕ) → (is_escape_digit b ≡ true) × (begins is_escape_digit rest ≡ true) → has_prefix (codes "0D") (b ∷ rest) ≡ false
        → has_prefix (codes "0A") (b ∷ rest) ≡ false → FollowsEquals (b ∷ rest)
    by_digits [] both f g = let no : false ≡ true = both.1 in absurd (cc)
    by_digits (c ∷ rest) both f g = digits rest both.0 both.1 f g

follows_back : (rest : List ℕ) → FollowsEquals rest → (no_escape rest ≡ false) × (ends_escaped rest ≡ false)
follows_back xs (digits {high = high} {low = low} rest is also first second) = (
  not_from_true (has_line_end (high ∷ (low ∷ rest)) || (is_escape_digit high && is_escape_digit low))
      (either_true (has_line_end (high ∷ (low ∷ rest))) _ (and_from (is_escape_digit high) (is_escape_digit low) is also)),
  or_from (list_all is_end_byte (high ∷ (low ∷ rest))) _
      (and_left (is_end_byte high) _ (or_from (high == carriage_return) (high == line_feed) (other_than is_upper_digit high carriage_return is refl) (other_than is_upper_digit high line_feed is refl)))
      (or_from (has_prefix (codes "0D") (high ∷ (low ∷ rest))) (has_prefix (codes "0A") (high ∷ (low ∷ rest))) first second),
)
follows_back xs (soft_break rest (inl e) other made) =
    subst (λ (ys : List ℕ). (no_escape ys ≡ false) × (ends_escaped ys ≡ false)) (sym (made ∙ ap (λ (line : List ℕ). line ++ rest) e))
    (refl, or_from (list_all is_end_byte rest) false other refl)
follows_back xs (soft_break rest (inr e) other made) =
    subst (λ (ys : List ℕ). (no_escape ys ≡ false) × (ends_escaped ys ≡ false)) (sym (made ∙ ap (λ (line : List ℕ). line ++ rest) e))
    (refl, or_from (list_all is_end_byte rest) false other refl)

-- ---- blanks

goes_on : (rest : List ℕ) → is_line_left rest ≡ false → GoesOn rest
goes_on [] h = absurd (cc)
goes_on (b ∷ rest) h =
    let parts = or_parts (b == line_feed) _ (sym (left_at b rest) ∙ h) in
    elim (cases_Bool (b == carriage_return)) [
      | inl e ↦ return_next rest (second_false (b == carriage_return) _ e parts.1) (ap (λ (x : ℕ). x ∷ rest) (eqb-true b carriage_return e))
      | inr e ↦ other_next rest e parts.0
    ]

line_goes : (rest : List ℕ) → GoesOn rest → is_line_left rest ≡ false
line_goes xs (other_next {b = b} rest e f) = left_at b rest ∙ or_from (b == line_feed) _ f (and_left (b == carriage_return) _ e)
line_goes xs (return_next rest e made) = subst (λ (ys : List ℕ). is_line_left ys ≡ false) (sym made) (left_at carriage_return rest ∙ e)

-- ---- quoted-printable

-- nothing is found in such a body
pub record QuotedFree (bytes : List ℕ) : Type 0 where
  pub escapes : Nowhere (is_bad_escape bytes) bytes
  pub ends : Nowhere (is_escaped_end bytes) bytes
  pub blanks : Nowhere (is_end_blank bytes) bytes
  pub controls : list_all (λ b. not (is_control b)) bytes ≡ true

next_of : (p : ℕ) → suc p + 1 ≡ suc (p + 1)
next_of p = omega arith

escape_next : (b : ℕ) (rest : List ℕ) (p : ℕ) → is_bad_escape (b ∷ rest) (suc p) ≡ is_bad_escape rest p
escape_next b rest p = ap (λ (n : ℕ). byte_at rest p equals_sign && no_escape (drop n (b ∷ rest))) (next_of p)

end_next : (b : ℕ) (rest : List ℕ) (p : ℕ) → is_escaped_end (b ∷ rest) (suc p) ≡ is_escaped_end rest p
end_next b rest p = ap (λ (n : ℕ). byte_at rest p equals_sign && ends_escaped (drop n (b ∷ rest))) (next_of p)

blank_next : (b : ℕ) (rest : List ℕ) (p : ℕ) → is_end_blank (b ∷ rest) (suc p) ≡ is_end_blank rest p
blank_next b rest p = ap (λ (n : ℕ). begins is_blank (drop p rest) && is_line_left (drop n (b ∷ rest))) (next_of p)

fewer : (b : ℕ) (rest : List ℕ) → QuotedFree (b ∷ rest) → QuotedFree rest
fewer b rest h = record {
  escapes = λ p low. sym (escape_next b rest p) ∙ h.escapes (suc p) (omega (arith, low));
  ends = λ p low. sym (end_next b rest p) ∙ h.ends (suc p) (omega (arith, low));
  blanks = λ p low. sym (blank_next b rest p) ∙ h.blanks (suc p) (omega (arith, low));
  controls = all_tail (λ b. not (is_control b)) b rest h.controls;
}

nowhere_more : (test other : ℕ → Bool) (b : ℕ) (rest : List ℕ) → ((p : ℕ) → test (suc p) ≡ other p) → test 0 ≡ false → Nowhere other rest → Nowhere test (b ∷ rest)
nowhere_more test other b rest next first h zero low = first
nowhere_more test other b rest next first h (suc p) low = next p ∙ h p (omega (arith, low))

more : (b : ℕ) (rest : List ℕ) → is_bad_escape (b ∷ rest) 0 ≡ false → is_escaped_end (b ∷ rest) 0 ≡ false → is_end_blank (b ∷ rest) 0 ≡ false → is_control b ≡ false
    → QuotedFree rest → QuotedFree (b ∷ rest)
more b rest escape end blank control h = record {
  escapes = nowhere_more (is_bad_escape (b ∷ rest)) (is_bad_escape rest) b rest (escape_next b rest) escape h.escapes;
  ends = nowhere_more (is_escaped_end (b ∷ rest)) (is_escaped_end rest) b rest (end_next b rest) end h.ends;
  blanks = nowhere_more (is_end_blank (b ∷ rest)) (is_end_blank rest) b rest (blank_next b rest) blank h.blanks;
  controls = and_from (not (is_control b)) _ (not_from_false (is_control b) control) h.controls;
}

pub quoted_of : (bytes : List ℕ) → QuotedFree bytes → IsQuotedPrintable bytes
quoted_of [] h = quoted_end
quoted_of (b ∷ rest) h =
    let others = quoted_of rest (fewer b rest h) in
    elim (cases_Bool (b == equals_sign)) [
      | inl e ↦ quoted_equals (follows rest (second_false (b == equals_sign) _ e (h.escapes 0 (omega arith))) (second_false (b == equals_sign) _ e (h.ends 0 (omega arith)))) others
          (ap (λ (x : ℕ). x ∷ rest) (eqb-true b equals_sign e))
      | inr e ↦ elim (cases_Bool (is_blank b)) [
        | inl f ↦ quoted_blank f (goes_on rest (second_false (is_blank b) _ f (h.blanks 0 (omega arith)))) others
        | inr f ↦ quoted_byte e f (not-true (is_control b) (all_head (λ b. not (is_control b)) b rest h.controls)) others
      ]
    ]

pub of_quoted : (bytes : List ℕ) → IsQuotedPrintable bytes → QuotedFree bytes
of_quoted bytes quoted_end = record {
  escapes = λ p low. absurd (omega (arith, low));
  ends = λ p low. absurd (omega (arith, low));
  blanks = λ p low. absurd (omega (arith, low));
  controls = refl;
}
of_quoted bytes (quoted_byte {b = b} {rest = rest} e f g others) =
    more b rest (and_left (b == equals_sign) _ e) (and_left (b == equals_sign) _ e) (and_left (is_blank b) _ f) g (of_quoted rest others)
of_quoted bytes (quoted_blank {b = b} {rest = rest} is goes others) =
    let e = other_than is_blank b equals_sign is refl in
    let control : is_control b ≡ false = elim (blanks b is) [
      | inl f ↦ subst (λ (x : ℕ). is_control x ≡ false) (sym f) refl
      | inr f ↦ subst (λ (x : ℕ). is_control x ≡ false) (sym f) refl
    ] in
    more b rest (and_left (b == equals_sign) _ e) (and_left (b == equals_sign) _ e) (and_right (is_blank b) _ (line_goes rest goes)) control (of_quoted rest others)
of_quoted bytes (quoted_equals {rest = rest} follow others made) =
    let tests = follows_back rest follow in
    subst QuotedFree (sym made) (more equals_sign rest tests.0 tests.1 refl refl (of_quoted rest others))

-- ---- Base64

-- a byte, and then bytes of which something is so
record AfterByte (c : ℕ) (P : List ℕ → Type 0) (bytes : List ℕ) : Type 0 where
  rest : List ℕ
  made : bytes ≡ c ∷ rest
  is : P rest

-- what is so of the bytes after a state from which they lead to the end
abbrev LeadsOn : Base64State → List ℕ → Type 0
LeadsOn Start bytes = IsBase64 false bytes
LeadsOn One bytes = (s : Bool) (a : ℕ) → is_base64_letter a ≡ true → IsBase64 s (a ∷ bytes)
LeadsOn Two bytes = (s : Bool) (a b : ℕ) → is_base64_letter a ≡ true → is_base64_letter b ≡ true → IsBase64 s (a ∷ (b ∷ bytes))
LeadsOn Three bytes = (s : Bool) (a b c : ℕ) → is_base64_letter a ≡ true → is_base64_letter b ≡ true → is_base64_letter c ≡ true → IsBase64 s (a ∷ (b ∷ (c ∷ bytes)))
LeadsOn Whole bytes = IsBase64 true bytes
LeadsOn Return bytes = AfterByte line_feed (IsBase64 false) bytes
LeadsOn Pad bytes = AfterByte equals_sign AreLineEnds bytes
LeadsOn Padded bytes = AreLineEnds bytes
LeadsOn End bytes = AreLineEnds bytes
LeadsOn EndReturn bytes = AfterByte line_feed AreLineEnds bytes
LeadsOn Wrong bytes = ⊥

by_line : (feed return : Base64State) (b : ℕ) (rest : List ℕ) → LeadsOn (line_end_or_wrong b feed return) rest
    → ((b ≡ line_feed) × LeadsOn feed rest) ⊎ ((b ≡ carriage_return) × LeadsOn return rest)
by_line feed return b rest h = elim (cases_Bool (b == line_feed)) [
  | inl e ↦ inl (eqb-true b line_feed e, subst (λ (t : Bool). LeadsOn (cond t feed (cond (b == carriage_return) return Wrong)) rest) e h)
  | inr e ↦
      let next : LeadsOn (cond (b == carriage_return) return Wrong) rest = subst (λ (t : Bool). LeadsOn (cond t feed (cond (b == carriage_return) return Wrong)) rest) e h in
      elim (cases_Bool (b == carriage_return)) [
        | inl f ↦ inr (eqb-true b carriage_return f, subst (λ (t : Bool). LeadsOn (cond t return Wrong) rest) f next)
        | inr f ↦ absurd (subst (λ (t : Bool). LeadsOn (cond t return Wrong) rest) f next)
      ]
]

by_byte : (c : ℕ) (then : Base64State) (b : ℕ) (rest : List ℕ) → LeadsOn (cond (b == c) then Wrong) rest → (b ≡ c) × LeadsOn then rest
by_byte c then b rest h = elim (cases_Bool (b == c)) [
  | inl e ↦ (eqb-true b c e, subst (λ (t : Bool). LeadsOn (cond t then Wrong) rest) e h)
  | inr e ↦ absurd (subst (λ (t : Bool). LeadsOn (cond t then Wrong) rest) e h)
]

ends_step : (b : ℕ) (rest : List ℕ) → LeadsOn (line_end_or_wrong b End EndReturn) rest → AreLineEnds (b ∷ rest)
ends_step b rest h = elim (by_line End EndReturn b rest h) [
  | inl x ↦ one_line_end (inl refl) x.1 (ap (λ (y : ℕ). y ∷ rest) x.0)
  | inr x ↦
      let next : AfterByte line_feed AreLineEnds rest = x.1 in
      one_line_end (inr refl) next.is (ap (λ (y : ℕ). y ∷ rest) x.0 ∙ ap (λ (ys : List ℕ). carriage_return ∷ ys) next.made)
]

step : (state : Base64State) (b : ℕ) (rest : List ℕ) → LeadsOn (after_byte state b) rest → LeadsOn state (b ∷ rest)
step Start b rest h = elim (cases_Bool (is_letter b)) [
  | inl e ↦ let one : LeadsOn One rest = subst (λ (t : Bool). LeadsOn (cond t One (line_end_or_wrong b End EndReturn)) rest) e h in one false b e
  | inr e ↦ elim (by_line End EndReturn b rest (subst (λ (t : Bool). LeadsOn (cond t One (line_end_or_wrong b End EndReturn)) rest) e h)) [
    | inl x ↦ empty_line (inl refl) x.1 (ap (λ (y : ℕ). y ∷ rest) x.0)
    | inr x ↦
        let next : AfterByte line_feed AreLineEnds rest = x.1 in
        empty_line (inr refl) next.is (ap (λ (y : ℕ). y ∷ rest) x.0 ∙ ap (λ (ys : List ℕ). carriage_return ∷ ys) next.made)
  ]
]
step One b rest h = elim (cases_Bool (is_letter b)) [
  | inl e ↦ let two : LeadsOn Two rest = subst (λ (t : Bool). LeadsOn (cond t Two Wrong) rest) e h in λ s a is. two s a b is e
  | inr e ↦ absurd (subst (λ (t : Bool). LeadsOn (cond t Two Wrong) rest) e h)
]
step Two b rest h = elim (cases_Bool (is_letter b)) [
  | inl e ↦ let three : LeadsOn Three rest = subst (λ (t : Bool). LeadsOn (cond t Three (cond (b == equals_sign) Pad Wrong)) rest) e h in λ s a c is also. three s a c b is also e
  | inr e ↦
      let pad = by_byte equals_sign Pad b rest (subst (λ (t : Bool). LeadsOn (cond t Three (cond (b == equals_sign) Pad Wrong)) rest) e h) in
      let next : AfterByte equals_sign AreLineEnds rest = pad.1 in
      λ s a c is also. two_letters is also next.is (ap (λ (x : ℕ). a ∷ (c ∷ (x ∷ rest))) pad.0 ∙ ap (λ (xs : List ℕ). a ∷ (c ∷ (equals_sign ∷ xs))) next.made)
]
step Three b rest h = elim (cases_Bool (is_letter b)) [
  | inl e ↦ let whole : LeadsOn Whole rest = subst (λ (t : Bool). LeadsOn (cond t Whole (cond (b == equals_sign) Padded Wrong)) rest) e h in λ s a c d is also third. group is also third e whole
  | inr e ↦
      let pad = by_byte equals_sign Padded b rest (subst (λ (t : Bool). LeadsOn (cond t Whole (cond (b == equals_sign) Padded Wrong)) rest) e h) in
      λ s a c d is also third. three_letters is also third pad.1 (ap (λ (x : ℕ). a ∷ (c ∷ (d ∷ (x ∷ rest)))) pad.0)
]
step Whole b rest h = elim (cases_Bool (is_letter b)) [
  | inl e ↦ let one : LeadsOn One rest = subst (λ (t : Bool). LeadsOn (cond t One (line_end_or_wrong b Start Return)) rest) e h in one true b e
  | inr e ↦ elim (by_line Start Return b rest (subst (λ (t : Bool). LeadsOn (cond t One (line_end_or_wrong b Start Return)) rest) e h)) [
    | inl x ↦ base64_line (inl refl) x.1 (ap (λ (y : ℕ). y ∷ rest) x.0)
    | inr x ↦
        let next : AfterByte line_feed (IsBase64 false) rest = x.1 in
        base64_line (inr refl) next.is (ap (λ (y : ℕ). y ∷ rest) x.0 ∙ ap (λ (ys : List ℕ). carriage_return ∷ ys) next.made)
  ]
]
step Return b rest h = let x = by_byte line_feed Start b rest h in record { rest = rest; made = ap (λ (y : ℕ). y ∷ rest) x.0; is = x.1 }
step Pad b rest h = let x = by_byte equals_sign Padded b rest h in record { rest = rest; made = ap (λ (y : ℕ). y ∷ rest) x.0; is = x.1 }
step Padded b rest h = ends_step b rest h
step End b rest h = ends_step b rest h
step EndReturn b rest h = let x = by_byte line_feed End b rest h in record { rest = rest; made = ap (λ (y : ℕ). y ∷ rest) x.0; is = x.1 }
step Wrong b rest h = h

leads_on : (state : Base64State) (bytes : List ℕ) → may_end (after_bytes state bytes) ≡ true → LeadsOn state bytes
leads_on state (b ∷ rest) h = step state b rest (leads_on (after_byte state b) rest h)
leads_on Start [] h = base64_end
leads_on One [] h = absurd (cc)
leads_on Two [] h = absurd (cc)
leads_on Three [] h = absurd (cc)
leads_on Whole [] h = base64_end
leads_on Return [] h = absurd (cc)
leads_on Pad [] h = absurd (cc)
leads_on Padded [] h = no_line_end
leads_on End [] h = no_line_end
leads_on EndReturn [] h = absurd (cc)
leads_on Wrong [] h = absurd (cc)

-- and back
ends_back : (bytes : List ℕ) → AreLineEnds bytes → may_end (after_bytes End bytes) ≡ true
ends_back bytes no_line_end = refl
ends_back bytes (one_line_end {rest = rest} (inl e) others made) =
    subst (λ (xs : List ℕ). may_end (after_bytes End xs) ≡ true) (sym (made ∙ ap (λ (line : List ℕ). line ++ rest) e)) (ends_back rest others)
ends_back bytes (one_line_end {rest = rest} (inr e) others made) =
    subst (λ (xs : List ℕ). may_end (after_bytes End xs) ≡ true) (sym (made ∙ ap (λ (line : List ℕ). line ++ rest) e)) (ends_back rest others)

padded_back : (bytes : List ℕ) → AreLineEnds bytes → may_end (after_bytes Padded bytes) ≡ true
padded_back bytes no_line_end = refl
padded_back bytes (one_line_end {rest = rest} (inl e) others made) =
    subst (λ (xs : List ℕ). may_end (after_bytes Padded xs) ≡ true) (sym (made ∙ ap (λ (line : List ℕ). line ++ rest) e)) (ends_back rest others)
padded_back bytes (one_line_end {rest = rest} (inr e) others made) =
    subst (λ (xs : List ℕ). may_end (after_bytes Padded xs) ≡ true) (sym (made ∙ ap (λ (line : List ℕ). line ++ rest) e)) (ends_back rest others)

abbrev at : Bool → Base64State
at true = Whole
at false = Start

end_there : (s : Bool) → may_end (at s) ≡ true
end_there true = refl
end_there false = refl

first_letter : (s : Bool) (a : ℕ) → is_base64_letter a ≡ true → after_byte (at s) a ≡ One
first_letter true a is = ap (λ (t : Bool). cond t One (line_end_or_wrong a Start Return)) is
first_letter false a is = ap (λ (t : Bool). cond t One (line_end_or_wrong a End EndReturn)) is

two_read : (s : Bool) (a b : ℕ) (rest : List ℕ) → is_base64_letter a ≡ true → is_base64_letter b ≡ true → after_bytes (at s) (a ∷ (b ∷ rest)) ≡ after_bytes Two rest
two_read s a b rest is also =
    ap (λ (state : Base64State). after_bytes (after_byte state b) rest) (first_letter s a is) ∙ ap (λ (t : Bool). after_bytes (cond t Two Wrong) rest) also

three_read : (s : Bool) (a b c : ℕ) (rest : List ℕ) → is_base64_letter a ≡ true → is_base64_letter b ≡ true → is_base64_letter c ≡ true
    → after_bytes (at s) (a ∷ (b ∷ (c ∷ rest))) ≡ after_bytes Three rest
three_read s a b c rest is also third = two_read s a b (c ∷ rest) is also ∙ ap (λ (t : Bool). after_bytes (cond t Three (cond (c == equals_sign) Pad Wrong)) rest) third

base64_back : (s : Bool) (bytes : List ℕ) → IsBase64 s bytes → may_end (after_bytes (at s) bytes) ≡ true
base64_back s bytes base64_end = end_there s
base64_back s bytes (group {a = a} {b = b} {c = c} {d = d} {rest = rest} is also third fourth others) =
    ap may_end (three_read s a b c (d ∷ rest) is also third)
    ∙ ap (λ (t : Bool). may_end (after_bytes (cond t Whole (cond (d == equals_sign) Padded Wrong)) rest)) fourth
    ∙ base64_back true rest others
base64_back s bytes (three_letters {a = a} {b = b} {c = c} {rest = rest} is also third others made) =
    ap (λ (xs : List ℕ). may_end (after_bytes (at s) xs)) made ∙ ap may_end (three_read s a b c (equals_sign ∷ rest) is also third) ∙ padded_back rest others
base64_back s bytes (two_letters {a = a} {b = b} {rest = rest} is also others made) =
    ap (λ (xs : List ℕ). may_end (after_bytes (at s) xs)) made ∙ ap may_end (two_read s a b (equals_sign ∷ (equals_sign ∷ rest)) is also) ∙ padded_back rest others
base64_back s bytes (base64_line {rest = rest} (inl e) others made) =
    subst (λ (xs : List ℕ). may_end (after_bytes Whole xs) ≡ true) (sym (made ∙ ap (λ (line : List ℕ). line ++ rest) e)) (base64_back false rest others)
base64_back s bytes (base64_line {rest = rest} (inr e) others made) =
    subst (λ (xs : List ℕ). may_end (after_bytes Whole xs) ≡ true) (sym (made ∙ ap (λ (line : List ℕ). line ++ rest) e)) (base64_back false rest others)
base64_back s bytes (empty_line {rest = rest} (inl e) others made) =
    subst (λ (xs : List ℕ). may_end (after_bytes Start xs) ≡ true) (sym (made ∙ ap (λ (line : List ℕ). line ++ rest) e)) (ends_back rest others)
base64_back s bytes (empty_line {rest = rest} (inr e) others made) =
    subst (λ (xs : List ℕ). may_end (after_bytes Start xs) ≡ true) (sym (made ∙ ap (λ (line : List ℕ). line ++ rest) e)) (ends_back rest others)

pub base64_of : (bytes : List ℕ) → is_base64_lines bytes ≡ true → IsBase64 false bytes
unfolding is_base64_lines
base64_of bytes h = leads_on Start bytes h

pub of_base64 : (bytes : List ℕ) → IsBase64 false bytes → is_base64_lines bytes ≡ true
unfolding is_base64_lines
of_base64 bytes h = base64_back false bytes h
