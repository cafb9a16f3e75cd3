-- Lemmas on what is missing in values with parameters.
use Rattle.std.proofs.Common.{◌≡◌, ◌≢◌, ◌<◌, ◌≤◌, ℕ, zero, suc, ◌-◌, Bool, true, false, eqb, leb, cond, not, ◌&&◌, ◌||◌, inl, inr, ◌⊎◌, List, [], ◌∷◌, ◌++◌, length, arith, refl, sym, ap, subst, ◌∙◌, append_assoc}
use Rattle.std.proofs.Math.Bool.{and-false}
use Rattle.std.proofs.lemmas.Bool.{cases_Bool, cond-true, cond-false, eq-eqb, false≢true, leb-true, lt-ltb, ne_eqb, or_from}
use Rattle.std.proofs.lemmas.Str.{IsUtf8-from_ascii, chars-nil, chars_past_char, encodes-chars}
use Rattle.std.specs.Char.{encode_utf8, is_ascii, is_ascii_alphabetic, is_ascii_whitespace, is_whitespace}
use Rattle.std.specs.Int.{is_in_range}
use Rattle.std.specs.Str.{chars, encode_utf8_all, IsAscii, IsUtf8}
use Rattle.mail_codec.specs.Ascii.{apostrophe, equals_sign, semicolon}
use Rattle.mail_codec.specs.Places.{is_empty}
use Rattle.mail_read.specs.lenient.Repairs.{after, apostrophes, begins_parameter, ends_name, extended_are_alone, for_extended, is_feed, is_name, is_other_space, lacking, lacks_nothing, may_follow, mended, missing, missing_apostrophes, missing_at_end, repaired, repaired_from, semicolon_unless, settled}
use Rattle.mail_read.specs.lenient.Quoting.{with_quotes}
use Rattle.mail_read.proofs.lemmas.lenient.Quoting.{quotes_ascii}
use Rattle.mail_read.specs.declared.lenient.repairs.Position.{Position}
use Rattle.mail_read.specs.declared.lenient.repairs.Position.TheVariants.{BeforeWord, InWord, AfterWord, InName, AfterStar, BeforeText, InText, AfterBlank, InQuotes, AfterBackslash, AfterText, BeforeExtended, InExtended, InRun, RunBackslash}

empty_nil : (text : List ℕ) → is_empty text ≡ true → text ≡ []
empty_nil [] none = refl
empty_nil (b ∷ bs) none = absurd (false≢true none)

encode-append : (xs ys : List ℕ) → encode_utf8_all (xs ++ ys) ≡ encode_utf8_all xs ++ encode_utf8_all ys
encode-append [] ys = refl
encode-append (x ∷ xs) ys = ap (λ (t : List ℕ). encode_utf8 x ++ t) (encode-append xs ys) ∙ sym (append_assoc (encode_utf8 x) (encode_utf8_all xs) (encode_utf8_all ys))

-- what is missing is ASCII

underscore-ascii : (t : Bool) → encode_utf8_all (cond t (95 ∷ []) []) ≡ cond t (95 ∷ []) []
unfolding encode_utf8
underscore-ascii true = refl
underscore-ascii false = refl

semicolon-ascii : (follows other : Bool) → encode_utf8_all (cond follows [] (semicolon ∷ cond other (95 ∷ []) [])) ≡ cond follows [] (semicolon ∷ cond other (95 ∷ []) [])
unfolding encode_utf8
semicolon-ascii true other = refl
semicolon-ascii false true = refl
semicolon-ascii false false = refl

apostrophes-ascii : (n : ℕ) → encode_utf8_all (apostrophes n) ≡ apostrophes n
unfolding encode_utf8
apostrophes-ascii zero = refl
apostrophes-ascii (suc zero) = refl
apostrophes-ascii (suc (suc n)) = refl

extended-ascii : (is_alone : Bool) (cs : List ℕ) → encode_utf8_all (for_extended is_alone cs) ≡ for_extended is_alone cs
extended-ascii true cs = apostrophes-ascii (lacking cs)
extended-ascii false cs = refl

if-ascii : (t : Bool) (xs : List ℕ) → encode_utf8_all xs ≡ xs → encode_utf8_all (cond t [] xs) ≡ cond t [] xs
if-ascii true xs e = refl
if-ascii false xs e = e

missing-ascii : (is_alone : Bool) (position : Position) (cs : List ℕ) → encode_utf8_all (missing is_alone position cs) ≡ missing is_alone position cs
missing-ascii is_alone position [] = refl
missing-ascii is_alone BeforeWord (c ∷ cs) = refl
missing-ascii is_alone InWord (c ∷ cs) = refl
missing-ascii is_alone AfterWord (c ∷ cs) = semicolon-ascii ((is_ascii_whitespace c || eqb c 59) || eqb c 47) (is_other_space c)
missing-ascii is_alone InName (c ∷ cs) = underscore-ascii (is_other_space c)
missing-ascii is_alone AfterStar (c ∷ cs) = underscore-ascii (is_other_space c)
missing-ascii is_alone BeforeText (c ∷ cs) = refl
missing-ascii is_alone InText (c ∷ cs) = refl
missing-ascii is_alone AfterBlank (c ∷ cs) = refl
missing-ascii is_alone InQuotes (c ∷ cs) = refl
missing-ascii is_alone AfterBackslash (c ∷ cs) = refl
missing-ascii is_alone AfterText (c ∷ cs) = semicolon-ascii (is_ascii_whitespace c || eqb c 59) (is_other_space c)
missing-ascii is_alone BeforeExtended (c ∷ cs) = if-ascii _ _ (extended-ascii is_alone (c ∷ cs))
missing-ascii is_alone InExtended (c ∷ cs) = extended-ascii is_alone (c ∷ cs)
missing-ascii is_alone InRun (c ∷ cs) = refl
missing-ascii is_alone RunBackslash (c ∷ cs) = refl

end-ascii : (position : Position) → encode_utf8_all (missing_at_end position) ≡ missing_at_end position
unfolding encode_utf8
end-ascii BeforeWord = refl
end-ascii InWord = refl
end-ascii AfterWord = refl
end-ascii InName = refl
end-ascii AfterStar = refl
end-ascii BeforeText = refl
end-ascii InText = refl
end-ascii AfterBlank = refl
end-ascii InQuotes = refl
end-ascii AfterBackslash = refl
end-ascii AfterText = refl
end-ascii BeforeExtended = refl
end-ascii InExtended = refl
end-ascii InRun = refl
end-ascii RunBackslash = refl

-- ---- the loop

-- what was made so far, and then what is made of the rest
abbrev pub repaired_with : List ℕ → Bool → Position → List ℕ → List ℕ
repaired_with made is_alone position rest = made ++ encode_utf8_all (repaired_from is_alone position (chars rest))

pub repaired-start : (text made rest : List ℕ) (is_alone : Bool) → made ≡ [] → rest ≡ text → is_alone ≡ extended_are_alone text
    → repaired_with made is_alone BeforeWord rest ≡ mended text
unfolding mended
repaired-start text made rest is_alone none all alone =
    ap (λ (m : List ℕ). repaired_with m is_alone BeforeWord rest) none
    ∙ ap (λ (r : List ℕ). encode_utf8_all (repaired_from is_alone BeforeWord (chars r))) all
    ∙ ap (λ (a : Bool). encode_utf8_all (repaired_from a BeforeWord (chars text))) alone

pub repaired-end : (made new rest : List ℕ) (is_alone : Bool) (position : Position) → rest ≡ [] → new ≡ made ++ missing_at_end position
    → repaired_with made is_alone position rest ≡ new
repaired-end made new rest is_alone position none written =
    ap (λ (r : List ℕ). made ++ encode_utf8_all (repaired_from is_alone position r)) (ap chars none ∙ chars-nil)
    ∙ ap (λ (m : List ℕ). made ++ m) (end-ascii position) ∙ sym written

step : (made new : List ℕ) (is_alone : Bool) (position next_position : Position) (c : ℕ) (cs all : List ℕ) → all ≡ c ∷ cs
    → next_position ≡ after (settled position all) c → new ≡ made ++ (missing is_alone (settled position all) all ++ encode_utf8 c)
    → new ++ encode_utf8_all (repaired_from is_alone next_position cs) ≡ made ++ encode_utf8_all (repaired_from is_alone position all)
step made new is_alone position next_position c cs all is moved written =
    let here = settled position (c ∷ cs) in
    let m = missing is_alone here (c ∷ cs) in
    let more = repaired_from is_alone (after here c) cs in
    let where_is : next_position ≡ after here c = moved ∙ ap (λ (a : List ℕ). after (settled position a) c) is in
    let what : new ≡ made ++ (m ++ encode_utf8 c) =
    written ∙ ap (λ (a : List ℕ). made ++ (missing is_alone (settled position a) a ++ encode_utf8 c)) is in
    ap (λ (k : List ℕ). k ++ encode_utf8_all (repaired_from is_alone next_position cs)) what
    ∙ ap (λ (p : Position). (made ++ (m ++ encode_utf8 c)) ++ encode_utf8_all (repaired_from is_alone p cs)) where_is
    ∙ append_assoc made (m ++ encode_utf8 c) (encode_utf8_all more)
    ∙ ap (λ (t : List ℕ). made ++ t)
    (append_assoc m (encode_utf8 c) (encode_utf8_all more)
    ∙ ap (λ (t : List ℕ). t ++ (encode_utf8 c ++ encode_utf8_all more)) (sym (missing-ascii is_alone here (c ∷ cs)))
    ∙ sym (encode-append m (c ∷ more)))
    ∙ ap (λ (a : List ℕ). made ++ encode_utf8_all (repaired_from is_alone position a)) (sym is)

pub repaired-next : (made new rest next : List ℕ) (is_alone : Bool) (position next_position : Position) (c : ℕ) → IsUtf8 rest → rest ≡ encode_utf8 c ++ next
    → next_position ≡ after (settled position (chars rest)) c
    → new ≡ made ++ (missing is_alone (settled position (chars rest)) (chars rest) ++ encode_utf8 c)
    → repaired_with new is_alone next_position next ≡ repaired_with made is_alone position rest
repaired-next made new rest next is_alone position next_position c utf8 e moved written =
    step made new is_alone position next_position c (chars next) (chars rest) (chars_past_char rest next c utf8 e) moved written

-- ---- names

pub ends_name-end : (rest : List ℕ) → rest ≡ [] → ends_name (chars rest) ≡ false
ends_name-end rest none = ap ends_name (ap chars none ∙ chars-nil)

pub ends_name-other : (rest next : List ℕ) (c : ℕ) → IsUtf8 rest → rest ≡ encode_utf8 c ++ next → is_name c ≡ false → ends_name (chars rest) ≡ eqb c equals_sign
ends_name-other rest next c utf8 e other = ap ends_name (chars_past_char rest next c utf8 e) ∙ cond-false (is_name c) _ _ other

pub ends_name-next : (rest next : List ℕ) (c : ℕ) → IsUtf8 rest → rest ≡ encode_utf8 c ++ next → is_name c ≡ true
    → ends_name (chars next) ≡ ends_name (chars rest)
ends_name-next rest next c utf8 e is = sym (ap ends_name (chars_past_char rest next c utf8 e) ∙ cond-true (is_name c) _ _ is)

pub begins-letter : (text rest next : List ℕ) (c : ℕ) → IsUtf8 text → rest ≡ text → rest ≡ encode_utf8 c ++ next → is_ascii_alphabetic c ≡ true
    → ends_name (chars next) ≡ begins_parameter (chars text)
begins-letter text rest next c utf8 all e letter =
    sym (ap begins_parameter (chars_past_char text next c utf8 (sym all ∙ e)) ∙ ap (λ (t : Bool). t && ends_name (chars next)) letter)

-- what is missing after a word or a text
at_position : (is_alone : Bool) (c : ℕ) (cs : List ℕ) (position other : Position) → position ≡ other
    → semicolon_unless (may_follow other c) c ≡ missing is_alone other (c ∷ cs)
    → semicolon_unless (may_follow position c) c ≡ missing is_alone position (c ∷ cs)
at_position is_alone c cs position other at is =
    subst (λ (p : Position). semicolon_unless (may_follow p c) c ≡ missing is_alone p (c ∷ cs)) (sym at) is

after_value : (is_alone : Bool) (c : ℕ) (cs : List ℕ) (position : Position) → (position ≡ AfterWord) ⊎ (position ≡ AfterText)
    → semicolon_unless (may_follow position c) c ≡ missing is_alone position (c ∷ cs)
after_value is_alone c cs position (inl at) = at_position is_alone c cs position AfterWord at refl
after_value is_alone c cs position (inr at) = at_position is_alone c cs position AfterText at refl

pub missing-after : (is_alone : Bool) (position : Position) (text rest next made : List ℕ) (c : ℕ) (follows : Bool) → IsUtf8 text → rest ≡ text
    → rest ≡ encode_utf8 c ++ next → (position ≡ AfterWord) ⊎ (position ≡ AfterText) → follows ≡ may_follow position c
    → made ≡ semicolon_unless follows c → made ≡ missing is_alone position (chars text)
missing-after is_alone position text rest next made c follows utf8 all e at is m =
    m ∙ ap (λ (t : Bool). semicolon_unless t c) is ∙ after_value is_alone c (chars next) position at
    ∙ sym (ap (λ (cs : List ℕ). missing is_alone position cs) (chars_past_char text next c utf8 (sym all ∙ e)))

-- ---- apostrophes

-- the search for apostrophes ends at a character
abbrev pub stops : ℕ → ℕ → Bool
stops left c = (eqb left 0 || eqb c semicolon) || eqb c equals_sign

pub stops-left : (left c : ℕ) → left ≡ 0 → stops left c ≡ true
stops-left left c e = ap (λ (t : Bool). (t || eqb c semicolon) || eqb c equals_sign) (eq-eqb left 0 e)

-- not at the first apostrophes, and so by the character
on_left : (left c : ℕ) → left ≢ 0 → stops left c ≡ (eqb c semicolon || eqb c equals_sign)
on_left left c e = ap (λ (t : Bool). (t || eqb c semicolon) || eqb c equals_sign) (ne_eqb left 0 e)

pub stops-semicolon : (left c : ℕ) → left ≢ 0 → c ≡ semicolon → stops left c ≡ true
stops-semicolon left c e f = on_left left c e ∙ ap (λ (t : Bool). t || eqb c equals_sign) (eq-eqb c semicolon f)

pub stops-equals : (left c : ℕ) → left ≢ 0 → c ≢ semicolon → c ≡ equals_sign → stops left c ≡ true
stops-equals left c e f h = on_left left c e ∙ ap (λ (t : Bool). t || eqb c equals_sign) (ne_eqb c semicolon f) ∙ eq-eqb c equals_sign h

pub goes_on : (left c : ℕ) → left ≢ 0 → c ≢ semicolon → c ≢ equals_sign → stops left c ≡ false
goes_on left c e f h = on_left left c e ∙ ap (λ (t : Bool). t || eqb c equals_sign) (ne_eqb c semicolon f) ∙ ne_eqb c equals_sign h

pub missing-end : (rest : List ℕ) (left : ℕ) → rest ≡ [] → missing_apostrophes left (chars rest) ≡ left
missing-end rest left none = ap (missing_apostrophes left) (ap chars none ∙ chars-nil)

pub missing-stop : (rest next : List ℕ) (left c : ℕ) → IsUtf8 rest → rest ≡ encode_utf8 c ++ next → stops left c ≡ true
    → missing_apostrophes left (chars rest) ≡ left
missing-stop rest next left c utf8 e stop = ap (missing_apostrophes left) (chars_past_char rest next c utf8 e) ∙ cond-true (stops left c) _ _ stop

pub missing-one : (rest next : List ℕ) (left c : ℕ) → IsUtf8 rest → rest ≡ encode_utf8 c ++ next → stops left c ≡ false → c ≡ apostrophe
    → missing_apostrophes (left - 1) (chars next) ≡ missing_apostrophes left (chars rest)
missing-one rest next left c utf8 e stop one =
    sym (ap (missing_apostrophes left) (chars_past_char rest next c utf8 e) ∙ cond-false (stops left c) _ _ stop
    ∙ ap (λ (n : ℕ). missing_apostrophes n (chars next)) (cond-true (eqb c apostrophe) _ _ (eq-eqb c apostrophe one)))

pub missing-next : (rest next : List ℕ) (left c : ℕ) → IsUtf8 rest → rest ≡ encode_utf8 c ++ next → stops left c ≡ false → c ≢ apostrophe
    → missing_apostrophes left (chars next) ≡ missing_apostrophes left (chars rest)
missing-next rest next left c utf8 e stop other =
    sym (ap (missing_apostrophes left) (chars_past_char rest next c utf8 e) ∙ cond-false (stops left c) _ _ stop
    ∙ ap (λ (n : ℕ). missing_apostrophes n (chars next)) (cond-false (eqb c apostrophe) _ _ (ne_eqb c apostrophe other)))

-- ---- values that clearly lack nothing

not_true : (t : Bool) → not t ≡ true → t ≡ false
not_true false is = refl
not_true true is = absurd (false≢true is)

-- nothing is missing before such a character, and its position after a blank has no effect
bare : (is_alone : Bool) (position : Position) (c : ℕ) (cs : List ℕ) → may_follow position c ≡ true
    → (missing is_alone (settled position (c ∷ cs)) (c ∷ cs) ≡ []) × (after (settled position (c ∷ cs)) c ≡ after position c)
bare is_alone BeforeWord c cs may = (refl, refl)
bare is_alone InWord c cs may = (refl, refl)
bare is_alone AfterWord c cs may = (cond-true _ _ _ may, refl)
bare is_alone InName c cs may = (cond-false _ _ _ (not_true (is_other_space c) may), refl)
bare is_alone AfterStar c cs may = (cond-false _ _ _ (not_true (is_other_space c) may), refl)
bare is_alone BeforeText c cs may = (refl, refl)
bare is_alone InText c cs may = (refl, refl)
bare is_alone AfterBlank c cs may =
    let settles : settled AfterBlank (c ∷ cs) ≡ InText = cond-false _ _ _ (ap (λ (t : Bool). t && ends_name cs) (not_true (is_ascii_alphabetic c) may)) in
    (ap (λ (p : Position). missing is_alone p (c ∷ cs)) settles, ap (λ (p : Position). after p c) settles)
bare is_alone InQuotes c cs may = (refl, refl)
bare is_alone AfterBackslash c cs may = (refl, refl)
bare is_alone AfterText c cs may = (cond-true _ _ _ may, refl)
bare is_alone BeforeExtended c cs may = absurd (false≢true may)
bare is_alone InExtended c cs may = absurd (false≢true may)
bare is_alone InRun c cs may = (refl, refl)
bare is_alone RunBackslash c cs may = (refl, refl)

unchanged : (is_alone : Bool) (position : Position) (cs : List ℕ) → lacks_nothing position cs ≡ true → repaired_from is_alone position cs ≡ cs
unchanged is_alone position [] none = empty_nil (missing_at_end position) none
unchanged is_alone position (c ∷ cs) none = go (may_follow position c) refl none (unchanged is_alone (after position c) cs)
  where
    go : (t : Bool) → may_follow position c ≡ t → cond t (lacks_nothing (after position c) cs) false ≡ true
        → (lacks_nothing (after position c) cs ≡ true → repaired_from is_alone (after position c) cs ≡ cs) → repaired_from is_alone position (c ∷ cs) ≡ c ∷ cs
    go true may rest ih =
        let parts = bare is_alone position c cs may in
        ap (λ (m : List ℕ). m ++ c ∷ repaired_from is_alone (after (settled position (c ∷ cs)) c) cs) parts.0
        ∙ ap (λ (p : Position). c ∷ repaired_from is_alone p cs) parts.1
        ∙ ap (λ (t : List ℕ). c ∷ t) (ih rest)
    go false may rest ih = absurd (false≢true rest)

pub whole-text : (text : List ℕ) → IsUtf8 text → lacks_nothing BeforeWord (chars text) ≡ true → text ≡ mended text
unfolding mended
whole-text text utf8 none =
    sym (ap encode_utf8_all (unchanged (extended_are_alone text) BeforeWord (chars text) none) ∙ encodes-chars text utf8)

pub whole-ascii : (text : List ℕ) → IsAscii text → lacks_nothing BeforeWord (chars text) ≡ true → text ≡ repaired text
whole-ascii text ascii none =
    sym (ap with_quotes (sym (whole-text text (IsUtf8-from_ascii text ascii) none)) ∙ quotes_ascii text ascii)

-- the test for that, in its loop

sized : (text : List ℕ) → is_empty text ≡ eqb (length text) 0
sized [] = refl
sized (b ∷ bs) = sym (ne_eqb (length (b ∷ bs)) 0 (λ e. absurd (omega arith)))

pub lacks-end : (position : Position) (rest end : List ℕ) → rest ≡ [] → end ≡ missing_at_end position
    → eqb (length end) 0 ≡ lacks_nothing position (chars rest)
lacks-end position rest end none is =
    sym (sized end) ∙ ap is_empty is ∙ sym (ap (lacks_nothing position) (ap chars none ∙ chars-nil))

pub lacks-stop : (rest next : List ℕ) (position : Position) (c : ℕ) → IsUtf8 rest → rest ≡ encode_utf8 c ++ next → may_follow position c ≡ false
    → lacks_nothing position (chars rest) ≡ false
lacks-stop rest next position c utf8 e may = ap (lacks_nothing position) (chars_past_char rest next c utf8 e) ∙ cond-false (may_follow position c) _ _ may

pub lacks-next : (rest next : List ℕ) (position next_position : Position) (c : ℕ) → IsUtf8 rest → rest ≡ encode_utf8 c ++ next → may_follow position c ≡ true
    → next_position ≡ after position c → lacks_nothing next_position (chars next) ≡ lacks_nothing position (chars rest)
lacks-next rest next position next_position c utf8 e may moved =
    ap (λ (p : Position). lacks_nothing p (chars next)) moved
    ∙ sym (ap (lacks_nothing position) (chars_past_char rest next c utf8 e) ∙ cond-true (may_follow position c) _ _ may)

-- ---- characters after which the position is the same

-- a visible ASCII character is no such whitespace
pub visible-plain : (c : ℕ) → 13 ≤ c → c ≤ 127 → is_other_space c ≡ false
visible-plain c low high =
    or_from (is_feed c) (not (is_ascii c) && is_whitespace c)
    (or_from (eqb c 11) (eqb c 12) (ne_eqb c 11 (λ e. absurd (omega (arith, low, e)))) (ne_eqb c 12 (λ e. absurd (omega (arith, low, e)))))
    (ap (λ (t : Bool). not t && is_whitespace c) (lt-ltb c 128 (omega (arith, high))))

module _ (c : ℕ) (low : 45 ≤ c) (high : c ≤ 126) (no_slash : c ≢ 47) (no_semicolon : c ≢ 59) (no_equals : c ≢ 61) (no_backslash : c ≢ 92) where
  no_range : (least most : ℕ) → most < 45 → is_in_range least most c ≡ false
  no_range least most above = elim (cases_Bool (leb c most)) [
    | inl e ↦ absurd (omega (arith, leb-true c most e))
    | inr e ↦ ap (λ t. leb least c && t) e ∙ and-false (leb least c)
  ]

  no_white : is_ascii_whitespace c ≡ false
  no_white = rw (no_range 9 10 (omega arith), no_range 12 13 (omega arith), no_range 32 32 (omega arith)) refl

  pub same-word : (may_follow InWord c ≡ true) × (after InWord c ≡ InWord)
  same-word = (refl, rw (no_white, ne_eqb c 59 no_semicolon, ne_eqb c 47 no_slash, ne_eqb c 34 (λ e. absurd (omega arith))) refl)

  pub same-name : (may_follow InName c ≡ true) × (after InName c ≡ InName)
  same-name = (ap not (visible-plain c (omega (arith, low)) (omega (arith, high))), rw (ne_eqb c 61 no_equals, ne_eqb c 42 (λ e. absurd (omega arith)), ne_eqb c 34 (λ e. absurd (omega arith))) refl)

  pub same-text : (may_follow InText c ≡ true) × (after InText c ≡ InText)
  same-text = (refl, rw (ne_eqb c 59 no_semicolon, ne_eqb c 34 (λ e. absurd (omega arith)), no_white) refl)

  pub enter-word : (may_follow BeforeWord c ≡ true) × (after BeforeWord c ≡ InWord)
  enter-word = (refl, rw (no_white, ne_eqb c 59 no_semicolon, ne_eqb c 47 no_slash, ne_eqb c 34 (λ e. absurd (omega arith))) refl)

  pub enter-text : (may_follow BeforeText c ≡ true) × (after BeforeText c ≡ InText)
  enter-text = (refl, rw (no_white, ne_eqb c 59 no_semicolon, ne_eqb c 34 (λ e. absurd (omega arith))) refl)
