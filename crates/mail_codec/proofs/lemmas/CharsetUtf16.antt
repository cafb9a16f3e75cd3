-- UTF-16, a character at a time.
use Rattle.std.proofs.Common.{◌≡◌, ℕ, ◌+◌, ◌<◌, ◌≤◌, Bool, true, false, cond, not, ◌&&◌, List, [], ◌∷◌, ◌++◌, drop, length, get_or, refl, sym, ap, ◌∙◌, arith, unwrap_or, Option, None, Some, true≢false, inl, inr, append-nil, append_assoc, drop-drop, encode_utf8, encode_utf8_all}
use Rattle.std.specs.Char.{InScalarRange, OutOfScalarRange}
use Rattle.std.specs.Char.Utf16.{is_high_surrogate, is_low_surrogate, surrogate_pair_char, lone_unit_char, utf16_lossy_chars}
use Rattle.std.proofs.lemmas.Bool.Decides.{nat_tests}
use Rattle.std.proofs.lemmas.Str.{utf16_chars-nil, utf16_chars_lone, utf16_chars_pair}
use Rattle.std.proofs.str.Utf16.{IsPair}
use Rattle.mail_codec.specs.Charset.{units, has_odd_end, ends_in_high, utf_16_chars, replacement}

-- the first unit, and the second
abbrev pub first_unit : (ℕ → ℕ → ℕ) → List ℕ → ℕ
first_unit order bs = order (get_or bs 0 0) (get_or bs 1 0)

abbrev pub second_unit : (ℕ → ℕ → ℕ) → List ℕ → ℕ
second_unit order bs = order (get_or bs 2 0) (get_or bs 3 0)

-- the characters of units, and the one of an odd last byte
abbrev pub chars_of : List ℕ → Bool → List ℕ
chars_of us odd = utf16_lossy_chars us ++ cond (odd && not (ends_in_high us)) (replacement ∷ []) []

high_is : (u : ℕ) → 0xD800 ≤ u → u < 0xDC00 → is_high_surrogate u ≡ true
high_is u from to = grind (arith, nat_tests)

low_is : (u : ℕ) → 0xDC00 ≤ u → u < 0xE000 → is_low_surrogate u ≡ true
low_is u from to = grind (arith, nat_tests)

is_pair : (u v : ℕ) → is_high_surrogate u ≡ true → is_low_surrogate v ≡ true → IsPair u v
is_pair u v high low = (grind (arith, nat_tests), grind (arith, nat_tests), grind (arith, nat_tests), grind (arith, nat_tests))

low_not_high : (u : ℕ) → is_low_surrogate u ≡ true → is_high_surrogate u ≡ false
low_not_high u low = grind (arith, nat_tests)

high_alone : (u : ℕ) → is_high_surrogate u ≡ true → lone_unit_char u ≡ None
high_alone u high = grind (arith, nat_tests)

ends_alike : (u : ℕ) (us : List ℕ) → is_high_surrogate u ≡ false → ends_in_high (u ∷ us) ≡ ends_in_high us
ends_alike u [] low = low
ends_alike u (v ∷ us) low = refl

-- a unit that does not begin a pair
lone : (u : ℕ) (us : List ℕ) (odd : Bool) → ¬ (IsPair u (get_or us 0 0)) → ends_in_high (u ∷ us) ≡ ends_in_high us
    → chars_of (u ∷ us) odd ≡ unwrap_or (lone_unit_char u) replacement ∷ chars_of us odd
lone u us odd single ends = rw (utf16_chars_lone u us single, ends) refl

lone_unit : (u : ℕ) (us : List ℕ) (odd : Bool) → is_high_surrogate u ≡ false → chars_of (u ∷ us) odd ≡ unwrap_or (lone_unit_char u) replacement ∷ chars_of us odd
lone_unit u us odd low = lone u us odd (λ p. absurd (true≢false (sym (high_is u p.0 p.1) ∙ low))) (ends_alike u us low)

-- a high surrogate without a low one after it
unpaired : (u v : ℕ) (us : List ℕ) (odd : Bool) → is_high_surrogate u ≡ true → is_low_surrogate v ≡ false → chars_of (u ∷ v ∷ us) odd ≡ replacement ∷ chars_of (v ∷ us) odd
unpaired u v us odd high other =
    lone u (v ∷ us) odd (λ p. absurd (true≢false (sym (low_is v p.2 p.3) ∙ other))) refl
    ∙ ap (λ o. unwrap_or o replacement ∷ chars_of (v ∷ us) odd) (high_alone u high)

-- a high surrogate at the end, followed by at most one byte
cut : (u : ℕ) (odd : Bool) → is_high_surrogate u ≡ true → chars_of (u ∷ []) odd ≡ replacement ∷ chars_of [] false
cut u true high = rw (utf16_chars_lone u [] (λ p. absurd (omega (arith, p.2))), high_alone u high, high) refl
cut u false high = rw (utf16_chars_lone u [] (λ p. absurd (omega (arith, p.2))), high_alone u high) refl

-- a pair
paired : (u v : ℕ) (us : List ℕ) (odd : Bool) → is_high_surrogate u ≡ true → is_low_surrogate v ≡ true → chars_of (u ∷ v ∷ us) odd ≡ surrogate_pair_char u v ∷ chars_of us odd
paired u v us odd high low = rw (utf16_chars_pair u v us (is_pair u v high low), ends_alike v us (low_not_high v low)) refl

-- the same of bytes
pub chars_odd : (order : ℕ → ℕ → ℕ) (bs : List ℕ) → 0 < length bs → length bs < 2 → utf_16_chars order bs ≡ replacement ∷ utf_16_chars order (drop 1 bs)
chars_odd order [] some few = absurd (omega (arith, some))
chars_odd order (a ∷ []) some few = rw utf16_chars-nil refl
chars_odd order (a ∷ b ∷ bs) some few = absurd (omega (arith, few))

pub chars_lone : (order : ℕ → ℕ → ℕ) (bs : List ℕ) → 2 ≤ length bs → is_high_surrogate (first_unit order bs) ≡ false
    → utf_16_chars order bs ≡ unwrap_or (lone_unit_char (first_unit order bs)) replacement ∷ utf_16_chars order (drop 2 bs)
chars_lone order [] two low = absurd (omega (arith, two))
chars_lone order (a ∷ []) two low = absurd (omega (arith, two))
chars_lone order (a ∷ b ∷ bs) two low = lone_unit (order a b) (units order bs) (has_odd_end bs) low

pub chars_cut : (order : ℕ → ℕ → ℕ) (bs : List ℕ) → 2 ≤ length bs → length bs < 4 → is_high_surrogate (first_unit order bs) ≡ true
    → utf_16_chars order bs ≡ replacement ∷ utf_16_chars order (drop (length bs) bs)
chars_cut order [] two four high = absurd (omega (arith, two))
chars_cut order (a ∷ []) two four high = absurd (omega (arith, two))
chars_cut order (a ∷ b ∷ []) two four high = cut (order a b) false high
chars_cut order (a ∷ b ∷ d ∷ []) two four high = cut (order a b) true high
chars_cut order (a ∷ b ∷ d ∷ e ∷ bs) two four high = absurd (omega (arith, four))

pub chars_unpaired : (order : ℕ → ℕ → ℕ) (bs : List ℕ) → 4 ≤ length bs → is_high_surrogate (first_unit order bs) ≡ true → is_low_surrogate (second_unit order bs) ≡ false
    → utf_16_chars order bs ≡ replacement ∷ utf_16_chars order (drop 2 bs)
chars_unpaired order [] four high other = absurd (omega (arith, four))
chars_unpaired order (a ∷ []) four high other = absurd (omega (arith, four))
chars_unpaired order (a ∷ b ∷ []) four high other = absurd (omega (arith, four))
chars_unpaired order (a ∷ b ∷ d ∷ []) four high other = absurd (omega (arith, four))
chars_unpaired order (a ∷ b ∷ d ∷ e ∷ bs) four high other = unpaired (order a b) (order d e) (units order bs) (has_odd_end bs) high other

pub chars_paired : (order : ℕ → ℕ → ℕ) (bs : List ℕ) → 4 ≤ length bs → is_high_surrogate (first_unit order bs) ≡ true → is_low_surrogate (second_unit order bs) ≡ true
    → utf_16_chars order bs ≡ surrogate_pair_char (first_unit order bs) (second_unit order bs) ∷ utf_16_chars order (drop 4 bs)
chars_paired order [] four high low = absurd (omega (arith, four))
chars_paired order (a ∷ []) four high low = absurd (omega (arith, four))
chars_paired order (a ∷ b ∷ []) four high low = absurd (omega (arith, four))
chars_paired order (a ∷ b ∷ d ∷ []) four high low = absurd (omega (arith, four))
chars_paired order (a ∷ b ∷ d ∷ e ∷ bs) four high low = paired (order a b) (order d e) (units order bs) (has_odd_end bs) high low

-- a unit that is a character, and a low surrogate
character_low : (u : ℕ) → InScalarRange u → is_high_surrogate u ≡ false
character_low u (inl h) = grind (arith, nat_tests)
character_low u (inr h) = grind (arith, nat_tests)

character_alone : (u : ℕ) → InScalarRange u → lone_unit_char u ≡ Some u
character_alone u (inl h) = grind (arith, nat_tests)
character_alone u (inr h) = grind (arith, nat_tests)

pub chars_character : (order : ℕ → ℕ → ℕ) (bs : List ℕ) → 2 ≤ length bs → InScalarRange (first_unit order bs)
    → utf_16_chars order bs ≡ first_unit order bs ∷ utf_16_chars order (drop 2 bs)
chars_character order bs two range =
    chars_lone order bs two (character_low (first_unit order bs) range)
    ∙ ap (λ o. unwrap_or o replacement ∷ utf_16_chars order (drop 2 bs)) (character_alone (first_unit order bs) range)

-- the range of a unit that is not a character
surrogate_high : (u : ℕ) → OutOfScalarRange u → u < 0xDC00 → is_high_surrogate u ≡ true
surrogate_high u (inl h) below = high_is u (omega arith) below
surrogate_high u (inr h) below = absurd (omega arith)

second_low : (u : ℕ) → 0xDC00 ≤ u → is_high_surrogate u ≡ false
second_low u above = grind (arith, nat_tests)

second_alone : (u : ℕ) → OutOfScalarRange u → u < 0x1_0000 → lone_unit_char u ≡ None
second_alone u (inl h) small = grind (arith, nat_tests)
second_alone u (inr h) small = absurd (omega arith)

pub chars_second : (order : ℕ → ℕ → ℕ) (bs : List ℕ) → 2 ≤ length bs → OutOfScalarRange (first_unit order bs) → first_unit order bs < 0x1_0000 → 0xDC00 ≤ first_unit order bs
    → utf_16_chars order bs ≡ replacement ∷ utf_16_chars order (drop 2 bs)
chars_second order bs two range small above =
    chars_lone order bs two (second_low (first_unit order bs) above)
    ∙ ap (λ o. unwrap_or o replacement ∷ utf_16_chars order (drop 2 bs)) (second_alone (first_unit order bs) range small)

pub chars_end : (order : ℕ → ℕ → ℕ) (bs : List ℕ) → 2 ≤ length bs → length bs < 4 → OutOfScalarRange (first_unit order bs) → first_unit order bs < 0xDC00
    → utf_16_chars order bs ≡ replacement ∷ utf_16_chars order (drop (length bs) bs)
chars_end order bs two four range below = chars_cut order bs two four (surrogate_high (first_unit order bs) range below)

-- the character of the pair that the first two units make
abbrev pub pair_char : ℕ → ℕ → Option ℕ
pair_char u v = cond (is_low_surrogate v) (Some (surrogate_pair_char u v)) None

paired_by : (u v x : ℕ) (t : Bool) → is_low_surrogate v ≡ t → Some x ≡ cond t (Some (surrogate_pair_char u v)) None → (is_low_surrogate v ≡ true) × (x ≡ surrogate_pair_char u v)
paired_by u v x true e h = (e, cc)
paired_by u v x false e h = cc

alone_by : (u v : ℕ) (t : Bool) → is_low_surrogate v ≡ t → None ≡ cond t (Some (surrogate_pair_char u v)) None → is_low_surrogate v ≡ false
alone_by u v true e h = cc
alone_by u v false e h = e

pub chars_pair : (order : ℕ → ℕ → ℕ) (bs : List ℕ) (x : ℕ) → 4 ≤ length bs → OutOfScalarRange (first_unit order bs) → first_unit order bs < 0xDC00
    → Some x ≡ pair_char (first_unit order bs) (second_unit order bs)
    → utf_16_chars order bs ≡ x ∷ utf_16_chars order (drop 4 bs)
chars_pair order bs x four range below found =
    let p = paired_by (first_unit order bs) (second_unit order bs) x (is_low_surrogate (second_unit order bs)) refl found in
    chars_paired order bs four (surrogate_high (first_unit order bs) range below) p.0 ∙ ap (λ c. c ∷ utf_16_chars order (drop 4 bs)) (sym p.1)

pub chars_no_pair : (order : ℕ → ℕ → ℕ) (bs : List ℕ) → 4 ≤ length bs → OutOfScalarRange (first_unit order bs) → first_unit order bs < 0xDC00
    → None ≡ pair_char (first_unit order bs) (second_unit order bs)
    → utf_16_chars order bs ≡ replacement ∷ utf_16_chars order (drop 2 bs)
chars_no_pair order bs four range below found =
    chars_unpaired order bs four (surrogate_high (first_unit order bs) range below) (alone_by (first_unit order bs) (second_unit order bs) (is_low_surrogate (second_unit order bs)) refl found)

-- no bytes are left
pub chars_done : (order : ℕ → ℕ → ℕ) (made rest total : List ℕ) → length rest ≡ 0 → made ++ encode_utf8_all (utf_16_chars order rest) ≡ total → made ≡ total
chars_done order made [] total none h = sym (append-nil made) ∙ (rw utf16_chars-nil at h)
chars_done order made (b ∷ rest) total none h = absurd (omega (arith, none))

-- one more character is written
pub chars_written : (order : ℕ → ℕ → ℕ) (bs made pushed total : List ℕ) (taken n character : ℕ)
    → total ≡ made ++ encode_utf8_all (utf_16_chars order (drop taken bs)) → pushed ≡ made ++ encode_utf8 character
    → utf_16_chars order (drop taken bs) ≡ character ∷ utf_16_chars order (drop n (drop taken bs))
    → total ≡ pushed ++ encode_utf8_all (utf_16_chars order (drop (taken + n) bs))
chars_written order bs made pushed total taken n character all one first = rw (all, one, first, drop-drop, append_assoc) refl
