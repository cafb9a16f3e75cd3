-- Dates: the words of a text, and the numbers that they give.
use Rattle.std.proofs.Common.{◌≡◌, ℕ, suc, ◌+◌, ◌-◌, ◌*◌, ◌^◌, ◌<◌, ◌≤◌, Bool, true, false, cond, not, ◌&&◌, eqb, ltb, List, [], ◌∷◌, length, take, drop, Option, Some, None, Result, Ok, Err, refl, sym, ap, ◌∙◌, subst, get_or, leb, arith, length-take}
use Rattle.std.specs.List.{filter, list_all, slice_split, onto_first, prefix_len}
use Rattle.std.specs.Result.{result_ok}
use Rattle.std.specs.Prelude.{ℤ, pos, negsuc, FitsSigned, option_map, ok_or, find, ◌+ℤ◌}
use Rattle.std.specs.Int.{w32}
use Rattle.std.proofs.lemmas.Int.{ints, to_z-of_z}
use Rattle.std.specs.Str.{IsCharBoundary, IsUtf8, all_ascii_digits, str_eq_ignore_ascii_case}
use Rattle.std.proofs.lemmas.List.Sums.{prefix_len-le-length, prefix_len_passes, prefix_len_stops}
use Rattle.std.proofs.lemmas.Str.{IsCharBoundary-after_ascii}
use Rattle.std.specs.Str.Parse.{ParsesUnsigned, ParsesSigned, digits_value, signed_digits_value, without_leading_plus, without_leading_sign}
use Rattle.std.proofs.lemmas.Bool.{and_parts, cond-false, false_from_ne_true, not-true, lt-ltb, ltb-true, leb-true, eqb-true, not-false, le-leb, lt-leb}
use Rattle.std.proofs.lemmas.Str.Parse.{IsNumeralModel, numerals_by_value, tells_all_ascii_digits}
use Rattle.mail_codec.specs.Places.{is_empty}
use Rattle.mailparse.specs.Date.{fits_32_bits, is_separator, words, zones, date_words, from_hour, from_minute, from_second, from_zone, seconds_of, invalid_hour, invalid_minute, invalid_second, invalid_year, signed_number, number_below, year_of, year_of_number}
use Rattle.mail_codec.specs.Names.{look_up}
use Rattle.mailparse.specs.private.Date.{HasSizeAtMost, next_number}
use Rattle.mailparse.specs.Refusal.{◌>>=◌, Reads, Refusal}
use Rattle.mailparse.proofs.lemmas.Places.{not_empty}

-- ---- numbers

own : IsNumeralModel (λ ds. all_ascii_digits ds ≡ true) (digits_value 10)
own = numerals_by_value (λ ds. all_ascii_digits ds ≡ true) tells_all_ascii_digits

some_digit : (d : List ℕ) → is_empty d ≡ false → 0 < length d
some_digit [] h = absurd (cc)
some_digit (c ∷ cs) h = omega arith

-- `parse` reads what the definition reads
pub number_below-parse : {E : Type 0} (k : ℕ) (word : List ℕ) (r : Result ℕ E) → ParsesUnsigned k 10 word r → number_below (2 ^ k) word ≡ result_ok r
unfolding number_below
number_below-parse k word (Ok x) h =
    let d = without_leading_plus word in
    let some : is_empty d ≡ false = not_empty d h.0.0.0 in
    let all : all_ascii_digits d ≡ true = own.from d h.0.0.1 in
    let lt : ltb (digits_value 10 d) (2 ^ k) ≡ true = lt-ltb _ _ h.0.1 in
    rw (some, all, lt) (ap Some (sym h.1))
number_below-parse k word (Err e) h =
    cond-false _ _ _ (false_from_ne_true _ (λ t.
    let some = and_parts _ _ t in
    let rest = and_parts _ _ some.1 in
    h ((some_digit _ (not-true _ some.0), own.to _ rest.0), ltb-true _ _ rest.1)))

-- the year of a number, if there is one
abbrev pub year_if_read : Option ℕ → Reads ℕ
year_if_read n = ok_or n invalid_year >>= year_of_number

-- the year that a word gives, by what `parse` read
pub year_of-parse : {E : Type 0} (word : List ℕ) (r : Result ℕ E) → ParsesUnsigned 32 10 word r → year_of word ≡ year_if_read (result_ok r)
unfolding year_of
year_of-parse word r h = ap year_if_read (number_below-parse 32 word r h)

-- ---- words

past_first : (m b : ℕ) (bytes : List ℕ) → drop (1 + m) (b ∷ bytes) ≡ drop m bytes
past_first m b bytes = let e : 1 + m ≡ suc m = omega arith in rw e refl

-- the first piece of bytes, and the pieces from its end onwards
abbrev FirstPiece : (ℕ → Bool) → List ℕ → Type 0
FirstPiece test bytes =
    (more : List (List ℕ))
    × ((slice_split test bytes ≡ take (prefix_len (λ b. not (test b)) bytes) bytes ∷ more)
    × (slice_split test (drop (prefix_len (λ b. not (test b)) bytes) bytes) ≡ [] ∷ more))

first_piece : (test : ℕ → Bool) (bytes : List ℕ) → FirstPiece test bytes
first_piece test [] = ([], (refl, refl))
first_piece test (b ∷ bytes) = go (first_piece test bytes) (test b) refl
  where
    m : ℕ
    m = prefix_len (λ b. not (test b)) bytes

    taken : take (1 + m) (b ∷ bytes) ≡ b ∷ take m bytes
    taken = let e : 1 + m ≡ suc m = omega arith in rw e refl

    go : FirstPiece test bytes → (t : Bool) → test b ≡ t
        → (more : List (List ℕ))
        × ((cond t ([] ∷ slice_split test bytes) (onto_first b (slice_split test bytes)) ≡ take (cond (not t) (1 + m) 0) (b ∷ bytes) ∷ more)
        × (slice_split test (drop (cond (not t) (1 + m) 0) (b ∷ bytes)) ≡ [] ∷ more))
    go later true e = (slice_split test bytes, (refl, rw e refl))
    go later false e = (
      later.0,
      (
        ap (onto_first b) later.1.0 ∙ ap (λ front. front ∷ later.0) (sym taken),
        ap (slice_split test) (past_first m b bytes) ∙ later.1.1,
      ),
    )

-- separators in front do not count
pub words-skip : (bytes : List ℕ) → words (drop (prefix_len is_separator bytes) bytes) ≡ words bytes
words-skip [] = refl
words-skip (b ∷ bytes) = go (words-skip bytes) (is_separator b) refl
  where
    m : ℕ
    m = prefix_len is_separator bytes

    go : words (drop (prefix_len is_separator bytes) bytes) ≡ words bytes
        → (t : Bool) → is_separator b ≡ t → words (drop (cond t (1 + m) 0) (b ∷ bytes)) ≡ words (b ∷ bytes)
    go later true e =
        let n : 1 + m ≡ suc m = omega arith in
        let here : words (b ∷ bytes) ≡ words bytes = rw e refl in
        ap (λ k. words (drop k (b ∷ bytes))) n ∙ later ∙ sym here
    go later false e = refl

-- a word or nothing follows them
after_skip : (bytes : List ℕ) → prefix_len (λ b. not (is_separator b)) (drop (prefix_len is_separator bytes) bytes) ≡ 0
    → drop (prefix_len is_separator bytes) bytes ≡ []
after_skip [] h = refl
after_skip (b ∷ bytes) h = go (after_skip bytes) (is_separator b) refl h
  where
    m : ℕ
    m = prefix_len is_separator bytes

    go : (prefix_len (λ b. not (is_separator b)) (drop (prefix_len is_separator bytes) bytes) ≡ 0 → drop (prefix_len is_separator bytes) bytes ≡ [])
        → (t : Bool) → is_separator b ≡ t → prefix_len (λ b. not (is_separator b)) (drop (cond t (1 + m) 0) (b ∷ bytes)) ≡ 0
        → drop (cond t (1 + m) 0) (b ∷ bytes) ≡ []
    go later true e h = past_first m b bytes ∙ later (sym (ap (prefix_len (λ b. not (is_separator b))) (past_first m b bytes)) ∙ h)
    go later false e h = absurd (none (sym first ∙ h))
      where
        first : prefix_len (λ b. not (is_separator b)) (b ∷ bytes) ≡ 1 + prefix_len (λ b. not (is_separator b)) bytes
        first = rw e refl

        none : 1 + prefix_len (λ b. not (is_separator b)) bytes ≡ 0 → ⊥
        none h = omega arith

-- no words if nothing follows the separators
pub words-none : (bytes rest : List ℕ) (start end : ℕ) → start ≡ prefix_len is_separator bytes → rest ≡ drop start bytes
    → end ≡ prefix_len (λ b. not (is_separator b)) rest → end ≡ 0 → words bytes ≡ []
words-none bytes rest start end at cut length none =
    let here : rest ≡ drop (prefix_len is_separator bytes) bytes = cut ∙ ap (λ k. drop k bytes) at in
    let empty = after_skip bytes (sym (ap (prefix_len (λ b. not (is_separator b))) here) ∙ sym length ∙ none) in
    sym (words-skip bytes) ∙ ap words empty

-- the first word, and the words after it
pub words-first : (bytes rest : List ℕ) (start end : ℕ) → start ≡ prefix_len is_separator bytes → rest ≡ drop start bytes
    → end ≡ prefix_len (λ b. not (is_separator b)) rest → 0 < end → end ≤ length rest → words bytes ≡ take end rest ∷ words (drop end rest)
words-first bytes rest start end at cut count some within =
    let here : rest ≡ drop (prefix_len is_separator bytes) bytes = cut ∙ ap (λ k. drop k bytes) at in
    let piece = first_piece is_separator rest in
    let front : slice_split is_separator rest ≡ take end rest ∷ piece.0 = piece.1.0 ∙ ap (λ k. take k rest ∷ piece.0) (sym count) in
    let back : slice_split is_separator (drop end rest) ≡ [] ∷ piece.0 = ap (λ k. slice_split is_separator (drop k rest)) count ∙ piece.1.1 in
    let taken : 0 < length (take end rest) = omega (arith, length-take end rest) in
    let full : is_empty (take end rest) ≡ false = not_empty (take end rest) taken in
    let kept : filter (λ word. not (is_empty word)) (take end rest ∷ piece.0) ≡ take end rest ∷ filter (λ word. not (is_empty word)) piece.0 = rw full refl in
    let after : words (drop end rest) ≡ filter (λ word. not (is_empty word)) piece.0 = ap (filter (λ word. not (is_empty word))) back in
    sym (words-skip bytes) ∙ ap words (sym here) ∙ ap (filter (λ word. not (is_empty word))) front ∙ kept ∙ ap (λ ws. take end rest ∷ ws) (sym after)

-- a text may be cut where separators end, and where a word ends
separator_ascii : (b : ℕ) → is_separator b ≡ true → b < 128
separator_ascii b h = go (eqb b 32) refl
  where
    go : (t : Bool) → eqb b 32 ≡ t → b < 128
    go true e = let s = eqb-true _ _ e in omega arith
    go false e = let c : eqb b 58 ≡ true = cc in let s = eqb-true _ _ c in omega arith

pub cut_after_separators : (bytes : List ℕ) (start : ℕ) → IsUtf8 bytes → start ≡ prefix_len is_separator bytes → 0 < start → IsCharBoundary bytes start
cut_after_separators bytes start utf8 count some =
    let le = prefix_len-le-length is_separator bytes in
    let last = prefix_len_passes is_separator bytes (start - 1) 0 (omega arith) in
    let next : (start - 1) + 1 ≡ start = omega arith in
    subst (IsCharBoundary bytes) next (IsCharBoundary-after_ascii bytes (start - 1) utf8 (omega arith) (separator_ascii _ last))

pub cut_after_word : (rest : List ℕ) (end : ℕ) → end ≡ prefix_len (λ b. not (is_separator b)) rest → IsCharBoundary rest end
cut_after_word rest end count = (omega (arith, prefix_len-le-length (λ b. not (is_separator b)) rest), λ lt high. absurd (clash lt high))
  where
    clash : end < length rest → 128 ≤ get_or rest end 0 → ⊥
    clash lt high =
        let stops = prefix_len_stops (λ b. not (is_separator b)) rest 0 (omega arith) in
        let at : get_or rest end 0 ≡ get_or rest (prefix_len (λ b. not (is_separator b)) rest) 0 = ap (λ k. get_or rest k 0) count in
        let sep : is_separator (get_or rest end 0) ≡ true = not-false _ (ap (λ b. not (is_separator b)) at ∙ stops) in
        let small : get_or rest end 0 < 128 = separator_ascii _ sep in
        omega arith

-- ---- tables

-- a zone that has a name is at most 24 hours from Greenwich
abbrev is_zone_size : ℤ → Bool
is_zone_size (pos n) = leb n 2400
is_zone_size (negsuc n) = ltb n 2400

zone_size_at_most : (z : ℤ) → is_zone_size z ≡ true → HasSizeAtMost 2400 z
zone_size_at_most (pos n) h = let le = leb-true _ _ h in (omega (arith, ints), omega (arith, ints))
zone_size_at_most (negsuc n) h = let lt = ltb-true _ _ h in (omega (arith, ints), omega (arith, ints))

look_up-size : (table : List (List ℕ × ℤ)) (word : List ℕ) (z : ℤ) → list_all (λ row. is_zone_size row.1) table ≡ true → look_up table word ≡ Some z → HasSizeAtMost 2400 z
look_up-size [] word z all h = let clash : None ≡ Some z = h in absurd (cc)
look_up-size (row ∷ table) word z all h = go (look_up-size table word z) (str_eq_ignore_ascii_case word row.0) (is_zone_size row.1) refl all h
  where
    go : (list_all (λ row. is_zone_size row.1) table ≡ true → look_up table word ≡ Some z → HasSizeAtMost 2400 z) → (t n : Bool) → is_zone_size row.1 ≡ n
        → n && list_all (λ row. is_zone_size row.1) table ≡ true
        → option_map (λ row. row.1) (cond t (Some row) (find (λ row. str_eq_ignore_ascii_case word row.0) table)) ≡ Some z → HasSizeAtMost 2400 z
    go later t false e all h = absurd (cc)
    go later true true e all h = let same : row.1 ≡ z = cc in zone_size_at_most z (ap is_zone_size (sym same) ∙ e)
    go later false true e all h = later all h

pub zones-size : (word : List ℕ) (z : ℤ) → look_up zones word ≡ Some z → HasSizeAtMost 2400 z
zones-size word z h = look_up-size zones word z refl h

-- a number of this size fits in 32 bits
pub size_fits : (most : ℕ) (z : ℤ) → most < 2 ^ 31 → HasSizeAtMost most z → FitsSigned w32 z
size_fits most (pos n) lt h = record { sfits = omega (arith, ints, h.0, h.1) }
size_fits most (negsuc n) lt h = record { sfits = omega (arith, ints, h.0, h.1) }

-- what `parse` reads as a zone
pub signed_number-parse : {E : Type 0} (word : List ℕ) (r : Result ℤ E) → ParsesSigned w32 10 word r → signed_number word ≡ result_ok r
unfolding signed_number
signed_number-parse word (Ok x) h =
    let d = without_leading_sign word in
    let some : is_empty d ≡ false = not_empty d h.0.0.0 in
    let all : all_ascii_digits d ≡ true = own.from d h.0.0.1 in
    let fits : fits_32_bits (signed_digits_value 10 word) ≡ true = fits_true _ h.0.1 in
    rw (some, all, fits) (ap Some (sym h.1))
  where
    fits_true : (z : ℤ) → FitsSigned w32 z → fits_32_bits z ≡ true
    fits_true (pos n) f = lt-ltb _ _ f.sfits
    fits_true (negsuc n) f = lt-ltb _ _ f.sfits
signed_number-parse word (Err e) h =
    cond-false _ _ _ (false_from_ne_true _ (λ t.
    let some = and_parts _ _ t in
    let rest = and_parts _ _ some.1 in
    h ((some_digit _ (not-true _ some.0), own.to _ rest.0), true_fits _ rest.1)))
  where
    true_fits : (z : ℤ) → fits_32_bits z ≡ true → FitsSigned w32 z
    true_fits (pos n) e = record { sfits = ltb-true _ _ e }
    true_fits (negsuc n) e = record { sfits = ltb-true _ _ e }

-- ---- parts of a date

-- two parts of a date together
abbrev pub plus : Reads ℤ → Reads ℤ → Reads ℤ
plus front later = do
  seconds ← front
  more ← later
  Ok (seconds +ℤ more)

-- a unit of time at the front of words, and what follows it
unit_then : (unit : ℕ) (refusal : Refusal) (from later : List (List ℕ) → Reads ℤ)
    → ((word : List ℕ) (after : List (List ℕ)) → from (word ∷ after) ≡ plus (seconds_of unit refusal word) (later after))
    → (ws after : List (List ℕ)) (n : ℕ) → next_number refusal ws ≡ Ok (Some (n, after)) → from ws ≡ plus (Ok (pos (unit * n))) (later after)
unit_then unit refusal from later is [] after n h = let clash : ◌≡◌ {A = Result (Option (ℕ × List (List ℕ))) Refusal} (Ok None) (Ok (Some (n, after))) = h in absurd (cc)
unit_then unit refusal from later is (word ∷ ws) after n h = is word ws ∙ go (number_below 256 word) h
  where
    go : (read : Option ℕ) → ◌>>=◌ {B = Option (ℕ × List (List ℕ))} (ok_or read refusal) (λ m. Ok (Some (m, ws))) ≡ Ok (Some (n, after))
        → plus (◌>>=◌ (ok_or read refusal) (λ m. Ok (pos (unit * m)))) (later ws) ≡ plus (Ok (pos (unit * n))) (later after)
    go None h = absurd (cc)
    go (Some m) h = let pair : ◌≡◌ {A = ℕ × List (List ℕ)} (m, ws) (n, after) = cc in ap (λ (p : ℕ × List (List ℕ)). plus (Ok (pos (unit * p.0))) (later p.1)) pair

-- a refusal of what follows is the refusal of both
pub plus-refused : (a : ℤ) (later : Reads ℤ) (refusal : Refusal) → later ≡ Err refusal → plus (Ok a) later ≡ Err refusal
plus-refused a later refusal h = rw h refl

pub plus-sum : (a b : ℤ) (later : Reads ℤ) → later ≡ Ok b → plus (Ok a) later ≡ Ok (a +ℤ b)
plus-sum a b later h = rw h refl

-- an hour, a minute and a second together, before a zone
clock_sum : (a b c : ℕ) (later : Reads ℤ) → plus (Ok (pos a)) (plus (Ok (pos b)) (plus (Ok (pos (1 * c))) later)) ≡ plus (Ok (pos (a + b + c))) later
clock_sum a b c (Err refusal) = refl
clock_sum a b c (Ok z) = ap Ok (omega (arith, ints))

pub from_hour-clock : (ws ws1 ws2 ws3 : List (List ℕ)) (h m s : ℕ) → next_number invalid_hour ws ≡ Ok (Some (h, ws1))
    → next_number invalid_minute ws1 ≡ Ok (Some (m, ws2)) → next_number invalid_second ws2 ≡ Ok (Some (s, ws3))
    → from_hour ws ≡ plus (Ok (pos (3600 * h + 60 * m + s))) (from_zone ws3)
from_hour-clock ws ws1 ws2 ws3 h m s hour minute second =
    unit_then 3600 invalid_hour from_hour from_minute (λ word after. refl) ws ws1 h hour
    ∙ ap (plus (Ok (pos (3600 * h)))) (unit_then 60 invalid_minute from_minute from_second (λ word after. refl) ws1 ws2 m minute
    ∙ ap (plus (Ok (pos (60 * m)))) (unit_then 1 invalid_second from_second from_zone (λ word after. refl) ws2 ws3 s second))
    ∙ clock_sum (3600 * h) (60 * m) s (from_zone ws3)

-- the words before the first number are skipped
pub date_words-here : (word : List ℕ) (after : List (List ℕ)) (n : ℕ) → number_below 256 word ≡ Some n → date_words (word ∷ after) ≡ word ∷ after
date_words-here word after n h = rw h refl

pub date_words-past : (word : List ℕ) (after : List (List ℕ)) → number_below 256 word ≡ None → date_words (word ∷ after) ≡ date_words after
date_words-past word after h = rw h refl

-- the numbers of a date
pub ruleset numbers = (number_below-parse, year_of-parse, date_words-here, date_words-past)

-- the first word, and the text after it
pub ruleset next_words = (cut_after_separators, cut_after_word, words-first, words-none)

-- the number or the name of a zone
pub ruleset zone_numbers = (le-leb, lt-leb, to_z-of_z, size_fits, signed_number-parse, zones-size)
