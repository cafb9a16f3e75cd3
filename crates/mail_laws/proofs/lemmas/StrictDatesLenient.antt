-- Dates in the strict form: the lenient reading.
use Rattle.std.proofs.Common.{◌≡◌, ⊎_elim, ℕ, zero, suc, ◌+◌, ◌*◌, ◌-◌, ◌<◌, ◌≤◌, Bool, true, false, cond, not, eqb, leb, ◌&&◌, ◌||◌, List, [], ◌∷◌, ◌++◌, length, take, drop, option_map, subst, Option, Some, None, Ok, Err, refl, sym, ap, ◌∙◌, arith}
use Rattle.std.specs.Prelude.{ℤ, pos, neg_ℤ, ◌+ℤ◌, codes, is_some, ok_or, unwrap_or}
use Rattle.std.specs.Char.{is_ascii_alphabetic, is_ascii_digit}
use Rattle.std.specs.Int.{is_in_range}
use Rattle.std.specs.List.{list_all, prefix_len}
use Rattle.std.specs.Option.{option_map_or}
use Rattle.std.specs.Str.{all_ascii_digits, str_eq_ignore_ascii_case}
use Rattle.std.proofs.Math.IntN.{+ℤ-neg_ℤ_cancel}
use Rattle.std.proofs.lemmas.Bool.{and_from, and_parts, and_right, eqb-true, cond-false, cond-true, le-leb, lt-leb, ne_eqb, not-false}
use Rattle.std.proofs.lemmas.List.{drop_at, take_at}
use Rattle.mail_codec.specs.Ascii.{space, colon, comma, quote}
use Rattle.mail_codec.specs.Calendar.{month_lengths, year_length}
use Rattle.mail_codec.specs.Calendar as calendar
use Rattle.mail_codec.specs.Names.{look_up}
use Rattle.mail_codec.specs.Places.{is_empty}
use Rattle.mail_read.specs.declared.lenient.date.error.DateError.TheVariants.{Day, Month, Time}
use Rattle.mail_read.specs.lenient.Date.{◌>>=◌, after_byte, after_comments, after_day_name, after_fraction, after_mark, after_one, after_quote, after_separator, after_time_mark, clock_hour, clocked, date_and_offset_of, date_of, Dated, day_at, day_first, day_in, day_number, days_of_years, directed, ends_whitespace, full_stop, has_letter, hours_then, is_month_first, is_separator, is_sign, is_universal, is_year_first, minute_at, moment_at, Moment, month_at, month_first, month_length, month_names, named_zone, offset_at, offset_of, run_at, second_at, signed_at, since_1970, small_number, time_at, whole_second, year_at, year_first, year_of, Zoned, zone_at, zoned_date_of}
use Rattle.mailparse.specs.Date.{zone_size}
use Rattle.mail_laws.specs.StrictDates.{date_text, day_text, days_of, gap, is_end, is_month, is_small, is_week_day, is_year, is_zone, IsStrictDate, spaces, strict_seconds, StrictDate, time_seconds, time_text, value, with_week_day, zone_added, zone_text}
use Rattle.mail_laws.proofs.lemmas.StrictDates.{day-name, month-name, of_digit, of_letter, sign-cases, small-most, small-number, some-text, year-least, year-number, zone-number}

-- ---- runs

-- a test fails for the first byte, if there is one
abbrev Stops : (ℕ → Bool) → List ℕ → Type 0
Stops test [] = Unit {0}
Stops test (b ∷ rest) = test b ≡ false

run-length : (test : ℕ → Bool) (run rest : List ℕ) → list_all test run ≡ true → Stops test rest → prefix_len test (run ++ rest) ≡ length run
run-length test [] [] all stops = refl
run-length test [] (b ∷ rest) all stops = cond-false (test b) _ _ stops
run-length test (b ∷ run) rest all stops =
    let parts = and_parts (test b) (list_all test run) all in
    let more = run-length test run rest parts.1 stops in
    cond-true (test b) _ _ parts.0 ∙ omega (arith, more)

-- nothing is passed over before a digit or a letter
at_byte : (b : ℕ) (rest : List ℕ) → ends_whitespace 0 b ≡ true → after_comments (b ∷ rest) ≡ b ∷ rest
unfolding after_comments
at_byte b rest ends = cond-true (ends_whitespace 0 b) (b ∷ rest) _ ends

at_digit : (b : ℕ) (rest : List ℕ) → is_ascii_digit b ≡ true → after_comments (b ∷ rest) ≡ b ∷ rest
at_digit b rest digit = at_byte b rest (not-false (ends_whitespace 0 b) (of_digit (λ c. not (ends_whitespace 0 c)) refl b digit))

at_letter : (b : ℕ) (rest : List ℕ) → is_ascii_alphabetic b ≡ true → after_comments (b ∷ rest) ≡ b ∷ rest
at_letter b rest letter = at_byte b rest (not-false (ends_whitespace 0 b) (of_letter (λ c. not (ends_whitespace 0 c)) refl b letter))

at_digits : (text rest : List ℕ) → all_ascii_digits text ≡ true → 0 < length text → after_comments (text ++ rest) ≡ text ++ rest
at_digits [] rest all some = absurd (omega (arith, some))
at_digits (b ∷ text) rest all some = at_digit b (text ++ rest) (and_parts (is_ascii_digit b) (all_ascii_digits text) all).0

at_letters : (text rest : List ℕ) → list_all is_ascii_alphabetic text ≡ true → 0 < length text → after_comments (text ++ rest) ≡ text ++ rest
at_letters [] rest all some = absurd (omega (arith, some))
at_letters (b ∷ text) rest all some = at_letter b (text ++ rest) (and_parts (is_ascii_alphabetic b) (list_all is_ascii_alphabetic text) all).0

-- spaces are passed over
passed : (n : ℕ) (text : List ℕ) → after_comments (spaces n ++ text) ≡ after_comments text
unfolding after_comments
passed zero text = refl
passed (suc n) text = passed n text

run-passed : (test : ℕ → Bool) (n : ℕ) (text : List ℕ) → run_at test (spaces n ++ text) ≡ run_at test text
unfolding run_at
run-passed test n text = ap (λ (rest : List ℕ). (take (prefix_len test rest) rest, drop (prefix_len test rest) rest)) (passed n text)

digits-all : (text : List ℕ) → all_ascii_digits text ≡ true → list_all is_ascii_digit text ≡ true
digits-all [] all = refl
digits-all (b ∷ text) all =
    let parts = and_parts (is_ascii_digit b) (all_ascii_digits text) all in
    and_from (is_ascii_digit b) (list_all is_ascii_digit text) parts.0 (digits-all text parts.1)

-- a run of digits, and what follows it
digits-run : (text rest : List ℕ) → all_ascii_digits text ≡ true → 0 < length text → Stops is_ascii_digit rest → run_at is_ascii_digit (text ++ rest) ≡ (text, rest)
unfolding run_at
digits-run text rest all some stops =
    ap (λ (bytes : List ℕ). (take (prefix_len is_ascii_digit bytes) bytes, drop (prefix_len is_ascii_digit bytes) bytes)) (at_digits text rest all some)
    ∙ ap (λ n. (take n (text ++ rest), drop n (text ++ rest))) (run-length is_ascii_digit text rest (digits-all text all) stops)
    ∙ (λ i. (take_at text rest (length text) refl i, drop_at text rest (length text) refl i))

-- a run of letters, and what follows it
letters-run : (text rest : List ℕ) → list_all is_ascii_alphabetic text ≡ true → 0 < length text → Stops is_ascii_alphabetic rest → run_at is_ascii_alphabetic (text ++ rest) ≡ (text, rest)
unfolding run_at
letters-run text rest all some stops =
    ap (λ (bytes : List ℕ). (take (prefix_len is_ascii_alphabetic bytes) bytes, drop (prefix_len is_ascii_alphabetic bytes) bytes)) (at_letters text rest all some)
    ∙ ap (λ n. (take n (text ++ rest), drop n (text ++ rest))) (run-length is_ascii_alphabetic text rest all stops)
    ∙ (λ i. (take_at text rest (length text) refl i, drop_at text rest (length text) refl i))

-- no run of bytes that are no digits
no-run : (test : ℕ → Bool) (text rest : List ℕ) → ((b : ℕ) → is_ascii_digit b ≡ true → test b ≡ false) → all_ascii_digits text ≡ true → 0 < length text
    → run_at test (text ++ rest) ≡ ([], text ++ rest)
unfolding run_at
no-run test [] rest fails all some = absurd (omega (arith, some))
no-run test (b ∷ text) rest fails all some =
    ap (λ (bytes : List ℕ). (take (prefix_len test bytes) bytes, drop (prefix_len test bytes) bytes)) (at_digits (b ∷ text) rest all some)
    ∙ ap (λ n. (take n (b ∷ (text ++ rest)), drop n (b ∷ (text ++ rest)))) (cond-false (test b) (1 + prefix_len test (text ++ rest)) 0 (fails b (and_parts (is_ascii_digit b) (all_ascii_digits text) all).0))

-- a number of one digit or two
small-at : (most : ℕ) (text rest : List ℕ) → is_small most text ≡ true → Stops is_ascii_digit rest → small_number most (text ++ rest) ≡ Some (value text, rest)
unfolding small_number
small-at most text rest small stops =
    let number = small-number most text small in
    let low = number.low in
    let high = number.high in
    ap (λ (run : List ℕ × List ℕ). cond (is_in_range 1 2 (length run.0) && leb (value run.0) most) (Some (value run.0, run.1)) None)
    (digits-run text rest number.digits (omega (arith, low)) stops)
    ∙ cond-true (is_in_range 1 2 (length text) && leb (value text) most) (Some (value text, rest)) None
    (and_from (is_in_range 1 2 (length text)) (leb (value text) most) (and_from (leb 1 (length text)) (leb (length text) 2) (le-leb 1 (length text) low) (le-leb (length text) 2 high))
    (le-leb (value text) most (small-most most text small)))

-- spaces before digits or letters are passed over
digits-after : (n : ℕ) (text rest : List ℕ) → all_ascii_digits text ≡ true → 0 < length text → after_separator (gap n (text ++ rest)) ≡ text ++ rest
unfolding after_separator
digits-after n [] rest all some = absurd (omega (arith, some))
digits-after n (b ∷ text) rest all some =
    let digit = (and_parts (is_ascii_digit b) (all_ascii_digits text) all).0 in
    ap (after_one is_separator) (passed (suc n) (b ∷ (text ++ rest)) ∙ at_digit b (text ++ rest) digit) ∙ cond-false (is_separator b) (text ++ rest) (b ∷ (text ++ rest)) (of_digit is_separator refl b digit)

letters-after : (n : ℕ) (text rest : List ℕ) → list_all is_ascii_alphabetic text ≡ true → 0 < length text → after_separator (gap n (text ++ rest)) ≡ text ++ rest
unfolding after_separator
letters-after n [] rest all some = absurd (omega (arith, some))
letters-after n (b ∷ text) rest all some =
    let letter = (and_parts (is_ascii_alphabetic b) (list_all is_ascii_alphabetic text) all).0 in
    ap (after_one is_separator) (passed (suc n) (b ∷ (text ++ rest)) ∙ at_letter b (text ++ rest) letter) ∙ cond-false (is_separator b) (text ++ rest) (b ∷ (text ++ rest)) (of_letter is_separator refl b letter)

-- ---- months and days of the week

months-at : (n : ℕ) (text rest : List ℕ) (month : ℕ) → is_month text month ≡ true → month_at (after_separator (gap n (text ++ space ∷ rest))) ≡ Ok (month, space ∷ rest)
unfolding month_at
months-at n text rest month is =
    let name = month-name text month is in
    ap month_at (letters-after n text (space ∷ rest) name.word.letters name.word.some)
    ∙ ap (λ (run : List ℕ × List ℕ). ok_or (look_up month_names run.0) Month >>= λ month. Ok (month, run.1)) (letters-run text (space ∷ rest) name.word.letters name.word.some refl)
    ∙ ap (λ o. ok_or o Month >>= λ month. Ok (month, space ∷ rest)) name.lenient

letter-after : (n : ℕ) (text rest : List ℕ) (month : ℕ) → is_month text month ≡ true → has_letter (after_separator (gap n (text ++ space ∷ rest))) ≡ true
letter-after n text rest month is =
    let name = month-name text month is in
    ap has_letter (letters-after n text (space ∷ rest) name.word.letters name.word.some)
    ∙ ap (λ (run : List ℕ × List ℕ). not (is_empty run.0)) (letters-run text (space ∷ rest) name.word.letters name.word.some refl)
    ∙ ap not (some-text text name.word.some)

-- what is after the day of the week, if it is there, is the day
record Begins (text rest body : List ℕ) : Type 0 where
  is_rest : after_day_name text ≡ rest
  run : (test : ℕ → Bool) → run_at test rest ≡ run_at test body
  day_first : is_month_first text rest ≡ false

-- the rest after the day of the week
abbrev rest_of : Option (List ℕ) → ℕ → List ℕ → List ℕ
rest_of None n body = body
rest_of (Some name) n body = gap n body

not-month : (text rest body : List ℕ) → run_at is_ascii_digit rest ≡ run_at is_ascii_digit body → has_letter (after_separator (run_at is_ascii_digit body).1) ≡ true → is_month_first text rest ≡ false
unfolding is_month_first
not-month text rest body same letter =
    and_right (is_some (look_up month_names (run_at is_ascii_alphabetic text).0)) (not (has_letter (after_separator (run_at is_ascii_digit rest).1)))
    (ap (λ (run : List ℕ × List ℕ). not (has_letter (after_separator run.1))) same ∙ ap not letter)

no-comma : (text rest : List ℕ) → all_ascii_digits text ≡ true → 0 < length text → after_mark comma (text ++ rest) ≡ None
unfolding after_mark
no-comma [] rest all some = absurd (omega (arith, some))
no-comma (b ∷ text) rest all some =
    let digit = (and_parts (is_ascii_digit b) (all_ascii_digits text) all).0 in
    ap (after_byte comma) (at_digit b (text ++ rest) digit) ∙ cond-false (eqb b comma) (Some (text ++ rest)) None (of_digit (λ c. eqb c comma) refl b digit)

comma-read : (rest : List ℕ) → after_mark comma (comma ∷ rest) ≡ Some rest
unfolding after_mark after_comments
comma-read rest = refl

begins : (k : ℕ) (week_day : Option (List ℕ)) (n : ℕ) (text rest : List ℕ) → is_week_day week_day ≡ true → all_ascii_digits text ≡ true → 0 < length text
    → has_letter (after_separator (run_at is_ascii_digit (text ++ rest)).1) ≡ true
    → Begins (spaces k ++ with_week_day week_day n (text ++ rest)) (rest_of week_day n (text ++ rest)) (text ++ rest)
unfolding after_day_name
begins k None n text rest is all some letter = record {
  is_rest = ap (λ (run : List ℕ × List ℕ). unwrap_or (after_mark comma run.1) run.1) (run-passed is_ascii_alphabetic k (text ++ rest) ∙ no-run is_ascii_alphabetic text rest (of_digit is_ascii_alphabetic refl) all some)
      ∙ ap (λ o. unwrap_or o (text ++ rest)) (no-comma text rest all some);
  run = λ test. refl;
  day_first = not-month (spaces k ++ (text ++ rest)) (text ++ rest) (text ++ rest) refl letter;
}
begins k (Some name) n text rest is all some letter =
    let word = day-name name is in
    let after : List ℕ = comma ∷ gap n (text ++ rest) in
    let same : (test : ℕ → Bool) → run_at test (gap n (text ++ rest)) ≡ run_at test (text ++ rest) = λ test. run-passed test (suc n) (text ++ rest) in
    record {
      is_rest = ap (λ (run : List ℕ × List ℕ). unwrap_or (after_mark comma run.1) run.1) (run-passed is_ascii_alphabetic k (name ++ after) ∙ letters-run name after word.letters word.some refl)
          ∙ ap (λ o. unwrap_or o after) (comma-read (gap n (text ++ rest)));
      run = same;
      day_first = not-month (spaces k ++ (name ++ after)) (gap n (text ++ rest)) (text ++ rest) (same is_ascii_digit) letter;
    }

-- ---- years and zones

year-value : (text : List ℕ) → is_year text ≡ true → year_of text ≡ Ok (value text)
unfolding year_of
year-value text is =
    let number = year-number text is in
    let least = year-least text is in
    let low = number.low in
    let high = number.high in
    cond-false (eqb (length text) 2) _ _ (ne_eqb (length text) 2 (λ e. absurd (omega (arith, low, e))))
    ∙ cond-false (eqb (length text) 3) _ _ (ne_eqb (length text) 3 (λ e. absurd (omega (arith, low, e))))
    ∙ cond-true (is_in_range 4 9 (length text) && leb 1900 (value text)) _ _
    (and_from (is_in_range 4 9 (length text)) (leb 1900 (value text)) (and_from (leb 4 (length text)) (leb (length text) 9) (le-leb 4 (length text) low) (le-leb (length text) 9 high))
    (le-leb 1900 (value text) (omega (arith, least))))

year-at : (text rest : List ℕ) → is_year text ≡ true → Stops is_ascii_digit rest → year_at (text ++ rest) ≡ Ok (value text, rest)
unfolding year_at
year-at text rest is stops =
    let number = year-number text is in
    let low = number.low in
    ap (λ (run : List ℕ × List ℕ). year_of run.0 >>= λ year. Ok (year, run.1)) (digits-run text rest number.digits (omega (arith, low)) stops)
    ∙ ap (λ r. r >>= λ year. Ok (year, rest)) (year-value text is)

-- no digit follows the zone
ended : (after : List ℕ) → is_end after ≡ true → Stops is_ascii_digit after
ended [] end = tt
ended (b ∷ after) end = ap is_ascii_digit (eqb-true b space end)

-- the first byte of a text of digits is no sign
no-sign : (zone after : List ℕ) → all_ascii_digits zone ≡ true → 0 < length zone → Stops is_sign (zone ++ after)
no-sign [] after all some = absurd (omega (arith, some))
no-sign (b ∷ zone) after all some = of_digit is_sign refl b (and_parts (is_ascii_digit b) (all_ascii_digits zone) all).0

module _ (zone after : List ℕ) (is : is_zone zone ≡ true) (end : is_end after ≡ true) where
  some-zone : 0 < length zone
  some-zone = let low = (zone-number zone is).low in omega (arith, low)

  offset-is : offset_at (zone ++ after) ≡ Some (zone_size (value zone), after)
  unfolding offset_at
  offset-is =
      let number = zone-number zone is in
      let low = number.low in
      let high = number.high in
      ap (λ (run : List ℕ × List ℕ). cond (is_in_range 1 2 (length run.0)) (Some (hours_then (value run.0) run.1)) (cond (is_in_range 3 4 (length run.0)) (Some (zone_size (value run.0), run.1)) None)) (digits-run zone after number.digits some-zone (ended after end))
      ∙ cond-false (is_in_range 1 2 (length zone)) _ _ (and_right (leb 1 (length zone)) (leb (length zone) 2) (lt-leb (length zone) 2 (omega (arith, low))))
      ∙ cond-true (is_in_range 3 4 (length zone)) _ _ (and_from (leb 3 (length zone)) (leb (length zone) 4) (le-leb 3 (length zone) (omega (arith, low))) (le-leb (length zone) 4 high))

  signed-is : (b : ℕ) → run_at is_sign (b ∷ (zone ++ after)) ≡ (b ∷ [], zone ++ after) → signed_at (b ∷ (zone ++ after)) ≡ Some (directed (b ∷ []) (zone_size (value zone)), after)
  unfolding signed_at
  signed-is b run =
      ap (λ (signs : List ℕ × List ℕ). cond (is_empty signs.0) None (option_map (λ offset. (directed signs.0 offset.0, offset.1)) (offset_at signs.1))) run
      ∙ ap (option_map (λ offset. (directed (b ∷ []) offset.0, offset.1))) offset-is

  abbrev others : List ℕ
  others = zone ++ after

  others-stop : Stops is_sign others
  others-stop = no-sign zone after (zone-number zone is).digits some-zone

  plus-run : run_at is_sign (43 ∷ others) ≡ (43 ∷ [], others)
  unfolding run_at after_comments
  plus-run = ap (λ n. (take n (43 ∷ others), drop n (43 ∷ others))) (run-length is_sign (43 ∷ []) others refl others-stop)

  minus-run : run_at is_sign (45 ∷ others) ≡ (45 ∷ [], others)
  unfolding run_at after_comments
  minus-run = ap (λ n. (take n (45 ∷ others), drop n (45 ∷ others))) (run-length is_sign (45 ∷ []) others refl others-stop)

-- what follows the time: no fraction of a second and no `AM`
record Follows (text : List ℕ) (added : ℤ) : Type 0 where
  fraction : after_fraction text ≡ text
  clock : (hour : ℕ) → clock_hour hour text ≡ (hour, text)
  zone_is : (zone_at text).0.0 ≡ added

-- neither a letter nor a quote nor a full stop is at the front
record Signs (text : List ℕ) : Type 0 where
  no_letter : run_at is_ascii_alphabetic text ≡ ([], text)
  no_quote : after_mark quote text ≡ None
  no_stop : after_mark full_stop text ≡ None

plus-signs : (text : List ℕ) → Signs (43 ∷ text)
unfolding run_at after_mark after_comments
plus-signs text = record { no_letter = refl; no_quote = refl; no_stop = refl }

minus-signs : (text : List ℕ) → Signs (45 ∷ text)
unfolding run_at after_mark after_comments
minus-signs text = record { no_letter = refl; no_quote = refl; no_stop = refl }

mark-passed : (mark n : ℕ) (text : List ℕ) → after_mark mark (spaces n ++ text) ≡ after_mark mark text
unfolding after_mark
mark-passed mark n text = ap (after_byte mark) (passed n text)

abbrev zone_of_run : List ℕ × List ℕ → Zoned × List ℕ
zone_of_run run = unwrap_or (cond (is_empty run.0 || is_universal run.0) (signed_at run.1) None) (named_zone run.0 run.1, run.1)

signs-follow : (n : ℕ) (text after : List ℕ) (zone : Zoned) → Signs text → signed_at text ≡ Some (zone, after) → Follows (gap n text) zone.0
unfolding after_fraction clock_hour zone_at after_quote
signs-follow n text after zone none is =
    let whole : List ℕ = gap n text in
    let run : run_at is_ascii_alphabetic whole ≡ ([], text) = run-passed is_ascii_alphabetic (suc n) text ∙ none.no_letter in
    record {
      fraction = ap (λ (o : Option (List ℕ)). option_map_or (λ rest. (run_at is_ascii_digit rest).1) o whole) (mark-passed full_stop (suc n) text ∙ none.no_stop);
      clock = λ hour. ap (λ (run : List ℕ × List ℕ). cond (str_eq_ignore_ascii_case run.0 (codes "AM")) (cond (eqb hour 12) 0 hour, run.1) (cond (str_eq_ignore_ascii_case run.0 (codes "PM")) (cond (is_in_range 1 11 hour) (hour + 12) hour, run.1) (hour, whole))) run;
      zone_is = ap (λ (o : Option (List ℕ)). (zone_of_run (run_at is_ascii_alphabetic (unwrap_or o whole))).0.0) (mark-passed quote (suc n) text ∙ none.no_quote)
          ∙ ap (λ (run : List ℕ × List ℕ). (zone_of_run run).0.0) run
          ∙ ap (λ (o : Option (Zoned × List ℕ)). (unwrap_or o (named_zone [] text, text)).0.0) is;
    }

-- ---- days

years : (n : ℕ) → days_of_years (70 + n) ≡ days_of_years 70 + calendar.days_of_years n
years zero = let none : 70 + 0 ≡ 70 = omega arith in ap days_of_years none ∙ omega arith
years (suc n) =
    let next : 70 + suc n ≡ suc (70 + n) = omega arith in
    let year : 1900 + (70 + n) ≡ 1970 + n = omega arith in
    let before = years n in
    let more : days_of_years (70 + suc n) ≡ days_of_years (70 + n) + year_length (1970 + n) = ap days_of_years next ∙ ap (λ y. days_of_years (70 + n) + year_length y) year in
    omega (arith, before, more)

day-counts : (year month day : ℕ) → 1970 ≤ year → day_number year month day ≡ days_of_years 70 + calendar.day_number year month day
unfolding day_number
day-counts year month day low =
    let same : year - 1900 ≡ 70 + (year - 1970) = omega (arith, low) in
    let days : days_of_years (year - 1900) ≡ days_of_years 70 + calendar.days_of_years (year - 1970) = ap days_of_years same ∙ years (year - 1970) in
    omega (arith, days)

since : (c t : ℕ) → since_1970 (86400 * (days_of_years 70 + c) + t) ≡ pos (86400 * c + t)
unfolding day_number
since c t =
    let k : ℕ = days_of_years 70 in
    let whole : 86400 * (k + c) + t ≡ 86400 * c + t + 86400 * k = omega arith in
    let start : 86400 * (k + (0 + 0)) ≡ 86400 * k = omega arith in
    ap (λ n. pos n +ℤ neg_ℤ (pos (86400 * day_number 1970 0 1))) whole
    ∙ ap (λ n. pos (86400 * c + t + 86400 * k) +ℤ neg_ℤ (pos n)) start
    ∙ +ℤ-neg_ℤ_cancel (pos (86400 * c + t)) (pos (86400 * k))

-- ---- the whole date

module _ (d : StrictDate) (is : IsStrictDate d) where
  abbrev after-time : List ℕ
  after-time = gap d.before_zone (zone_text d)

  abbrev after-minute : List ℕ
  after-minute = colon ∷ (d.second ++ after-time)

  abbrev after-hour : List ℕ
  after-hour = colon ∷ (d.minute ++ after-minute)

  abbrev after-year : List ℕ
  after-year = gap d.before_hour (time_text d)

  abbrev after-month : List ℕ
  after-month = gap d.before_year (d.year ++ after-year)

  abbrev after-day : List ℕ
  after-day = gap d.before_month (d.month_name ++ after-month)

  follows : Follows after-time (zone_added d)
  follows =
      let size : ℕ = zone_size (value d.zone) in
      let tail : List ℕ = d.zone ++ d.after in
      ⊎_elim
      (λ e. subst (λ b. Follows (gap d.before_zone (b ∷ tail)) (cond (eqb b 45) (pos size) (neg_ℤ (pos size)))) (sym e)
      (signs-follow d.before_zone (43 ∷ tail) d.after (directed (43 ∷ []) size) (plus-signs tail) (signed-is d.zone d.after is.zone is.after 43 (plus-run d.zone d.after is.zone is.after))))
      (λ e. subst (λ b. Follows (gap d.before_zone (b ∷ tail)) (cond (eqb b 45) (pos size) (neg_ℤ (pos size)))) (sym e)
      (signs-follow d.before_zone (45 ∷ tail) d.after (directed (45 ∷ []) size) (minus-signs tail) (signed-is d.zone d.after is.zone is.after 45 (minus-run d.zone d.after is.zone is.after))))
      (sign-cases d.sign is.sign)

  minutes : minute_at after-hour ≡ Ok (value d.minute, after-minute)
  unfolding minute_at after_time_mark after_mark after_comments
  minutes = ap (λ o. ok_or o Time) (small-at 59 d.minute after-minute is.minute refl)

  seconds : second_at after-minute ≡ Ok (value d.second, after-time)
  unfolding second_at after_time_mark after_mark after_comments
  seconds =
      ap (λ o. ok_or (option_map whole_second o) Time) (small-at 60 d.second after-time is.second refl)
      ∙ ap (λ (rest : List ℕ). Ok (value d.second, rest)) follows.fraction

  times : time_at (time_text d) ≡ Ok (time_seconds d, after-time)
  unfolding time_at
  times =
      ap (λ o. ok_or o Time >>= λ written. minute_at written.1 >>= λ minute. second_at minute.1 >>= λ second. Ok (3600 * (clock_hour written.0 second.1).0 + 60 * minute.0 + second.0, (clock_hour written.0 second.1).1))
      (small-at 23 d.hour after-hour is.hour refl)
      ∙ ap (λ r. r >>= λ minute. second_at minute.1 >>= λ second. Ok (3600 * (clock_hour (value d.hour) second.1).0 + 60 * minute.0 + second.0, (clock_hour (value d.hour) second.1).1)) minutes
      ∙ ap (λ r. r >>= λ second. Ok (3600 * (clock_hour (value d.hour) second.1).0 + 60 * value d.minute + second.0, (clock_hour (value d.hour) second.1).1)) seconds
      ∙ ap (λ (hour : ℕ × List ℕ). Ok (3600 * hour.0 + 60 * value d.minute + value d.second, hour.1)) (follows.clock (value d.hour))

  abbrev number : ℕ
  number = day_number (value d.year) d.month (value d.day)

  exists : day_in (value d.year) d.month (value d.day) ≡ Ok number
  unfolding day_in month_length
  exists = cond-true (is_in_range 1 (days_of (value d.year) d.month) (value d.day)) (Ok number) (Err Day) is.exists

  abbrev whole : List ℕ
  whole = rest_of d.week_day d.before_day (day_text d)

  some-day : 0 < length d.day
  some-day = let low = (small-number 31 d.day is.day).low in omega (arith, low)

  day-run : run_at is_ascii_digit (day_text d) ≡ (d.day, after-day)
  day-run = digits-run d.day after-day (small-number 31 d.day is.day).digits some-day refl

  begin : Begins (date_text d) whole (day_text d)
  begin =
      begins d.before d.week_day d.before_day d.day after-day is.week_day (small-number 31 d.day is.day).digits some-day
      (ap (λ (run : List ℕ × List ℕ). has_letter (after_separator run.1)) day-run ∙ letter-after d.before_month d.month_name (spaces d.before_year ++ (d.year ++ after-year)) d.month is.month)

  day-text : small_number 31 whole ≡ Some (value d.day, after-day)
  unfolding small_number
  day-text =
      ap (λ (run : List ℕ × List ℕ). cond (is_in_range 1 2 (length run.0) && leb (value run.0) 31) (Some (value run.0, run.1)) None) (begin.run is_ascii_digit)
      ∙ small-at 31 d.day after-day is.day refl

  days : day_first whole ≡ Ok (number, time_text d)
  unfolding day_first day_at
  days =
      let year = year-number d.year is.year in
      let low = year.low in
      let hour = small-number 23 d.hour is.hour in
      let some = hour.low in
      ap (λ o. ok_or o Day >>= λ day. month_at (after_separator day.1) >>= λ month. year_at (after_separator month.1) >>= λ year. day_in year.0 month.0 day.0 >>= λ number. Ok (number, after_separator year.1)) day-text
      ∙ ap (λ r. r >>= λ month. year_at (after_separator month.1) >>= λ year. day_in year.0 month.0 (value d.day) >>= λ number. Ok (number, after_separator year.1))
      (months-at d.before_month d.month_name (spaces d.before_year ++ (d.year ++ after-year)) d.month is.month)
      ∙ ap (λ (t : List ℕ). year_at t >>= λ year. day_in year.0 d.month (value d.day) >>= λ number. Ok (number, after_separator year.1))
      (digits-after d.before_year d.year after-year year.digits (omega (arith, low)))
      ∙ ap (λ r. r >>= λ year. day_in year.0 d.month (value d.day) >>= λ number. Ok (number, after_separator year.1)) (year-at d.year after-year is.year refl)
      ∙ ap (λ r. r >>= λ number. Ok (number, after_separator after-year)) exists
      ∙ ap (λ (t : List ℕ). Ok (number, t)) (digits-after d.before_hour d.hour after-hour hour.digits (omega (arith, some)))

  moments : moment_at (date_text d) ≡ Ok (86400 * number + time_seconds d, (zone_at after-time).0)
  unfolding moment_at clocked is_year_first
  moments =
      let day = small-number 31 d.day is.day in
      let high = day.high in
      ap (λ (t : List ℕ). cond (has_letter t) (month_first t) (cond (is_year_first t) (year_first t >>= clocked) (cond (is_month_first (date_text d) t) (month_first (date_text d)) (day_first t >>= clocked)))) begin.is_rest
      ∙ cond-false (has_letter whole) _ _
      (ap (λ (run : List ℕ × List ℕ). not (is_empty run.0)) (begin.run is_ascii_alphabetic ∙ no-run is_ascii_alphabetic d.day after-day (of_digit is_ascii_alphabetic refl) day.digits some-day))
      ∙ cond-false (is_year_first whole) _ _
      (ap (λ (run : List ℕ × List ℕ). eqb (length run.0) 4) (begin.run is_ascii_digit ∙ day-run) ∙ ne_eqb (length d.day) 4 (λ e. absurd (omega (arith, high, e))))
      ∙ cond-false (is_month_first (date_text d) whole) _ _ begin.day_first
      ∙ ap (λ r. r >>= clocked) days
      ∙ ap (λ r. r >>= λ time. Ok (86400 * number + time.0, (zone_at time.1).0)) times

  abbrev dated : Moment → Dated (ℤ × Option ℤ)
  dated moment = Ok (since_1970 moment.0 +ℤ moment.1.0, offset_of moment.1)

  abbrev zoned : ℤ × Option ℤ → Dated Zoned
  zoned date = Ok (date.0, is_some date.1)

  abbrev alone : Zoned → Dated ℤ
  alone date = Ok date.0

  pub lenient-read : date_of (date_text d) ≡ Ok (strict_seconds d)
  unfolding zoned_date_of date_and_offset_of
  lenient-read =
      let least = year-least d.year is.year in
      ap (λ r. ((r >>= dated) >>= zoned) >>= alone) moments
      ∙ ap (λ n. Ok (since_1970 (86400 * n + time_seconds d) +ℤ (zone_at after-time).0.0)) (day-counts (value d.year) d.month (value d.day) least)
      ∙ ap (λ z. Ok (z +ℤ (zone_at after-time).0.0)) (since (calendar.day_number (value d.year) d.month (value d.day)) (time_seconds d))
      ∙ ap (λ z. Ok (pos (86400 * calendar.day_number (value d.year) d.month (value d.day) + time_seconds d) +ℤ z)) follows.zone_is
