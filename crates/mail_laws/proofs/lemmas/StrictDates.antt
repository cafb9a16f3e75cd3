-- Dates in the strict form: the facts about their pieces that both readings use, and the port's reading.
use Rattle.std.proofs.Common.{◌≡◌, ◌⊎◌, ⊎_elim, ℕ, zero, suc, ◌+◌, ◌*◌, ◌^◌, ◌<◌, ◌≤◌, Bool, true, false, cond, not, eqb, leb, ltb, ◌&&◌, List, [], ◌∷◌, ◌++◌, length, drop, inl, inr, option_map, append-nil, Option, Some, None, Ok, Err, refl, sym, ap, ◌∙◌, arith}
use Rattle.std.specs.Prelude.{ℤ, pos, neg_ℤ, ◌+ℤ◌, codes, filter, find, is_some, ok_or, unsigned_abs}
use Rattle.std.specs.Char.{is_ascii_alphabetic, is_ascii_digit, to_ascii_lowercase}
use Rattle.std.specs.Int.{is_in_range}
use Rattle.std.specs.Option.{option_map_or}
use Rattle.std.specs.List.{list_all, list_any, onto_first, slice_split}
use Rattle.std.specs.Str.{all_ascii_digits, bytes_eq, str_eq_ignore_ascii_case, str_to_ascii_lowercase}
use Rattle.std.specs.Str.Parse.{AllDigits, digits_value, without_leading_plus}
use Rattle.std.proofs.Math.IntN.{+ℤ_assoc}
use Rattle.std.proofs.Math.Nat.{pow-le-pow_right}
use Rattle.std.proofs.lemmas.Bool.{agree_below, agree_below_at, and_from, and_parts, cond-false, cond-true, false≢true, eqb-true, leb-true, lt-ltb, le-leb, leb-false, le-ltb, ltb-true, not-true, or_cases}
use Rattle.std.proofs.lemmas.Int.Digits.{digits_value-lt}
use Rattle.std.proofs.lemmas.List.Splits.{slice_split-cons_no, slice_split-cons_yes}
use Rattle.std.proofs.lemmas.Slice.Eq.{bytes_eq-Decides}
use Rattle.std.proofs.lemmas.Str.Ascii.{lowercase_is}
use Rattle.mail_codec.specs.Ascii.{space, colon, comma}
use Rattle.mail_codec.specs.Calendar.{day_number, months}
use Rattle.mail_codec.specs.Names.{look_up}
use Rattle.mail_codec.specs.Places.{is_empty}
use Rattle.mail_read.proofs.lemmas.lenient.Date.{digit_below}
use Rattle.mail_read.specs.lenient.Date.{month_names}
use Rattle.mailparse.specs.Date.{date_seconds, date_words, day_of, from_day, from_hour, from_minute, from_month, from_second, from_year, from_zone, invalid_hour, invalid_minute, invalid_second, disallowed_year, fits_32_bits, invalid_day, invalid_year, invalid_zone, is_separator, month_of, number_below, seconds_of, signed_number, unrecognized_month, words, year_of, year_of_number, zone_named, zone_of, zone_of_number, zone_seconds, zone_size}
use Rattle.mailparse.specs.Refusal.{◌>>=◌, Reads, Refusal}
use Rattle.mail_laws.specs.StrictDates.{date_text, day_text, days_of, gap, has_digits, is_end, is_month, is_sign, is_small, is_week_day, is_year, is_zone, IsStrictDate, names_of_days, spaces, strict_seconds, StrictDate, time_text, value, with_week_day, zone_added, zone_text}

-- ---- digits

-- what a test says of digits, which are below 58
pub of_digit : (test : ℕ → Bool) → agree_below (λ b. is_ascii_digit b && test b) (λ b. false) 58 ≡ true → (b : ℕ) → is_ascii_digit b ≡ true → test b ≡ false
of_digit test fails b digit =
    let high = leb-true b 57 (and_parts (leb 48 b) (leb b 57) digit).1 in
    sym (ap (λ t. t && test b) digit) ∙ agree_below_at (λ b. is_ascii_digit b && test b) (λ b. false) 58 b fails (omega (arith, high))

pub are-digits : (text : List ℕ) → all_ascii_digits text ≡ true → AllDigits 10 text
are-digits [] all = tt
are-digits (b ∷ text) all =
    let parts = and_parts (is_ascii_digit b) (all_ascii_digits text) all in
    (digit_below b parts.0, are-digits text parts.1)

-- a text of digits, with the bounds on its length and on its number
pub record IsNumber (least most : ℕ) (text : List ℕ) : Type 0 where
  pub digits : all_ascii_digits text ≡ true
  pub low : least ≤ length text
  pub high : length text ≤ most
  pub below : value text < 10 ^ most

pub number-of : (least most : ℕ) (text : List ℕ) → has_digits least most text ≡ true → IsNumber least most text
number-of least most text is =
    let parts = and_parts (all_ascii_digits text) (is_in_range least most (length text)) is in
    let bounds = and_parts (leb least (length text)) (leb (length text) most) parts.1 in
    let high = leb-true (length text) most bounds.1 in
    let whole = digits_value-lt 10 text (are-digits text parts.0) in
    let more = pow-le-pow_right {n = 10} (omega arith) {i = length text} {j = most} high in
    record { digits = parts.0; low = leb-true least (length text) bounds.0; high = high; below = omega (arith, whole, more) }

pub small-number : (most : ℕ) (text : List ℕ) → is_small most text ≡ true → IsNumber 1 2 text
small-number most text is = number-of 1 2 text (and_parts (has_digits 1 2 text) (leb (value text) most) is).0

pub small-most : (most : ℕ) (text : List ℕ) → is_small most text ≡ true → value text ≤ most
small-most most text is = leb-true (value text) most (and_parts (has_digits 1 2 text) (leb (value text) most) is).1

pub year-number : (text : List ℕ) → is_year text ≡ true → IsNumber 4 9 text
year-number text is = number-of 4 9 text (and_parts (has_digits 4 9 text) (leb 1970 (value text)) is).0

pub year-least : (text : List ℕ) → is_year text ≡ true → 1970 ≤ value text
year-least text is = leb-true 1970 (value text) (and_parts (has_digits 4 9 text) (leb 1970 (value text)) is).1

pub zone-number : (text : List ℕ) → is_zone text ≡ true → IsNumber 4 4 text
zone-number text is = number-of 4 4 text (and_parts (has_digits 4 4 text) (leb (value text) 2400) is).0

zone-most : (text : List ℕ) → is_zone text ≡ true → value text ≤ 2400
zone-most text is = leb-true (value text) 2400 (and_parts (has_digits 4 4 text) (leb (value text) 2400) is).1

pub some-text : (text : List ℕ) → 0 < length text → is_empty text ≡ false
some-text [] some = absurd (omega (arith, some))
some-text (b ∷ text) some = refl

-- ---- letters and names

-- what a test says of letters, which are below 123
pub of_letter : (test : ℕ → Bool) → agree_below (λ b. is_ascii_alphabetic b && test b) (λ b. false) 123 ≡ true → (b : ℕ) → is_ascii_alphabetic b ≡ true → test b ≡ false
of_letter test fails b letter =
    let low : b < 123 = ⊎_elim (λ e. let high = leb-true b 90 (and_parts (leb 65 b) (leb b 90) e).1 in omega (arith, high)) (λ e. let high = leb-true b 122 (and_parts (leb 97 b) (leb b 122) e).1 in omega (arith, high)) (or_cases (is_in_range 65 90 b) (is_in_range 97 122 b) letter) in
    sym (ap (λ t. t && test b) letter) ∙ agree_below_at (λ b. is_ascii_alphabetic b && test b) (λ b. false) 123 b fails low

lowered-letter : (b : ℕ) → is_ascii_alphabetic (to_ascii_lowercase b) ≡ true → is_ascii_alphabetic b ≡ true
lowered-letter b letter = go (leb b 90) refl
  where
    go : (t : Bool) → leb b 90 ≡ t → is_ascii_alphabetic b ≡ true
    go true e =
        let high = leb-true b 90 e in
        sym (agree_below_at (λ b. is_ascii_alphabetic (to_ascii_lowercase b)) is_ascii_alphabetic 91 b refl (omega (arith, high))) ∙ letter
    go false e =
        let high = leb-false b 90 e in
        ap is_ascii_alphabetic (sym ((lowercase_is b).2 (omega (arith, high)))) ∙ letter

-- a word of letters
pub record IsWord (text : List ℕ) : Type 0 where
  pub letters : list_all is_ascii_alphabetic text ≡ true
  pub some : 0 < length text

lowered-word : (text low : List ℕ) → str_to_ascii_lowercase text ≡ low → list_all is_ascii_alphabetic low && not (is_empty low) ≡ true → IsWord text
lowered-word text low same is =
    let parts = and_parts (list_all is_ascii_alphabetic (str_to_ascii_lowercase text)) (not (is_empty (str_to_ascii_lowercase text))) (ap (λ (t : List ℕ). list_all is_ascii_alphabetic t && not (is_empty t)) same ∙ is) in
    record { letters = all text parts.0; some = some text parts.1 }
  where
    all : (text : List ℕ) → list_all is_ascii_alphabetic (str_to_ascii_lowercase text) ≡ true → list_all is_ascii_alphabetic text ≡ true
    all [] is = refl
    all (b ∷ text) is =
        let parts = and_parts (is_ascii_alphabetic (to_ascii_lowercase b)) (list_all is_ascii_alphabetic (str_to_ascii_lowercase text)) is in
        and_from (is_ascii_alphabetic b) (list_all is_ascii_alphabetic text) (lowered-letter b parts.0) (all text parts.1)

    some : (text : List ℕ) → not (is_empty (str_to_ascii_lowercase text)) ≡ true → 0 < length text
    some [] is = absurd (false≢true is)
    some (b ∷ text) is = omega arith

-- one of some names, each a word
named : (names : List (List ℕ)) (text : List ℕ) → list_all (λ name. list_all is_ascii_alphabetic (str_to_ascii_lowercase name) && not (is_empty (str_to_ascii_lowercase name))) names ≡ true
    → list_any (str_eq_ignore_ascii_case text) names ≡ true → IsWord text
named [] text are is = absurd (false≢true is)
named (name ∷ names) text are is =
    let parts = and_parts (list_all is_ascii_alphabetic (str_to_ascii_lowercase name) && not (is_empty (str_to_ascii_lowercase name))) (list_all (λ name. list_all is_ascii_alphabetic (str_to_ascii_lowercase name) && not (is_empty (str_to_ascii_lowercase name))) names) are in
    ⊎_elim
    (λ e. lowered-word text (str_to_ascii_lowercase name) ((bytes_eq-Decides (str_to_ascii_lowercase text) (str_to_ascii_lowercase name)).0 e) parts.0)
    (λ e. named names text parts.1 e)
    (or_cases (str_eq_ignore_ascii_case text name) (list_any (str_eq_ignore_ascii_case text) names) is)

pub day-name : (name : List ℕ) → is_week_day (Some name) ≡ true → IsWord name
day-name name is = named names_of_days name refl is

-- the value of a name in a table, given the name in lower case
abbrev looked_up : List (List ℕ × ℕ) → List ℕ → Option ℕ
looked_up table low = option_map (λ row. row.1) (find (λ row. bytes_eq low (str_to_ascii_lowercase row.0)) table)

-- both tables give the number of a month
record IsListed (low : List ℕ) (month : ℕ) : Type 0 where
  word : list_all is_ascii_alphabetic low && not (is_empty low) ≡ true
  port : looked_up months low ≡ Some month
  lenient : looked_up month_names low ≡ Some month

-- the name of a month is a word, and both readings know it
pub record IsMonthName (text : List ℕ) (month : ℕ) : Type 0 where
  pub word : IsWord text
  pub port : look_up months text ≡ Some month
  pub lenient : look_up month_names text ≡ Some month

listed : (name text : List ℕ) (month : ℕ) → str_eq_ignore_ascii_case text name ≡ true → IsListed (str_to_ascii_lowercase name) month → IsMonthName text month
listed name text month same is =
    let low = (bytes_eq-Decides (str_to_ascii_lowercase text) (str_to_ascii_lowercase name)).0 same in
    record {
      word = lowered-word text (str_to_ascii_lowercase name) low is.word;
      port = ap (looked_up months) low ∙ is.port;
      lenient = ap (looked_up month_names) low ∙ is.lenient;
    }

pub month-name : (text : List ℕ) (month : ℕ) → is_month text month ≡ true → IsMonthName text month
month-name text zero is = listed (codes "Jan") text 0 is (record { word = refl; port = refl; lenient = refl })
month-name text (suc zero) is = listed (codes "Feb") text 1 is (record { word = refl; port = refl; lenient = refl })
month-name text (suc (suc zero)) is = listed (codes "Mar") text 2 is (record { word = refl; port = refl; lenient = refl })
month-name text (suc (suc (suc zero))) is = listed (codes "Apr") text 3 is (record { word = refl; port = refl; lenient = refl })
month-name text (suc (suc (suc (suc zero)))) is = listed (codes "May") text 4 is (record { word = refl; port = refl; lenient = refl })
month-name text (suc (suc (suc (suc (suc zero))))) is = listed (codes "Jun") text 5 is (record { word = refl; port = refl; lenient = refl })
month-name text (suc (suc (suc (suc (suc (suc zero)))))) is = listed (codes "Jul") text 6 is (record { word = refl; port = refl; lenient = refl })
month-name text (suc (suc (suc (suc (suc (suc (suc zero))))))) is = listed (codes "Aug") text 7 is (record { word = refl; port = refl; lenient = refl })
month-name text (suc (suc (suc (suc (suc (suc (suc (suc zero)))))))) is = listed (codes "Sep") text 8 is (record { word = refl; port = refl; lenient = refl })
month-name text (suc (suc (suc (suc (suc (suc (suc (suc (suc zero))))))))) is = listed (codes "Oct") text 9 is (record { word = refl; port = refl; lenient = refl })
month-name text (suc (suc (suc (suc (suc (suc (suc (suc (suc (suc zero)))))))))) is = listed (codes "Nov") text 10 is (record { word = refl; port = refl; lenient = refl })
month-name text (suc (suc (suc (suc (suc (suc (suc (suc (suc (suc (suc zero))))))))))) is = listed (codes "Dec") text 11 is (record { word = refl; port = refl; lenient = refl })
month-name text (suc (suc (suc (suc (suc (suc (suc (suc (suc (suc (suc (suc month)))))))))))) is =
    let n : ℕ = suc (suc (suc (suc (suc (suc (suc (suc (suc (suc (suc (suc month))))))))))) in
    let low = ltb-true n 12 (and_parts (ltb n 12) (str_eq_ignore_ascii_case text []) is).0 in
    absurd (omega (arith, low))

-- ---- the words of a text

abbrev Plain : List ℕ → Type 0
Plain word = list_all (λ b. not (is_separator b)) word ≡ true

split-at : (word : List ℕ) (s : ℕ) (rest : List ℕ) → Plain word → is_separator s ≡ true
    → slice_split is_separator (word ++ s ∷ rest) ≡ word ∷ slice_split is_separator rest
split-at [] s rest plain is = slice_split-cons_yes is_separator s rest is
split-at (b ∷ word) s rest plain is =
    let parts = and_parts (not (is_separator b)) (list_all (λ b. not (is_separator b)) word) plain in
    slice_split-cons_no is_separator b (word ++ s ∷ rest) (not-true (is_separator b) parts.0) ∙ ap (onto_first b) (split-at word s rest parts.1 is)

split-last : (word : List ℕ) → Plain word → slice_split is_separator word ≡ word ∷ []
split-last [] plain = refl
split-last (b ∷ word) plain =
    let parts = and_parts (not (is_separator b)) (list_all (λ b. not (is_separator b)) word) plain in
    slice_split-cons_no is_separator b word (not-true (is_separator b) parts.0) ∙ ap (onto_first b) (split-last word parts.1)

word-at : (word : List ℕ) (s : ℕ) (rest : List ℕ) → Plain word → 0 < length word → is_separator s ≡ true → words (word ++ s ∷ rest) ≡ word ∷ words rest
word-at word s rest plain some is =
    ap (filter (λ word. not (is_empty word))) (split-at word s rest plain is)
    ∙ cond-true (not (is_empty word)) (word ∷ words rest) (words rest) (ap not (some-text word some))

word-last : (word : List ℕ) → Plain word → 0 < length word → words word ≡ word ∷ []
word-last word plain some =
    ap (filter (λ word. not (is_empty word))) (split-last word plain)
    ∙ cond-true (not (is_empty word)) (word ∷ []) [] (ap not (some-text word some))

words-passed : (n : ℕ) (text : List ℕ) → words (spaces n ++ text) ≡ words text
words-passed zero text = refl
words-passed (suc n) text =
    ap (filter (λ word. not (is_empty word))) (slice_split-cons_yes is_separator space (spaces n ++ text) refl) ∙ words-passed n text

plain-digits : (text : List ℕ) → all_ascii_digits text ≡ true → Plain text
plain-digits [] all = refl
plain-digits (b ∷ text) all =
    let parts = and_parts (is_ascii_digit b) (all_ascii_digits text) all in
    and_from (not (is_separator b)) (list_all (λ b. not (is_separator b)) text) (ap not (of_digit is_separator refl b parts.0)) (plain-digits text parts.1)

plain-letters : (text : List ℕ) → list_all is_ascii_alphabetic text ≡ true → Plain text
plain-letters [] all = refl
plain-letters (b ∷ text) all =
    let parts = and_parts (is_ascii_alphabetic b) (list_all is_ascii_alphabetic text) all in
    and_from (not (is_separator b)) (list_all (λ b. not (is_separator b)) text) (ap not (of_letter is_separator refl b parts.0)) (plain-letters text parts.1)

-- ---- numbers

no-plus : (text : List ℕ) → all_ascii_digits text ≡ true → without_leading_plus text ≡ text
no-plus [] all = refl
no-plus (b ∷ text) all =
    ap (λ t. drop (cond t 1 0) (b ∷ text)) (of_digit (λ b. eqb b 43) refl b (and_parts (is_ascii_digit b) (all_ascii_digits text) all).0)

number-read : (limit : ℕ) (text : List ℕ) → all_ascii_digits text ≡ true → 0 < length text → value text < limit
    → number_below limit text ≡ Some (value text)
unfolding number_below
number-read limit text all some low =
    ap (λ digits. cond (not (is_empty digits) && (all_ascii_digits digits && ltb (digits_value 10 digits) limit)) (Some (digits_value 10 digits)) None) (no-plus text all)
    ∙ cond-true (not (is_empty text) && (all_ascii_digits text && ltb (value text) limit)) (Some (value text)) None
    (and_from (not (is_empty text)) (all_ascii_digits text && ltb (value text) limit) (ap not (some-text text some))
    (and_from (all_ascii_digits text) (ltb (value text) limit) all (lt-ltb (value text) limit low)))

small-read : (most : ℕ) (text : List ℕ) → is_small most text ≡ true → number_below 256 text ≡ Some (value text)
small-read most text is =
    let number = small-number most text is in
    let low = number.low in
    let below = number.below in
    number-read 256 text number.digits (omega (arith, low)) (omega (arith, below))

seconds-read : (unit most : ℕ) (refusal : Refusal) (text : List ℕ) → is_small most text ≡ true → seconds_of unit refusal text ≡ Ok (pos (unit * value text))
seconds-read unit most refusal text is = ap (λ o. ok_or o refusal >>= λ n. Ok (pos (unit * n))) (small-read most text is)

-- ---- the pieces of a date

-- the day of the week and its comma are a word that is no number
split-comma : (name rest : List ℕ) → list_all is_ascii_alphabetic name ≡ true
    → slice_split is_separator (name ++ comma ∷ space ∷ rest) ≡ (name ++ comma ∷ []) ∷ slice_split is_separator rest
split-comma [] rest all =
    slice_split-cons_no is_separator comma (space ∷ rest) refl ∙ ap (onto_first comma) (slice_split-cons_yes is_separator space rest refl)
split-comma (b ∷ name) rest all =
    let parts = and_parts (is_ascii_alphabetic b) (list_all is_ascii_alphabetic name) all in
    slice_split-cons_no is_separator b (name ++ comma ∷ space ∷ rest) (of_letter is_separator refl b parts.0) ∙ ap (onto_first b) (split-comma name rest parts.1)

no-number : (b : ℕ) (rest : List ℕ) → is_ascii_alphabetic b ≡ true → number_below 256 (b ∷ rest) ≡ None
unfolding number_below
no-number b rest letter =
    ap (λ t. let digits : List ℕ = drop (cond t 1 0) (b ∷ rest) in cond (not (is_empty digits) && (all_ascii_digits digits && ltb (digits_value 10 digits) 256)) (Some (digits_value 10 digits)) None) (of_letter (λ b. eqb b 43) refl b letter)
    ∙ ap (λ t. cond ((t && all_ascii_digits rest) && ltb (digits_value 10 (b ∷ rest)) 256) (Some (digits_value 10 (b ∷ rest))) None) (of_letter is_ascii_digit refl b letter)

comma-passed : (name rest : List ℕ) → list_all is_ascii_alphabetic name ≡ true → 0 < length name → date_words (words (name ++ comma ∷ space ∷ rest)) ≡ date_words (words rest)
comma-passed [] rest all some = absurd (omega (arith, some))
comma-passed (b ∷ name) rest all some =
    let letter = (and_parts (is_ascii_alphabetic b) (list_all is_ascii_alphabetic name) all).0 in
    let word : List ℕ = b ∷ (name ++ comma ∷ []) in
    ap (λ (ws : List (List ℕ)). date_words (filter (λ word. not (is_empty word)) ws)) (split-comma (b ∷ name) rest all)
    ∙ ap (λ (o : Option ℕ). cond (is_some o) (word ∷ words rest) (date_words (words rest))) (no-number b (name ++ comma ∷ []) letter)

fronts : (k : ℕ) (week_day : Option (List ℕ)) (n : ℕ) (rest : List ℕ) → is_week_day week_day ≡ true
    → date_words (words (spaces k ++ with_week_day week_day n rest)) ≡ date_words (words rest)
fronts k None n rest is = ap date_words (words-passed k rest)
fronts k (Some name) n rest is =
    let word = day-name name is in
    ap date_words (words-passed k (name ++ comma ∷ gap n rest))
    ∙ comma-passed name (spaces n ++ rest) word.letters word.some
    ∙ ap date_words (words-passed n rest)

-- the sign of a zone
pub sign-cases : (b : ℕ) → is_sign b ≡ true → (b ≡ 43) ⊎ (b ≡ 45)
sign-cases b is = ⊎_elim (λ e. inl (eqb-true b 43 e)) (λ e. inr (eqb-true b 45 e)) (or_cases (eqb b 43) (eqb b 45) is)

-- ---- the port's reading

neg-fits : (n : ℕ) → n < 2 ^ 31 → fits_32_bits (neg_ℤ (pos n)) ≡ true
neg-fits zero low = lt-ltb 0 (2 ^ 31) low
neg-fits (suc n) low = lt-ltb n (2 ^ 31) (omega (arith, low))

neg-size : (n : ℕ) → unsigned_abs (neg_ℤ (pos n)) ≡ n
neg-size zero = refl
neg-size (suc n) = refl

neg-seconds : (n : ℕ) → zone_seconds (neg_ℤ (pos n)) ≡ pos (zone_size n)
neg-seconds zero = refl
neg-seconds (suc n) = refl

zone-plus : (zone : List ℕ) → is_zone zone ≡ true → zone_of (43 ∷ zone) ≡ Ok (pos (value zone))
unfolding zone_of signed_number
zone-plus zone is =
    let number = zone-number zone is in
    let most = zone-most zone is in
    let low = number.low in
    let n : ℕ = value zone in
    let signed : signed_number (43 ∷ zone) ≡ Some (pos n) =
    cond-true (not (is_empty zone) && (all_ascii_digits zone && ltb n (2 ^ 31))) (Some (pos n)) None
    (and_from (not (is_empty zone)) (all_ascii_digits zone && ltb n (2 ^ 31)) (ap not (some-text zone (omega (arith, low))))
    (and_from (all_ascii_digits zone) (ltb n (2 ^ 31)) number.digits (lt-ltb n (2 ^ 31) (omega (arith, most))))) in
    ap (λ o. option_map_or zone_of_number o (zone_named (43 ∷ zone))) signed
    ∙ cond-true (leb n 2400) (Ok (pos n)) (Err invalid_zone) (le-leb n 2400 most)

zone-minus : (zone : List ℕ) → is_zone zone ≡ true → zone_of (45 ∷ zone) ≡ Ok (neg_ℤ (pos (value zone)))
unfolding zone_of signed_number
zone-minus zone is =
    let number = zone-number zone is in
    let most = zone-most zone is in
    let low = number.low in
    let n : ℕ = value zone in
    let signed : signed_number (45 ∷ zone) ≡ Some (neg_ℤ (pos n)) =
    cond-true (not (is_empty zone) && (all_ascii_digits zone && fits_32_bits (neg_ℤ (pos n)))) (Some (neg_ℤ (pos n))) None
    (and_from (not (is_empty zone)) (all_ascii_digits zone && fits_32_bits (neg_ℤ (pos n))) (ap not (some-text zone (omega (arith, low))))
    (and_from (all_ascii_digits zone) (fits_32_bits (neg_ℤ (pos n))) number.digits (neg-fits n (omega (arith, most))))) in
    ap (λ o. option_map_or zone_of_number o (zone_named (45 ∷ zone))) signed
    ∙ cond-true (leb (unsigned_abs (neg_ℤ (pos n))) 2400) (Ok (neg_ℤ (pos n))) (Err invalid_zone) (ap (λ m. leb m 2400) (neg-size n) ∙ le-leb n 2400 most)

year-read : (text : List ℕ) → is_year text ≡ true → year_of text ≡ Ok (value text)
unfolding year_of
year-read text is =
    let number = year-number text is in
    let least = year-least text is in
    let low = number.low in
    let below = number.below in
    let n : ℕ = value text in
    ap (λ o. ok_or o invalid_year >>= year_of_number) (number-read (2 ^ 32) text number.digits (omega (arith, low)) (omega (arith, below)))
    ∙ cond-false (ltb n 70) (Ok (2000 + n)) _ (le-ltb n 70 (omega (arith, least)))
    ∙ cond-false (ltb n 100) (Ok (1900 + n)) _ (le-ltb n 100 (omega (arith, least)))
    ∙ cond-false (ltb n 1970) (Err disallowed_year) (Ok n) (le-ltb n 1970 least)

both : (x y : Reads ℤ) (a b : ℤ) → x ≡ Ok a → y ≡ Ok b → (x >>= λ s. y >>= λ m. Ok (s +ℤ m)) ≡ Ok (a +ℤ b)
both x y a b is later = ap (λ r. r >>= λ s. y >>= λ m. Ok (s +ℤ m)) is ∙ ap (λ r. r >>= λ m. Ok (a +ℤ m)) later

sum-of : (a b c e : ℕ) (z : ℤ) → pos a +ℤ (pos b +ℤ (pos c +ℤ (pos (1 * e) +ℤ z))) ≡ pos (a + (b + c + e)) +ℤ z
sum-of a b c e z =
    let same : a + (b + (c + 1 * e)) ≡ a + (b + c + e) = omega arith in
    ap (λ y. pos a +ℤ (pos b +ℤ y)) (sym (+ℤ_assoc (pos c) (pos (1 * e)) z))
    ∙ ap (λ y. pos a +ℤ y) (sym (+ℤ_assoc (pos b) (pos (c + 1 * e)) z))
    ∙ sym (+ℤ_assoc (pos a) (pos (b + (c + 1 * e))) z)
    ∙ ap (λ n. pos n +ℤ z) same

module _ (d : StrictDate) (is : IsStrictDate d) where
  -- the number of the day in its month
  pub day-least : 1 ≤ value d.day
  day-least = leb-true 1 (value d.day) (and_parts (leb 1 (value d.day)) (leb (value d.day) (days_of (value d.year) d.month)) is.exists).0

  piece-at : (most : ℕ) (text : List ℕ) (s : ℕ) (rest : List ℕ) → is_small most text ≡ true → is_separator s ≡ true → words (text ++ s ∷ rest) ≡ text ∷ words rest
  piece-at most text s rest small sep =
      let number = small-number most text small in
      let low = number.low in
      word-at text s rest (plain-digits text number.digits) (omega (arith, low)) sep

  sign-plain : (b : ℕ) → is_sign b ≡ true → is_separator b ≡ false
  sign-plain b sign = ⊎_elim (λ e. ap is_separator e) (λ e. ap is_separator e) (sign-cases b sign)

  zone-words : words (zone_text d) ≡ (d.sign ∷ d.zone) ∷ words d.after
  zone-words = go d.after is.after
    where
      plain : Plain (d.sign ∷ d.zone)
      plain = and_from (not (is_separator d.sign)) (list_all (λ b. not (is_separator b)) d.zone) (ap not (sign-plain d.sign is.sign)) (plain-digits d.zone (zone-number d.zone is.zone).digits)

      go : (after : List ℕ) → is_end after ≡ true → words (d.sign ∷ (d.zone ++ after)) ≡ (d.sign ∷ d.zone) ∷ words after
      go [] end = ap (λ (t : List ℕ). words (d.sign ∷ t)) (append-nil d.zone) ∙ word-last (d.sign ∷ d.zone) plain (omega arith)
      go (b ∷ after) end =
          let same = eqb-true b space end in
          ap (λ b. words (d.sign ∷ (d.zone ++ b ∷ after))) same
          ∙ word-at (d.sign ∷ d.zone) space after plain (omega arith) refl
          ∙ ap (λ (ws : List (List ℕ)). (d.sign ∷ d.zone) ∷ ws) (sym (words-passed 1 after))
          ∙ ap (λ b. (d.sign ∷ d.zone) ∷ words (b ∷ after)) (sym same)

  time-words : words (time_text d) ≡ d.hour ∷ d.minute ∷ d.second ∷ (d.sign ∷ d.zone) ∷ words d.after
  time-words =
      piece-at 23 d.hour colon (d.minute ++ colon ∷ (d.second ++ gap d.before_zone (zone_text d))) is.hour refl
      ∙ ap (λ (ws : List (List ℕ)). d.hour ∷ ws)
      (piece-at 59 d.minute colon (d.second ++ gap d.before_zone (zone_text d)) is.minute refl
      ∙ ap (λ (ws : List (List ℕ)). d.minute ∷ ws)
      (piece-at 60 d.second space (spaces d.before_zone ++ zone_text d) is.second refl
      ∙ ap (λ (ws : List (List ℕ)). d.second ∷ ws) (words-passed d.before_zone (zone_text d) ∙ zone-words)))

  day-words : words (day_text d) ≡ d.day ∷ d.month_name ∷ d.year ∷ words (time_text d)
  day-words =
      let name = (month-name d.month_name d.month is.month).word in
      let year = year-number d.year is.year in
      let low = year.low in
      piece-at 31 d.day space (spaces d.before_month ++ (d.month_name ++ gap d.before_year (d.year ++ gap d.before_hour (time_text d)))) is.day refl
      ∙ ap (λ (ws : List (List ℕ)). d.day ∷ ws)
      (words-passed d.before_month (d.month_name ++ gap d.before_year (d.year ++ gap d.before_hour (time_text d)))
      ∙ word-at d.month_name space (spaces d.before_year ++ (d.year ++ gap d.before_hour (time_text d))) (plain-letters d.month_name name.letters) name.some refl
      ∙ ap (λ (ws : List (List ℕ)). d.month_name ∷ ws)
      (words-passed d.before_year (d.year ++ gap d.before_hour (time_text d))
      ∙ word-at d.year space (spaces d.before_hour ++ time_text d) (plain-digits d.year year.digits) (omega (arith, low)) refl
      ∙ ap (λ (ws : List (List ℕ)). d.year ∷ ws) (words-passed d.before_hour (time_text d))))

  zone-seconds : from_zone ((d.sign ∷ d.zone) ∷ words d.after) ≡ Ok (zone_added d)
  zone-seconds =
      let size : ℕ = zone_size (value d.zone) in
      ⊎_elim
      (λ e.
      ap (λ b. from_zone ((b ∷ d.zone) ∷ words d.after)) e ∙ ap (λ r. r >>= λ z. Ok (zone_seconds z)) (zone-plus d.zone is.zone)
      ∙ sym (ap (λ b. Ok (cond (eqb b 45) (pos size) (neg_ℤ (pos size)))) e))
      (λ e.
      ap (λ b. from_zone ((b ∷ d.zone) ∷ words d.after)) e ∙ ap (λ r. r >>= λ z. Ok (zone_seconds z)) (zone-minus d.zone is.zone)
      ∙ ap (λ z. Ok z) (neg-seconds (value d.zone))
      ∙ sym (ap (λ b. Ok (cond (eqb b 45) (pos size) (neg_ℤ (pos size)))) e))
      (sign-cases d.sign is.sign)

  clock : from_hour (d.hour ∷ d.minute ∷ d.second ∷ (d.sign ∷ d.zone) ∷ words d.after)
      ≡ Ok (pos (3600 * value d.hour) +ℤ (pos (60 * value d.minute) +ℤ (pos (1 * value d.second) +ℤ zone_added d)))
  clock =
      both (seconds_of 3600 invalid_hour d.hour) (from_minute (d.minute ∷ d.second ∷ (d.sign ∷ d.zone) ∷ words d.after)) _ _ (seconds-read 3600 23 invalid_hour d.hour is.hour)
      (both (seconds_of 60 invalid_minute d.minute) (from_second (d.second ∷ (d.sign ∷ d.zone) ∷ words d.after)) _ _ (seconds-read 60 59 invalid_minute d.minute is.minute)
      (both (seconds_of 1 invalid_second d.second) (from_zone ((d.sign ∷ d.zone) ∷ words d.after)) _ _ (seconds-read 1 60 invalid_second d.second is.second) zone-seconds))

  from-year : from_year d.month (value d.day) (d.year ∷ d.hour ∷ d.minute ∷ d.second ∷ (d.sign ∷ d.zone) ∷ words d.after) ≡ Ok (strict_seconds d)
  from-year =
      let ws : List (List ℕ) = d.hour ∷ d.minute ∷ d.second ∷ (d.sign ∷ d.zone) ∷ words d.after in
      let n : ℕ = 86400 * day_number (value d.year) d.month (value d.day) in
      ap (λ r. r >>= λ y. from_hour ws >>= λ more. Ok (pos (86400 * day_number y d.month (value d.day)) +ℤ more)) (year-read d.year is.year)
      ∙ ap (λ r. r >>= λ more. Ok (pos n +ℤ more)) clock
      ∙ ap (λ z. Ok z) (sum-of n (3600 * value d.hour) (60 * value d.minute) (value d.second) (zone_added d))

  day-read : day_of d.day ≡ Ok (value d.day)
  day-read =
      let most = small-most 31 d.day is.day in
      ap (λ o. ok_or o invalid_day >>= λ day. cond (is_in_range 1 31 day) (Ok day) (Err invalid_day)) (small-read 31 d.day is.day)
      ∙ cond-true (is_in_range 1 31 (value d.day)) (Ok (value d.day)) (Err invalid_day) (and_from (leb 1 (value d.day)) (leb (value d.day) 31) (le-leb 1 (value d.day) day-least) (le-leb (value d.day) 31 most))

  month-read : month_of d.month_name ≡ Ok d.month
  unfolding month_of
  month-read = ap (λ o. ok_or o unrecognized_month) (month-name d.month_name d.month is.month).port

  pub strict-read : date_seconds (date_text d) ≡ Ok (strict_seconds d)
  unfolding date_seconds
  strict-read =
      let ws : List (List ℕ) = d.month_name ∷ d.year ∷ words (time_text d) in
      ap from_day
      (fronts d.before d.week_day d.before_day (day_text d) is.week_day ∙ ap date_words day-words
      ∙ cond-true (is_some (number_below 256 d.day)) (d.day ∷ ws) (date_words ws) (ap is_some (small-read 31 d.day is.day)))
      ∙ ap (λ r. r >>= λ day. from_month day ws) day-read
      ∙ ap (λ r. r >>= λ month. from_year month (value d.day) (d.year ∷ words (time_text d))) month-read
      ∙ ap (λ (ts : List (List ℕ)). from_year d.month (value d.day) (d.year ∷ ts)) time-words
      ∙ from-year
