-- UTF-7, a front at a time.
use Rattle.std.proofs.Common.{◌≡◌, ℕ, zero, suc, ◌+◌, ◌-◌, ◌*◌, ◌/◌, ◌%◌, ◌^◌, ◌<◌, ◌≤◌, Bool, true, false, cond, List, [], ◌∷◌, ◌++◌, length, take, drop, map, get_or, refl, sym, ap, ◌∙◌, arith, None, Some, append-nil, append_assoc, encode_utf8_all}
use Rattle.std.specs.Prelude.{nat_lt, ◌==◌, not}
use Rattle.std.specs.Option.{unwrap_or}
use Rattle.std.specs.List.{position_or_len, range_with_len}
use Rattle.std.specs.Char.Utf16.{utf16_lossy_chars}
use Rattle.std.proofs.lemmas.Bool.Decides.{nat_tests}
use Rattle.std.proofs.lemmas.List.Sums.{prefix_len-le-length}
use Rattle.std.proofs.lemmas.Str.{encodes-append, encodes-IsAscii}
use Rattle.mail_codec.specs.Charset.{ascii_char, replacement}
use Rattle.mail_codec.specs.Front.{text_by}
use Rattle.mail_codec.specs.Utf7.{ends_whole, four_letters, is_direct, letters_chars, letters_length, shifted, shifted_by, shifted_chars, unit_at, units_count, utf7_front, utf7_text}
use Rattle.mail_codec.proofs.lemmas.Front.{text_front}

-- a unit lies in the letters of its group of eight
unit_in : (letters : List ℕ) (number offset shift : ℕ) → 16 * number / 6 ≡ offset → 16 * number % 6 ≡ shift
    → four_letters letters offset / 2 ^ (8 - shift) % 2 ^ 16 ≡ unit_at letters number
unfolding unit_at
unit_in letters number offset shift at before = rw (at, before) refl

pub unit_first : (letters : List ℕ) (number : ℕ) → number % 3 ≡ 0 → four_letters letters (number / 3 * 8) / 256 % 65536 ≡ unit_at letters number
unit_first letters number is = unit_in letters number (number / 3 * 8) 0 (omega arith) (omega arith)

pub unit_second : (letters : List ℕ) (number : ℕ) → number % 3 ≡ 1 → four_letters letters (number / 3 * 8 + 2) / 16 % 65536 ≡ unit_at letters number
unit_second letters number is = unit_in letters number (number / 3 * 8 + 2) 4 (omega arith) (omega arith)

pub unit_third : (letters : List ℕ) (number : ℕ) → number % 3 ≡ 2 → four_letters letters (number / 3 * 8 + 5) / 64 % 65536 ≡ unit_at letters number
unit_third letters number is = unit_in letters number (number / 3 * 8 + 5) 2 (omega arith) (omega arith)

-- the first position that passes the test, or the length
position_or : (b : Bool) (a n : ℕ) → nat_lt a n ≡ b → a ≤ n → unwrap_or (cond b (Some a) None) n ≡ a
position_or true a n is within = refl
position_or false a n is within = let h : n ≤ a = grind (arith, nat_tests) in omega arith

pub position_unwrapped : (test : ℕ → Bool) (xs : List ℕ)
    → unwrap_or (cond (nat_lt (position_or_len test xs) (length xs)) (Some (position_or_len test xs)) None) (length xs) ≡ position_or_len test xs
position_unwrapped test xs = position_or (nat_lt (position_or_len test xs) (length xs)) (position_or_len test xs) (length xs) refl (prefix_len-le-length (λ x. not (test x)) xs)

-- the characters of letters that end in a whole unit, and of others
pub letters_whole : (letters : List ℕ) → ends_whole letters ≡ true
    → encode_utf8_all (utf16_lossy_chars (map (unit_at letters) (range_with_len 0 (units_count letters)))) ≡ encode_utf8_all (letters_chars letters)
unfolding letters_chars
letters_whole letters is =
    let chars = utf16_lossy_chars (map (unit_at letters) (range_with_len 0 (units_count letters))) in
    sym (ap (λ b. encode_utf8_all (chars ++ cond b [] (replacement ∷ []))) is ∙ ap encode_utf8_all (append-nil chars))

pub letters_cut : (letters : List ℕ) → ends_whole letters ≡ false
    → encode_utf8_all (utf16_lossy_chars (map (unit_at letters) (range_with_len 0 (units_count letters)))) ++ encode_utf8_all (replacement ∷ [])
    ≡ encode_utf8_all (letters_chars letters)
unfolding letters_chars
letters_cut letters is =
    let chars = utf16_lossy_chars (map (unit_at letters) (range_with_len 0 (units_count letters))) in
    sym (ap (λ b. encode_utf8_all (chars ++ cond b [] (replacement ∷ []))) is ∙ encodes-append chars (replacement ∷ []))

-- the letters after a plus, and whether a minus closes them
pub shifted_is : (bs : List ℕ) (count : ℕ) (is_closed : Bool) → count ≡ letters_length bs → is_closed ≡ (get_or bs count 0 == 45)
    → (shifted_chars (take count bs) is_closed, 1 + count + cond is_closed 1 0) ≡ shifted bs
unfolding shifted
shifted_is bs count is_closed letters closed =
    ap (λ b. (shifted_chars (take count bs) b, 1 + count + cond b 1 0)) closed ∙ ap (λ n. shifted_by n bs) letters

-- the front after a plus, and any other
pub front_plus : (bs : List ℕ) → get_or bs 0 0 ≡ 43 → shifted (drop 1 bs) ≡ utf7_front bs
unfolding utf7_front
front_plus bs is = rw is refl

pub front_other : (bs : List ℕ) → ¬ (get_or bs 0 0 ≡ 43) → (ascii_char (get_or bs 0 0) ∷ [], 1) ≡ utf7_front bs
unfolding utf7_front
front_other bs other = let h : (get_or bs 0 0 == 43) ≡ false = grind (arith, nat_tests) in rw h refl

-- one more front is written
pub front_pushed : (bs made total : List ℕ) (n : ℕ) → 0 < length bs → 0 < n → n ≡ (utf7_front bs).1 → made ++ utf7_text bs ≡ total
    → (made ++ encode_utf8_all (utf7_front bs).0) ++ utf7_text (drop n bs) ≡ total
front_pushed bs made total n some takes is all =
    append_assoc made (encode_utf8_all (utf7_front bs).0) (utf7_text (drop n bs))
    ∙ ap (λ xs. made ++ xs) (sym (text_front utf7_front bs ((utf7_front bs).0) n some takes (ap (λ (m : ℕ). ((utf7_front bs).0, m)) is))) ∙ all

-- direct bytes are their own text
direct_small : (b : ℕ) → is_direct b ≡ true → b < 128
direct_small b is = grind (arith, nat_tests)

direct_front : (b : ℕ) (bs : List ℕ) → is_direct b ≡ true → (b ∷ [], 1) ≡ utf7_front (b ∷ bs)
unfolding utf7_front
direct_front b bs is =
    let small : nat_lt b 128 ≡ true = grind (arith, nat_tests) in
    let other : (b == 43) ≡ false = grind (arith, nat_tests) in
    rw (other, small) refl

pub direct_stay : (bs : List ℕ) → ((at : ℕ) → at < length bs → is_direct (get_or bs at 0) ≡ true) → utf7_text bs ≡ bs
unfolding text_by
direct_stay [] direct = refl
direct_stay (b ∷ bs) direct =
    text_front utf7_front (b ∷ bs) (b ∷ []) 1 (omega arith) (omega arith) (direct_front b bs (direct 0 (omega arith)))
    ∙ ap (λ xs. xs ++ utf7_text bs) (encodes-IsAscii (b ∷ []) (elim [ zero ↦ direct_small b (direct 0 (omega arith)) | suc k ↦ omega arith ]))
    ∙ ap (λ xs. b ∷ xs) (direct_stay bs (λ at within. direct (suc at) (omega (arith, within))))
