-- An encoded word alone on its line is one decoded word, of its characters.
use Rattle.std.proofs.Common.{◌≡◌, ◌≢◌, ℕ, suc, ◌+◌, ◌-◌, ◌*◌, ◌/◌, ◌%◌, ◌<◌, ◌≤◌, Bool, true, not, cond, eqb, leb, ◌&&◌, List, [], ◌∷◌, ◌++◌, length, map, take, drop, Some, is_some, refl, sym, ap, subst, ◌∙◌, arith, length-append}
use Rattle.std.specs.Prelude.{codes, unwrap_or}
use Rattle.std.specs.Char.{is_ascii_graphic}
use Rattle.std.specs.List.{list_all}
use Rattle.std.specs.Str.{chars, IsUtf8}
use Rattle.std.specs.Option.{option_map}
use Rattle.std.specs.Result.{result_ok}
use Rattle.std.proofs.lemmas.Bool.{and_from, and_left, and_parts, leb-true, not-true, eqb-false, ne_eqb, or_from}
use Rattle.std.proofs.lemmas.List.{take_all, take-append-le, drop_all}
use Rattle.std.proofs.lemmas.Str.{utf8_lossy-IsUtf8}
use Rattle.base64.specs.GeneralPurpose.{IsBytes}
use Rattle.base64.specs.Rfc4648.{encode_symbols}
use Rattle.base64.specs.Tables.{all_below}
use Rattle.base64.proofs.Tables.{all_below_at}
use Rattle.base64.proofs.EngineFacts.{encode-append}
use Rattle.mail_codec.specs.Base64.{alphabet, letter, padding, base64, groups_from, without_line_ends}
use Rattle.mail_codec.specs.Charset.{Charsets, charset_of_label, is_among_labels, text_of}
use Rattle.mail_codec.specs.declared.charset.built_in.Charset.TheVariants.{Utf8}
use Rattle.mail_codec.specs.Places.{first_place}
use Rattle.mail_codec.proofs.lemmas.Base64Engine.{groups_from-encode}
use Rattle.mail_codec.proofs.lemmas.Base64Letters.{letter_no_padding}
use Rattle.mail_codec.proofs.lemmas.Places.{first_place-past}
use Rattle.mailparse.specs.EncodedWord.{encoded_bytes, word_text}
use Rattle.mailparse.specs.Tokens.{begins_opening, begins_closing, boundary_before, closing, decodes, inside, last_group, next_group, no_opening, opening, outside_range, word_range, AreTokens}
use Rattle.mailparse.specs.Value.{Token, line_tokens, outside_token, token_of, whitespace_token}
use Rattle.mailparse.proofs.lemmas.EncodedWord.{word_whole}
use Rattle.mailparse.proofs.lemmas.Unfolded.{token_of-outside}
use Rattle.mailparse.proofs.lemmas.Tokens.{token_ranges_only}
use Rattle.mail_address.specs.Encode.{KnowUtf8, letters}
use Rattle.mail_address.specs.WordTokens.{word}

-- ---- the letters

-- a printable byte other than a question mark
abbrev pub is_word_byte : ℕ → Bool
is_word_byte b = is_ascii_graphic b && not (eqb b 63)

abbrev pub AreLetters : List ℕ → Type 0
AreLetters ls = list_all is_word_byte ls ≡ true

word_byte : (b : ℕ) → is_word_byte b ≡ true → (33 ≤ b) × (b ≢ 63)
word_byte b h =
    let parts = and_parts (is_ascii_graphic b) (not (eqb b 63)) h in
    (leb-true 33 b (and_parts (leb 33 b) (leb b 126) parts.0).0, eqb-false b 63 (not-true (eqb b 63) parts.1))

-- the first of them is no `=`
abbrev pub BeginsUnpadded : List ℕ → Type 0
BeginsUnpadded [] = Unit {0}
BeginsUnpadded (b ∷ bs) = 61 ≢ b

abbrev is_letter_of : ℕ → Bool
is_letter_of v = is_word_byte (letter v)

all_letters : all_below is_letter_of 64 ≡ true
all_letters = refl

letter_is : (v : ℕ) → v < 64 → is_word_byte (letter v) ≡ true
letter_is v h = all_below_at is_letter_of 64 v all_letters h

unpadded : (v : ℕ) → v < 64 → 61 ≢ letter v
unpadded v h e = eqb-false _ _ (letter_no_padding v h) (sym e)

letters_three : (a b c : ℕ) (rest : List ℕ)
    → letters (a ∷ b ∷ c ∷ rest) ≡ letter (a / 4) ∷ letter (a % 4 * 16 + b / 16) ∷ letter (b % 16 * 4 + c / 64) ∷ letter (c % 64) ∷ letters rest
unfolding encode_symbols
letters_three a b c rest = encode-append alphabet padding true (a ∷ b ∷ c ∷ []) rest refl

-- bytes of the alphabet and padding that all pass a test
pub letters_pass : (test : ℕ → Bool) → ((v : ℕ) → v < 64 → test (letter v) ≡ true) → test 61 ≡ true → (bytes : List ℕ) → IsBytes bytes → list_all test (letters bytes) ≡ true
unfolding encode_symbols
letters_pass test passes pad [] h = refl
letters_pass test passes pad (a ∷ []) h =
    let ha : a < 256 = h 0 in
    and_from _ _ (passes (a / 4) (omega arith)) (and_from _ _ (passes (a % 4 * 16) (omega arith)) (and_from _ _ pad (and_from _ _ pad refl)))
letters_pass test passes pad (a ∷ b ∷ []) h =
    let ha : a < 256 = h 0 in
    let hb : b < 256 = h 1 in
    and_from _ _ (passes (a / 4) (omega arith))
    (and_from _ _ (passes (a % 4 * 16 + b / 16) (omega arith)) (and_from _ _ (passes (b % 16 * 4) (omega arith)) (and_from _ _ pad refl)))
letters_pass test passes pad (a ∷ b ∷ c ∷ rest) h =
    let ha : a < 256 = h 0 in
    let hb : b < 256 = h 1 in
    let hc : c < 256 = h 2 in
    subst (λ ls. list_all test ls ≡ true) (sym (letters_three a b c rest))
    (and_from _ _ (passes (a / 4) (omega arith))
    (and_from _ _ (passes (a % 4 * 16 + b / 16) (omega arith))
    (and_from _ _ (passes (b % 16 * 4 + c / 64) (omega arith))
    (and_from _ _ (passes (c % 64) (omega arith)) (letters_pass test passes pad rest (λ i. h (suc (suc (suc i)))))))))

pub letters_are : (bytes : List ℕ) → IsBytes bytes → AreLetters (letters bytes)
letters_are bytes h = letters_pass is_word_byte letter_is refl bytes h

pub letters_begin : (bytes : List ℕ) → IsBytes bytes → BeginsUnpadded (letters bytes)
unfolding encode_symbols
letters_begin [] h = tt
letters_begin (a ∷ []) h = let ha : a < 256 = h 0 in unpadded (a / 4) (omega arith)
letters_begin (a ∷ b ∷ []) h = let ha : a < 256 = h 0 in unpadded (a / 4) (omega arith)
letters_begin (a ∷ b ∷ c ∷ rest) h =
    let ha : a < 256 = h 0 in subst BeginsUnpadded (sym (letters_three a b c rest)) (unpadded (a / 4) (omega arith))

-- no letter ends a line
letters_kept : (ls : List ℕ) → AreLetters ls → without_line_ends ls ≡ ls
letters_kept [] h = refl
letters_kept (x ∷ xs) h =
    let parts = and_parts (is_word_byte x) (list_all is_word_byte xs) h in
    let low = (word_byte x parts.0).0 in
    let kept = ap not (or_from _ _ (ne_eqb x 13 (λ e. absurd (omega arith))) (ne_eqb x 10 (λ e. absurd (omega arith)))) in
    ap (λ t. cond t (x ∷ without_line_ends xs) (without_line_ends xs)) kept ∙ ap (λ r. x ∷ r) (letters_kept xs parts.1)

-- ---- the inside of the word

pub utf_8_known : charset_of_label (codes "utf-8") ≡ Some Utf8
unfolding charset_of_label is_among_labels
utf_8_known = refl

reads_back : (bytes : List ℕ) → IsBytes bytes → encoded_bytes (codes "B") (letters bytes) ≡ Some bytes
unfolding base64
reads_back bytes h = ap result_ok (ap (groups_from 0) (letters_kept (letters bytes) (letters_are bytes h)) ∙ groups_from-encode 0 bytes h)

same_text : (bytes : List ℕ) → IsUtf8 bytes → bytes ≡ text_of Utf8 bytes
unfolding text_of
same_text bytes utf8 = sym (utf8_lossy-IsUtf8 bytes utf8)

inside_decodes : (known : Charsets) → KnowUtf8 known → (bytes : List ℕ) → IsUtf8 bytes → IsBytes bytes
    → word_text known (codes "utf-8?B?" ++ letters bytes) ≡ Some bytes
inside_decodes known knows bytes utf8 h =
    sym (word_whole known (codes "utf-8?B?" ++ letters bytes) (codes "utf-8") (codes "B?" ++ letters bytes) (codes "B") (letters bytes) bytes bytes (text_of Utf8)
    (record { has_mark = refl; before = refl; after = refl }) (record { has_mark = refl; before = refl; after = refl })
    (knows ∙ ap (option_map text_of) utf_8_known) (reads_back bytes h) (same_text bytes utf8))

-- ---- the ends of the word

abbrev pub line_of : List ℕ → List ℕ
line_of ls = codes "=?utf-8?B?" ++ (ls ++ codes "?=")

closing_alone : first_place begins_closing (codes "?=") ≡ 0
unfolding chars
closing_alone = refl

closing_after : (ls : List ℕ) → AreLetters ls → first_place begins_closing (ls ++ codes "?=") ≡ length ls
closing_after [] h = closing_alone
closing_after (x ∷ xs) h =
    let parts = and_parts (is_word_byte x) (list_all is_word_byte xs) h in
    first_place-past begins_closing x (xs ++ codes "?=") (and_left _ _ (and_left _ _ (ne_eqb 63 x (λ e. (word_byte x parts.0).1 (sym e)))))
    ∙ ap suc (closing_after xs parts.1)

-- the question mark before the letters ends no word
closing_at_mark : (ls : List ℕ) → AreLetters ls → BeginsUnpadded ls → first_place begins_closing (63 ∷ ls ++ codes "?=") ≡ suc (length ls)
closing_at_mark [] h u = first_place-past begins_closing 63 (codes "?=") refl ∙ ap suc closing_alone
closing_at_mark (x ∷ xs) h u =
    first_place-past begins_closing 63 (x ∷ xs ++ codes "?=") (and_left _ _ (and_left _ _ (ne_eqb 61 x u))) ∙ ap suc (closing_after (x ∷ xs) h)

length_line : (ls : List ℕ) → length (line_of ls) ≡ 12 + length ls
length_line ls = let e = length-append ls (codes "?=") in omega (arith, e)

closing_at : (ls : List ℕ) → AreLetters ls → BeginsUnpadded ls → closing (line_of ls) 2 ≡ 10 + length ls
closing_at ls h u =
    let m = closing_at_mark ls h u in
    let seven : first_place begins_closing (codes "utf-8?B?" ++ (ls ++ codes "?=")) ≡ suc (suc (suc (suc (suc (suc (suc (first_place begins_closing (63 ∷ ls ++ codes "?="))))))))
    = refl in
    omega (arith, m, seven)

opening_at : (ls : List ℕ) → opening (line_of ls) 0 ≡ 0
opening_at ls = refl

opening_past : (line : List ℕ) (s : ℕ) → s ≡ length line → opening line s ≡ length line
opening_past line s e =
    let none : first_place begins_opening (drop s line) ≡ 0 = ap (first_place begins_opening) (drop_all s line (omega arith)) in
    omega (arith, none)

boundary_at_start : (line : List ℕ) → boundary_before line 0 ≡ true
unfolding chars
boundary_at_start line = refl

inside_is : (ls : List ℕ) (e : ℕ) → e ≡ 10 + length ls → inside (line_of ls) 0 e ≡ codes "utf-8?B?" ++ ls
inside_is ls e at =
    let text : List ℕ = codes "utf-8?B?" ++ ls in
    let len : length text ≡ 8 + length ls = omega arith in
    take-append-le (e - 2) text (codes "?=") (omega (arith, len)) ∙ take_all (e - 2) text (omega (arith, len))

-- ---- the line's tokens

outside_nil : outside_token [] ≡ whitespace_token []
unfolding chars
outside_nil = refl

-- the tokens of a line that is one word: it, with nothing before it and after it
abbrev pub around : List ℕ → List Token
around text = whitespace_token [] ∷ word text ∷ whitespace_token [] ∷ []

module _ (known : Charsets) (ls text : List ℕ) (good : AreLetters ls) (unpadded : BeginsUnpadded ls)
    (read : word_text known (codes "utf-8?B?" ++ ls) ≡ Some text) where
  abbrev line : List ℕ
  line = line_of ls

  abbrev e : ℕ
  e = 10 + length ls

  inside_read : word_text known (inside line 0 e) ≡ Some text
  inside_read = ap (word_text known) (inside_is ls e refl) ∙ read

  past_end : e + 2 ≡ length line
  past_end = let len = length_line ls in omega (arith, len)

  are : AreTokens known line (outside_range line 0 0 ∷ word_range 0 e ∷ outside_range line (e + 2) (length line) ∷ [])
  are =
      next_group {t = e + 2} {group = outside_range line 0 0 ∷ word_range 0 e ∷ []} {rest = outside_range line (e + 2) (length line) ∷ []}
      (decodes {v = 0} {e = e} (opening_at ls) (λ z. let len = length_line ls in absurd (omega (arith, len))) (boundary_at_start line) (closing_at ls good unpadded)
      (λ z. let len = length_line ls in absurd (omega (arith, len))) (ap is_some inside_read))
      (last_group (no_opening (opening_past line (e + 2) past_end))) refl

  first_is : token_of known line (outside_range line 0 0) ≡ whitespace_token []
  first_is = token_of-outside known line 0 0 ∙ outside_nil

  word_is : token_of known line (word_range 0 e) ≡ word text
  word_is =
      let back : e + 2 - 2 ≡ e = omega arith in
      ap (λ n. word (unwrap_or (word_text known (inside line 0 n)) [])) back ∙ ap (λ o. word (unwrap_or o [])) inside_read

  last_is : token_of known line (outside_range line (e + 2) (length line)) ≡ whitespace_token []
  last_is =
      token_of-outside known line (e + 2) (length line)
      ∙ ap outside_token (ap (take (length line - (e + 2))) (drop_all (e + 2) line (omega (arith, past_end))) ∙ take_all (length line - (e + 2)) [] (omega arith))
      ∙ outside_nil

  word_line : line_tokens known line ≡ around text
  word_line =
      ap (map (token_of known line)) (sym (token_ranges_only known line _ are))
      ∙ ap (λ t. t ∷ token_of known line (word_range 0 e) ∷ token_of known line (outside_range line (e + 2) (length line)) ∷ []) first_is
      ∙ ap (λ t. whitespace_token [] ∷ t ∷ token_of known line (outside_range line (e + 2) (length line)) ∷ []) word_is
      ∙ ap (λ t. whitespace_token [] ∷ word text ∷ t ∷ []) last_is

pub encoded_word-tokens : (known : Charsets) → KnowUtf8 known → (bytes : List ℕ) → IsUtf8 bytes → IsBytes bytes
    → line_tokens known (line_of (letters bytes)) ≡ around bytes
encoded_word-tokens known knows bytes utf8 h =
    word_line known (letters bytes) bytes (letters_are bytes h) (letters_begin bytes h) (inside_decodes known knows bytes utf8 h)
