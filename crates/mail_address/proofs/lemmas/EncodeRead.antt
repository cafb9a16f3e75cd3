-- A written value reads back: its lines are its encoded words, and what shows are their characters.
use Rattle.std.proofs.Common.{◌≡◌, ◌≢◌, ◌⊎◌, inl, inr, ℕ, zero, suc, ◌-◌, ◌<◌, ◌≤◌, true, false, cond, eqb, not, ◌&&◌, ◌||◌, List, [], ◌∷◌, ◌++◌, length, map, take, get_or, find, Option, Some, None, refl, sym, ap, subst, ◌∙◌, ⊎_elim, arith, append_assoc, length-append}
use Rattle.std.specs.Prelude.{codes, nat_lt, encode_utf8_all, flat_map, is_none, option_map}
use Rattle.std.specs.Char.{encode_utf8, is_ascii_graphic}
use Rattle.std.specs.List.{All, list_all, slice_split}
use Rattle.std.specs.Option.{option_or}
use Rattle.std.specs.Str.{chars, trim_start, skip_leading_whitespace, IsAscii, IsUtf8}
use Rattle.std.specs.Str.Lines.{lines, lines_of_parts, strip_carriage_return}
use Rattle.std.proofs.lemmas.Bool.{cond_both, cond-true, cond-false, and_parts, cases_lt, false≢true, lt-ltb, ne_eqb, eq-eqb, not-true}
use Rattle.std.proofs.lemmas.List.{get_or_push, take_all, take-append-le, drop_all}
use Rattle.std.proofs.lemmas.List.Folds.{list_all-append}
use Rattle.std.proofs.lemmas.List.Elements.{All-append}
use Rattle.std.proofs.lemmas.List.Splits.{slice_split_at, slice_split_none}
use Rattle.std.proofs.lemmas.Str.{chars-IsAscii, encodes-IsAscii, encodes-chars, scalars-chars, IsAscii-append, IsUtf8-from_ascii, encode_ascii}
use Rattle.std.proofs.lemmas.Str.Ascii.{IsAscii-nil, IsAscii-cons}
use Rattle.base64.specs.GeneralPurpose.{IsBytes}
use Rattle.mail_codec.specs.Charset.{Charsets, four_charsets, text_of}
use Rattle.mail_codec.specs.Tables.{charsets_with, has_label, table_text}
use Rattle.mail_codec.specs.declared.charset.built_in.Charset.TheVariants.{Utf8}
use Rattle.mail_codec.specs.declared.charset.tables.SingleByteTable.{SingleByteTable}
use Rattle.mail_codec.specs.Places.{first_place, has_prefix}
use Rattle.mail_codec.proofs.lemmas.CharsetUtf8.{encode_two, encode_three, encode_four}
use Rattle.mail_codec.proofs.lemmas.Places.{first_place-before}
use Rattle.mailparse.specs.Tokens.{whitespace, decoded_word}
use Rattle.mailparse.specs.Value.{IsPlain, Token, is_released, kinds, lenient_value, lenient_value_in, line_tokens, newline, shown_after, shown_tokens, unfolded_value, tokens_of_lines, value_tokens, whitespace_token}
use Rattle.mailparse.proofs.lemmas.EncodedWord.{split_some}
use Rattle.mailparse.proofs.lemmas.Value.{lenient-utf8}
use Rattle.mailparse.proofs.lemmas.ValuePlain.{unfolded_value-plain}
use Rattle.mail_address.specs.Encode.{KnowUtf8, AreWords, no_word, next_word, encoded_word, is_plain_byte, is_plain_value, letters, word_lines, words_of, written_value}
use Rattle.mail_address.specs.WordTokens.{word}
use Rattle.mail_address.proofs.lemmas.Encode.{each, list_all-weaker, plain_ascii, plain_byte, plain_no_feed, words_fit, words_join}
use Rattle.mail_address.proofs.lemmas.EncodeWord.{AreLetters, is_word_byte, around, encoded_word-tokens, letters_are, utf_8_known}
use lib.Utf8.{scalar, scalars, scalar_cases}

-- ---- the bytes of characters

abbrev AreBytes : List ℕ → Type 0
AreBytes [] = Unit {0}
AreBytes (b ∷ bs) = (b < 256) × AreBytes bs

AreBytes-append : (xs ys : List ℕ) → AreBytes xs → AreBytes ys → AreBytes (xs ++ ys)
AreBytes-append [] ys a b = b
AreBytes-append (x ∷ xs) ys a b = (a.0, AreBytes-append xs ys a.1 b)

bytes_from : (bs : List ℕ) → AreBytes bs → IsBytes bs
bytes_from [] h i = omega arith
bytes_from (b ∷ bs) h zero = h.0
bytes_from (b ∷ bs) h (suc i) = bytes_from bs h.1 i

character_bytes : (c : ℕ) → scalar c ≡ true → AreBytes (encode_utf8 c)
character_bytes c h = by (cases_lt c 128) (cases_lt c 2048) (cases_lt c 65536)
  where
    below : (c < 55296) ⊎ ((57344 ≤ c) × (c < 1114112)) → c < 1114112
    below (inl l) = omega arith
    below (inr l) = l.1

    by : (c < 128) ⊎ (128 ≤ c) → (c < 2048) ⊎ (2048 ≤ c) → (c < 65536) ⊎ (65536 ≤ c) → AreBytes (encode_utf8 c)
    by (inl a) _ _ = subst AreBytes (sym (encode_ascii c a)) (omega arith, tt)
    by (inr a) (inl b) _ = subst AreBytes (sym (encode_two c a b)) (omega arith, (omega arith, tt))
    by (inr a) (inr b) (inl d) = subst AreBytes (sym (encode_three c b d)) (omega arith, (omega arith, (omega arith, tt)))
    by (inr a) (inr b) (inr d) =
        let top = below (scalar_cases c h) in
        subst AreBytes (sym (encode_four c d)) (omega arith, (omega arith, (omega arith, (omega arith, tt))))

characters_bytes : (cs : List ℕ) → scalars cs ≡ true → AreBytes (encode_utf8_all cs)
characters_bytes [] h = tt
characters_bytes (c ∷ cs) h =
    let parts = and_parts (scalar c) (scalars cs) h in
    AreBytes-append (encode_utf8 c) (encode_utf8_all cs) (character_bytes c parts.0) (characters_bytes cs parts.1)

scalars_split : (xs ys : List ℕ) → scalars (xs ++ ys) ≡ true → (scalars xs ≡ true) × (scalars ys ≡ true)
scalars_split [] ys h = (refl, h)
scalars_split (x ∷ xs) ys h =
    let parts = and_parts (scalar x) (scalars (xs ++ ys)) h in
    let more = scalars_split xs ys parts.1 in
    (ap (λ t. t && scalars xs) parts.0 ∙ more.0, more.1)

-- ---- the words, each of characters

abbrev pub AreTexts : List (List ℕ) → Type 0
AreTexts [] = Unit {0}
AreTexts (w ∷ ws) = (scalars w ≡ true) × AreTexts ws

pub words_texts : {cs : List ℕ} {ws : List (List ℕ)} → AreWords cs ws → scalars cs ≡ true → AreTexts ws
words_texts no_word h = tt
words_texts (next_word {word = w} {rest = rest} some fits full more e) h =
    let parts = scalars_split w rest (ap scalars (sym e) ∙ h) in
    (parts.0, words_texts more parts.1)

pub word_bytes_are : (w : List ℕ) → scalars w ≡ true → IsBytes (encode_utf8_all w)
word_bytes_are w h = bytes_from (encode_utf8_all w) (characters_bytes w h)

word_tokens : (known : Charsets) → KnowUtf8 known → (w : List ℕ) → scalars w ≡ true → line_tokens known (encoded_word w) ≡ around (encode_utf8_all w)
word_tokens known knows w h = encoded_word-tokens known knows (encode_utf8_all w) (w, (h, refl)) (word_bytes_are w h)

-- ---- the bytes of an encoded word

letters_plain : (ls : List ℕ) → AreLetters ls → list_all is_plain_byte ls ≡ true
letters_plain ls h =
    list_all-weaker is_word_byte is_plain_byte (λ b k. ap (λ t. t || eqb b 32) (and_parts (is_ascii_graphic b) (not (eqb b 63)) k).0) ls h

pub word_plain : (w : List ℕ) → scalars w ≡ true → list_all is_plain_byte (encoded_word w) ≡ true
word_plain w h =
    let ls = letters (encode_utf8_all w) in
    list_all-append is_plain_byte ls (codes "?=") ∙ ap (λ t. t && true) (letters_plain ls (letters_are (encode_utf8_all w) (word_bytes_are w h)))

word_ascii : (w : List ℕ) → scalars w ≡ true → IsAscii (encoded_word w)
word_ascii w h = plain_ascii (encoded_word w) (word_plain w h)

-- ---- the lines of a value

abbrev NoFeed : List ℕ → Type 0
NoFeed xs = All (λ b. eqb b 10 ≡ false) xs

no_feed : (xs : List ℕ) → list_all (λ b. not (eqb b 10)) xs ≡ true → NoFeed xs
no_feed xs h = each {P = λ b. eqb b 10 ≡ false} (λ b. not (eqb b 10)) (λ b k. not-true (eqb b 10) k) xs h

word_no_feed : (w : List ℕ) → scalars w ≡ true → NoFeed (encoded_word w)
word_no_feed w h = each {P = λ b. eqb b 10 ≡ false} is_plain_byte plain_no_feed (encoded_word w) (word_plain w h)

abbrev pieces : List ℕ → List (List ℕ)
pieces text = slice_split (λ b. eqb b 10) text

stripped : (xs : List ℕ) → strip_carriage_return (xs ++ 13 ∷ []) ≡ xs
stripped xs =
    let len = length-append xs (13 ∷ []) in
    let at : length (xs ++ 13 ∷ []) - 1 ≡ length xs = omega arith in
    cond-true _ _ _ (eq-eqb _ _ (ap (λ n. get_or (xs ++ 13 ∷ []) n 0) at ∙ get_or_push xs 13 0 (length xs) refl))
    ∙ ap (λ n. take n (xs ++ 13 ∷ [])) at ∙ take-append-le (length xs) xs (13 ∷ []) (omega arith) ∙ take_all (length xs) xs (omega arith)

first_of_more : (x : List ℕ) (ps : List (List ℕ)) → ps ≢ [] → lines_of_parts (x ∷ ps) ≡ strip_carriage_return x ∷ lines_of_parts ps
first_of_more x [] some = absurd (some refl)
first_of_more x (p ∷ ps) some = refl

-- an encoded word without its first byte
abbrev tail_of : List ℕ → List ℕ
tail_of w = codes "?utf-8?B?" ++ (letters (encode_utf8_all w) ++ codes "?=")

-- the line of a word, and those after it, which begin with a space
abbrev folded : List (List ℕ) → List (List ℕ)
folded ws = map (λ w. 32 ∷ encoded_word w) ws

lines_are : (front w : List ℕ) (ws : List (List ℕ)) → NoFeed front → AreTexts (w ∷ ws)
    → lines (front ++ word_lines (w ∷ ws)) ≡ (front ++ encoded_word w) ∷ folded ws
lines_are front w [] clear h =
    let some = length-append front (encoded_word w) in
    ap lines_of_parts (slice_split_none (λ b. eqb b 10) (front ++ encoded_word w) (All-append (λ b. eqb b 10 ≡ false) front (encoded_word w) clear (word_no_feed w h.0)))
    ∙ cond-false _ _ _ (ne_eqb (length (front ++ encoded_word w)) 0 (λ (e : length (front ++ encoded_word w) ≡ 0). absurd (omega arith)))
lines_are front w (v ∷ ws) clear h =
    let line : List ℕ = front ++ encoded_word w in
    let rest : List ℕ = 32 ∷ word_lines (v ∷ ws) in
    let whole : front ++ word_lines (w ∷ v ∷ ws) ≡ (line ++ 13 ∷ []) ++ 10 ∷ rest =
    sym (append_assoc line (13 ∷ []) (10 ∷ rest) ∙ append_assoc front (encoded_word w) (13 ∷ 10 ∷ rest)) in
    let here : NoFeed (line ++ 13 ∷ []) =
    All-append (λ b. eqb b 10 ≡ false) line (13 ∷ []) (All-append (λ b. eqb b 10 ≡ false) front (encoded_word w) clear (word_no_feed w h.0)) (no_feed (13 ∷ []) refl) in
    ap lines whole
    ∙ ap lines_of_parts (slice_split_at (λ b. eqb b 10) (line ++ 13 ∷ []) 10 rest here refl)
    ∙ first_of_more (line ++ 13 ∷ []) (pieces rest) (split_some (λ b. eqb b 10) rest)
    ∙ ap (λ x. x ∷ lines rest) (stripped line)
    ∙ ap (λ ls. line ∷ ls) (lines_are (32 ∷ []) v ws (no_feed (32 ∷ []) refl) h.1)

-- ---- without the space before them

trim_none : (xs : List ℕ) → IsAscii (61 ∷ xs) → trim_start (61 ∷ xs) ≡ 61 ∷ xs
unfolding trim_start
trim_none xs h = ap (λ cs. encode_utf8_all (skip_leading_whitespace cs)) (chars-IsAscii (61 ∷ xs) h) ∙ encodes-IsAscii (61 ∷ xs) h

trim_space : (xs : List ℕ) → IsAscii (61 ∷ xs) → trim_start (32 ∷ 61 ∷ xs) ≡ 61 ∷ xs
unfolding trim_start
trim_space xs h =
    ap (λ cs. encode_utf8_all (skip_leading_whitespace cs)) (chars-IsAscii (32 ∷ 61 ∷ xs) (IsAscii-cons 32 (61 ∷ xs) (omega arith) h)) ∙ encodes-IsAscii (61 ∷ xs) h

trimmed_folded : (ws : List (List ℕ)) → AreTexts ws → map trim_start (folded ws) ≡ map encoded_word ws
trimmed_folded [] h = refl
trimmed_folded (w ∷ ws) h =
    ap (λ l. l ∷ map trim_start (folded ws)) (trim_space (tail_of w) (word_ascii w h.0))
    ∙ ap (λ ls. encoded_word w ∷ ls) (trimmed_folded ws h.1)

trimmed_lines : (w : List ℕ) (ws : List (List ℕ)) → AreTexts (w ∷ ws) → map trim_start (lines (word_lines (w ∷ ws))) ≡ map encoded_word (w ∷ ws)
trimmed_lines w ws h =
    ap (map trim_start) (lines_are [] w ws (no_feed [] refl) h)
    ∙ ap (λ l. l ∷ map trim_start (folded ws)) (trim_none (tail_of w) (word_ascii w h.0))
    ∙ ap (λ ls. encoded_word w ∷ ls) (trimmed_folded ws h.1)

-- ---- the tokens, and what they show

abbrev next_tokens : List (List ℕ) → List Token
next_tokens [] = []
next_tokens (w ∷ ws) = newline ∷ whitespace_token [] ∷ word (encode_utf8_all w) ∷ whitespace_token [] ∷ next_tokens ws

tokens_are : (known : Charsets) → KnowUtf8 known → (w : List ℕ) (ws : List (List ℕ)) → AreTexts (w ∷ ws)
    → tokens_of_lines known (map encoded_word (w ∷ ws)) ≡ around (encode_utf8_all w) ++ next_tokens ws
tokens_are known knows w [] h = word_tokens known knows w h.0
tokens_are known knows w (v ∷ ws) h =
    ap (λ ts. ts ++ (newline ∷ tokens_of_lines known (map encoded_word (v ∷ ws)))) (word_tokens known knows w h.0)
    ∙ ap (λ ts. around (encode_utf8_all w) ++ (newline ∷ ts)) (tokens_are known knows v ws h.1)

not_released : (ws : List (List ℕ)) → is_released whitespace (kinds (next_tokens ws)) ≡ false
not_released [] = refl
not_released (w ∷ ws) = refl

shown_next : (ws : List (List ℕ)) → shown_after (Some decoded_word) (Some whitespace) (next_tokens ws) ≡ flat_map encode_utf8_all ws
shown_next [] = refl
shown_next (w ∷ ws) =
    ap (λ t. encode_utf8_all w ++ (cond t [] [] ++ shown_after (Some decoded_word) (Some whitespace) (next_tokens ws))) (not_released ws)
    ∙ ap (λ r. encode_utf8_all w ++ r) (shown_next ws)

words_show : (known : Charsets) → KnowUtf8 known → (w : List ℕ) (ws : List (List ℕ)) → AreTexts (w ∷ ws)
    → unfolded_value known (word_lines (w ∷ ws)) ≡ flat_map encode_utf8_all (w ∷ ws)
unfolding unfolded_value value_tokens
words_show known knows w ws h =
    ap (λ ls. shown_tokens (tokens_of_lines known ls)) (trimmed_lines w ws h)
    ∙ ap shown_tokens (tokens_are known knows w ws h)
    ∙ shown_next (w ∷ ws)

-- ---- the whole value

lines_ascii : (w : List ℕ) (ws : List (List ℕ)) → AreTexts (w ∷ ws) → IsAscii (word_lines (w ∷ ws))
lines_ascii w [] h = word_ascii w h.0
lines_ascii w (v ∷ ws) h =
    IsAscii-append (encoded_word w) (13 ∷ 10 ∷ 32 ∷ word_lines (v ∷ ws)) (word_ascii w h.0)
    (IsAscii-cons 13 (10 ∷ 32 ∷ word_lines (v ∷ ws)) (omega arith) (IsAscii-cons 10 (32 ∷ word_lines (v ∷ ws)) (omega arith) (IsAscii-cons 32 (word_lines (v ∷ ws)) (omega arith) (lines_ascii v ws h.1))))

pub nothing_shows : (known : Charsets) → unfolded_value known [] ≡ []
unfolding unfolded_value value_tokens
nothing_shows known = refl

pub words_read : (known : Charsets) → KnowUtf8 known → (ws : List (List ℕ)) → AreTexts ws → lenient_value_in known (word_lines ws) ≡ flat_map encode_utf8_all ws
words_read known knows [] h = lenient-utf8 known [] (IsUtf8-from_ascii [] IsAscii-nil) ∙ nothing_shows known
words_read known knows (w ∷ ws) h =
    lenient-utf8 known (word_lines (w ∷ ws)) (IsUtf8-from_ascii (word_lines (w ∷ ws)) (lines_ascii w ws h)) ∙ words_show known knows w ws h

-- the words of a text are of characters
pub text_words : (text : List ℕ) → IsUtf8 text → AreTexts (words_of (chars text))
text_words text utf8 = words_texts (words_fit (chars text)) (scalars-chars text utf8)

encoded_reads_back : (known : Charsets) → KnowUtf8 known → (text : List ℕ) → IsUtf8 text → lenient_value_in known (word_lines (words_of (chars text))) ≡ text
encoded_reads_back known knows text utf8 =
    words_read known knows (words_of (chars text)) (text_words text utf8) ∙ words_join (words_fit (chars text)) ∙ encodes-chars text utf8

-- ---- plain values

none_found : (p n : ℕ) → is_none (cond (nat_lt p n) (Some p) None) ≡ true → n ≤ p
none_found p n h = elim (cases_lt p n) [
  | inl low ↦ absurd (false≢true (sym (ap (λ t. is_none (cond t (Some p) None)) (lt-ltb p n low)) ∙ h))
  | inr high ↦ high
]

pub plain_is : (value : List ℕ) → is_plain_value value ≡ true → IsPlain value
plain_is value h =
    let first = and_parts _ _ h in
    let second = and_parts _ _ first.1 in
    let none = none_found (first_place (has_prefix (codes "=?")) value) (length value) second.1 in
    record {
      printable = each {P = λ b. (32 ≤ b) × (b ≤ 126)} is_plain_byte plain_byte value first.0;
      no_space = not-true _ second.0;
      no_opening = λ k. ⊎_elim (λ lt. first_place-before (has_prefix (codes "=?")) value k (omega arith)) (λ past. ap (has_prefix (codes "=?")) (drop_all k value past)) (cases_lt k (length value));
    }

-- whatever charsets are known, a plain value shows itself
pub plain_reads : (known : Charsets) (value : List ℕ) → is_plain_value value ≡ true → lenient_value_in known value ≡ value
plain_reads known value h =
    lenient-utf8 known value (IsUtf8-from_ascii value (plain_ascii value (and_parts (list_all is_plain_byte value) _ h).0))
    ∙ unfolded_value-plain known value (plain_is value h)

-- ---- any value

-- what a text is written as shows the text
pub written_reads : (known : Charsets) (text : List ℕ) → KnowUtf8 known ⊎ (is_plain_value text ≡ true) → IsUtf8 text
    → lenient_value_in known (written_value text) ≡ text
unfolding written_value
written_reads known text able utf8 =
    cond_both (is_plain_value text) text (word_lines (words_of (chars text))) (λ value. lenient_value_in known value ≡ text) (plain_reads known text)
    (λ e. ⊎_elim (λ knows. encoded_reads_back known knows text utf8) (λ plain. absurd (false≢true (sym e ∙ plain))) able)

pub written_reads_back : (text : List ℕ) → IsUtf8 text → lenient_value (written_value text) ≡ text
written_reads_back text utf8 = written_reads four_charsets text (inl refl) utf8

-- the charsets of a caller know UTF-8 by its label
pub caller_knows : (tables : List SingleByteTable) → KnowUtf8 (charsets_with tables)
unfolding charsets_with
caller_knows tables = go (four_charsets (codes "utf-8")) (ap (option_map text_of) utf_8_known)
  where
    go : (o : Option (List ℕ → List ℕ)) → o ≡ Some (text_of Utf8)
        → option_or o (option_map table_text (find (has_label (codes "utf-8")) tables)) ≡ o
    go (Some reading) e = refl
    go None e = absurd (cc)

-- and so give the texts of values
pub caller_reads : (tables : List SingleByteTable) (text : List ℕ) → IsUtf8 text → lenient_value_in (charsets_with tables) (written_value text) ≡ text
caller_reads tables text utf8 = written_reads (charsets_with tables) text (inl (caller_knows tables)) utf8
