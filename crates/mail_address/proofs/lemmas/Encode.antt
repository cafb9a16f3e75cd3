-- Plain bytes; and the words into which a text is cut: exactly one list fits, and its words make up the text.
use Rattle.std.proofs.Common.{◌≡◌, ◌≢◌, ℕ, ◌+◌, ◌<◌, ◌≤◌, Bool, true, false, eqb, List, [], ◌∷◌, ◌++◌, length, refl, sym, ap, subst, ◌∙◌, arith, append_assoc, length-append}
use Rattle.std.specs.Prelude.{nat_le, encode_utf8_all, flat_map}
use Rattle.std.specs.Char.{encode_utf8}
use Rattle.std.specs.List.{All, list_all}
use Rattle.std.specs.Str.{IsAscii}
use Rattle.std.proofs.lemmas.Bool.{cond_both, cond-true, cond-false, leb-true, leb-false, le-leb, lt-leb, ne_eqb}
use Rattle.std.proofs.lemmas.Bool.Decides.{nat_tests}
use Rattle.std.proofs.lemmas.List.{append-nil}
use Rattle.std.proofs.lemmas.List.Sums.{AllPass-from_list_all, list_all-from_AllPass}
use Rattle.std.proofs.lemmas.Str.{encodes-append, length-encode, len_utf8_bounds}
use Rattle.std.proofs.lemmas.Str.Ascii.{IsAscii-from_all}
use Rattle.mail_address.specs.Encode.{is_plain_byte, most, size, IsFull, AreWords, no_word, next_word, words_after, words_of}

-- ---- bytes that pass a test

pub list_all-weaker : (p q : ℕ → Bool) → ((b : ℕ) → p b ≡ true → q b ≡ true) → (xs : List ℕ) → list_all p xs ≡ true → list_all q xs ≡ true
list_all-weaker p q implies xs all = list_all-from_AllPass q xs (λ i d low. implies _ (AllPass-from_list_all p xs all i d low))

pub each : {P : ℕ → Type 0} (test : ℕ → Bool) → ((b : ℕ) → test b ≡ true → P b) → (text : List ℕ) → list_all test text ≡ true → All P text
each test holds text all i d low = holds _ (AllPass-from_list_all test text all i d low)

pub plain_byte : (b : ℕ) → is_plain_byte b ≡ true → (32 ≤ b) × (b ≤ 126)
plain_byte b h = (grind (arith, nat_tests), grind (arith, nat_tests))

pub plain_no_feed : (b : ℕ) → is_plain_byte b ≡ true → eqb b 10 ≡ false
plain_no_feed b h = let low = (plain_byte b h).0 in ne_eqb b 10 (λ e. absurd (omega (arith, low)))

pub plain_ascii : (value : List ℕ) → list_all is_plain_byte value ≡ true → IsAscii value
plain_ascii value h = IsAscii-from_all value (each {P = λ b. b < 128} is_plain_byte (λ b k. let high = (plain_byte b k).1 in omega (arith, high)) value h)

-- ---- sizes

size-append : (xs ys : List ℕ) → size (xs ++ ys) ≡ size xs + size ys
size-append xs ys = ap length (encodes-append xs ys) ∙ length-append (encode_utf8_all xs) (encode_utf8_all ys)

pub size-one : (c : ℕ) → size (c ∷ []) ≤ most
size-one c =
    let len = length-append (encode_utf8 c) [] in
    let same = length-encode c in
    let few = (len_utf8_bounds c).1 in
    omega arith

more_is_some : (word : List ℕ) (c : ℕ) → word ++ c ∷ [] ≢ []
more_is_some [] c e = cc
more_is_some (b ∷ word) c e = cc

-- ---- the computed words fit

are_words_after : (word cs : List ℕ) → word ≢ [] → size word ≤ most → AreWords (word ++ cs) (words_after word cs)
are_words_after word [] some fits = next_word {word = word} {rest = []} some fits tt no_word refl
are_words_after word (c ∷ cs) some fits =
    cond_both (nat_le (size (word ++ c ∷ [])) most) _ _ (AreWords (word ++ c ∷ cs))
    (λ e. subst (λ all. AreWords all (words_after (word ++ c ∷ []) cs)) (append_assoc word (c ∷ []) cs) (are_words_after (word ++ c ∷ []) cs (more_is_some word c) (leb-true _ _ e)))
    (λ e. next_word {word = word} {rest = c ∷ cs} some fits (leb-false _ _ e) (are_words_after (c ∷ []) cs (λ e. cc) (size-one c)) refl)

pub words_fit : (cs : List ℕ) → AreWords cs (words_of cs)
words_fit [] = no_word
words_fit (c ∷ cs) = are_words_after (c ∷ []) cs (λ e. cc) (size-one c)

-- ---- and no others do

words_end : (word rest : List ℕ) → IsFull word rest → words_after word rest ≡ word ∷ words_of rest
words_end word [] full = refl
words_end word (c ∷ rest) full = cond-false _ _ _ (lt-leb _ _ full)

one_word : (word more rest : List ℕ) → size (word ++ more) ≤ most → IsFull (word ++ more) rest → words_after word (more ++ rest) ≡ (word ++ more) ∷ words_of rest
one_word word [] rest fits full =
    words_end word rest (subst (λ w. IsFull w rest) (append-nil word) full) ∙ ap (λ w. w ∷ words_of rest) (sym (append-nil word))
one_word word (m ∷ more) rest fits full =
    let same : (word ++ m ∷ []) ++ more ≡ word ++ m ∷ more = append_assoc word (m ∷ []) more in
    let sizes = size-append (word ++ m ∷ []) more in
    let total : size ((word ++ m ∷ []) ++ more) ≤ most = subst (λ w. size w ≤ most) (sym same) fits in
    cond-true _ _ _ (le-leb (size (word ++ m ∷ [])) most (omega arith))
    ∙ one_word (word ++ m ∷ []) more rest total (subst (λ w. IsFull w rest) (sym same) full)
    ∙ ap (λ w. w ∷ words_of rest) same

pub words_only : {cs : List ℕ} {ws : List (List ℕ)} → AreWords cs ws → ws ≡ words_of cs
words_only no_word = refl
words_only (next_word {word = []} some fits full more e) = absurd (some refl)
words_only (next_word {word = c ∷ word} {rest = rest} some fits full more e) =
    ap (λ ws. (c ∷ word) ∷ ws) (words_only more) ∙ sym (ap words_of e ∙ one_word (c ∷ []) word rest fits full)

-- ---- the characters of the words

pub words_join : {cs : List ℕ} {ws : List (List ℕ)} → AreWords cs ws → flat_map encode_utf8_all ws ≡ encode_utf8_all cs
words_join no_word = refl
words_join (next_word {word = word} {rest = rest} some fits full more e) =
    ap (λ r. encode_utf8_all word ++ r) (words_join more) ∙ sym (ap encode_utf8_all e ∙ encodes-append word rest)
