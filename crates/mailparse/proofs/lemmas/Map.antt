-- Lemmas on comparing a key with a name.
use Rattle.std.proofs.Common.{◌≡◌, ◌↔◌, ℕ, suc, ◌+◌, ◌/◌, ◌<◌, ◌≤◌, Bool, true, false, cond, ltb, ◌&&◌, eqb, List, [], ◌∷◌, ◌++◌, length, map, drop, get_or, refl, sym, ap, subst, ◌∙◌, ⊎_elim, arith}
use Rattle.std.specs.Char.{eq_ignore_ascii_case, to_ascii_lowercase}
use Rattle.std.specs.Str.{IsAscii, IsUtf8, bytes_eq, chars, encode_utf8_all, str_eq_ignore_ascii_case}
use Rattle.std.proofs.lemmas.Bool.{cond-true, cond-false, lt-ltb, le-ltb, cases_lt, and_parts, and_from, false_from_ne_true, false≢true}
use Rattle.std.proofs.lemmas.Str.{chars-IsAscii, chars-encodes, encodes-chars, encode_ascii, scalars-chars}
use lib.Utf8.{encode, next, scalar, scalars}
use Rattle.mail_codec.specs.Latin1.{latin1_text}
use Rattle.std.proofs.lemmas.List.{drop_more, map-append}
use Rattle.std.proofs.Math.ListN.{drop_of_length-le}
use Rattle.std.proofs.Math.Dec.{eqb-suc-zero}
use lib.Pointwise.{pointwise, bytes_decides}

-- a key that ends before the name
pub same-none : (rest name : List ℕ) (n : ℕ) → n < length name → length rest ≡ 0 → pointwise eq_ignore_ascii_case rest (drop n name) ≡ false
same-none [] name n low e = ap (pointwise eq_ignore_ascii_case []) (drop_more name n 0 low) ∙ refl
same-none (b ∷ rest) name n low e = absurd (omega arith)

step : (rest name : List ℕ) (n byte character : ℕ) (others : List ℕ) → rest ≡ byte ∷ others → n < length name → character ≡ get_or name n character
    → pointwise eq_ignore_ascii_case rest (drop n name) ≡ (eq_ignore_ascii_case byte character && pointwise eq_ignore_ascii_case others (drop (n + 1) name))
step rest name n byte character others cut low is =
    ap (λ (x : List ℕ). pointwise eq_ignore_ascii_case x (drop n name)) cut
    ∙ ap (pointwise eq_ignore_ascii_case (byte ∷ others)) (drop_more name n character low)
    ∙ ap (λ x. eq_ignore_ascii_case byte x && pointwise eq_ignore_ascii_case others (drop (n + 1) name)) (sym is)

-- a byte that is not the character
pub same-differs : (rest name : List ℕ) (n byte character : ℕ) (others : List ℕ) → rest ≡ byte ∷ others → n < length name → character ≡ get_or name n character
    → eq_ignore_ascii_case byte character ≡ false → pointwise eq_ignore_ascii_case rest (drop n name) ≡ false
same-differs rest name n byte character others cut low is e = step rest name n byte character others cut low is ∙ (rw e refl)

-- a byte that is
pub same-more : (rest name : List ℕ) (n byte character : ℕ) (others : List ℕ) → rest ≡ byte ∷ others → n < length name → character ≡ get_or name n character
    → eq_ignore_ascii_case byte character ≡ true → pointwise eq_ignore_ascii_case rest (drop n name) ≡ pointwise eq_ignore_ascii_case others (drop (n + 1) name)
same-more rest name n byte character others cut low is e = step rest name n byte character others cut low is ∙ (rw e refl)

-- the end of the name
pub same-end : (rest name : List ℕ) (n : ℕ) → length name ≤ n → (answer : Bool) → answer ≡ eqb (length rest) 0 → pointwise eq_ignore_ascii_case rest (drop n name) ≡ answer
same-end rest name n high answer e = ap (pointwise eq_ignore_ascii_case rest) (drop_of_length-le name high) ∙ end rest ∙ sym e
  where
    end : (xs : List ℕ) → pointwise eq_ignore_ascii_case xs [] ≡ eqb (length xs) 0
    end [] = refl
    end (x ∷ xs) = sym (eqb-suc-zero (length xs))

-- ---- a key as a text

abbrev low : ℕ → ℕ
low = to_ascii_lowercase

-- a number past the letters stays
low_past : (n : ℕ) → 91 ≤ n → low n ≡ n
low_past n h = cond-false _ _ _ (le-ltb n 65 (omega arith)) ∙ cond-false _ _ _ (le-ltb n 91 h)

low_below : (c : ℕ) → c < 128 → low c < 128
low_below c small = ⊎_elim (λ h. subst (λ n. n < 128) (sym (cond-true _ _ _ (lt-ltb c 65 h))) small) (λ h. ⊎_elim (inner h) (past h) (cases_lt c 91)) (cases_lt c 65)
  where
    inner : 65 ≤ c → c < 91 → low c < 128
    inner h i = subst (λ n. n < 128) (sym (cond-false _ _ _ (le-ltb c 65 h) ∙ cond-true _ _ _ (lt-ltb c 91 i))) (omega arith)

    past : 65 ≤ c → 91 ≤ c → low c < 128
    past h i = subst (λ n. n < 128) (sym (low_past c i)) small

-- the letters of a character's bytes are those of the character: a byte of a character past ASCII is not a letter
stays : List ℕ → Type 0
stays bytes = map low bytes ≡ bytes

one_stays : (a : ℕ) (rest : List ℕ) → 91 ≤ a → stays rest → stays (a ∷ rest)
unfolding stays
one_stays a rest h e = ap (λ x. x ∷ map low rest) (low_past a h) ∙ ap (λ r. a ∷ r) e

none_stays : stays []
unfolding stays
none_stays = refl

long_stays : (c : ℕ) → 128 ≤ c → stays (encode c)
unfolding encode
long_stays c h =
    let tail : stays (next c ∷ []) = one_stays _ _ (omega arith) none_stays in
    let two : stays (next (c / 64) ∷ next c ∷ []) = one_stays _ _ (omega arith) tail in
    let three : stays (next (c / 4096) ∷ next (c / 64) ∷ next c ∷ []) = one_stays _ _ (omega arith) two in
    let first : stays ((192 + c / 64) ∷ next c ∷ []) = one_stays _ _ (omega arith) tail in
    let second : stays ((224 + c / 4096) ∷ next (c / 64) ∷ next c ∷ []) = one_stays _ _ (omega arith) two in
    let third : stays ((240 + c / 262144) ∷ next (c / 4096) ∷ next (c / 64) ∷ next c ∷ []) = one_stays _ _ (omega arith) three in
    by_test (ltb c 128) _ _ (λ e. absurd (false≢true (sym (le-ltb c 128 h) ∙ e))) (λ _. by_test (ltb c 2048) _ _ (λ _. first) (λ _. by_test (ltb c 65536) _ _ (λ _. second) (λ _. third)))
  where
    by_test : (t : Bool) (x y : List ℕ) → (t ≡ true → stays x) → (t ≡ false → stays y) → stays (cond t x y)
    by_test true x y f g = f refl
    by_test false x y f g = g refl

low_encode : (c : ℕ) → map low (encode c) ≡ encode (low c)
unfolding stays
low_encode c = ⊎_elim (λ h. ap (map low) (encode_ascii c h) ∙ sym (encode_ascii (low c) (low_below c h))) (λ h. long_stays c h ∙ ap encode (sym (low_past c (omega arith)))) (cases_lt c 128)

low_encodes : (cs : List ℕ) → map low (encode_utf8_all cs) ≡ encode_utf8_all (map low cs)
low_encodes [] = refl
low_encodes (c ∷ cs) = map-append low (encode c) (encode_utf8_all cs) ∙ ap (λ b. b ++ map low (encode_utf8_all cs)) (low_encode c) ∙ ap (λ r. encode (low c) ++ r) (low_encodes cs)

-- characters that differ encode to bytes that differ
encodes_same : (xs ys : List ℕ) → scalars xs ≡ true → scalars ys ≡ true → bytes_eq (encode_utf8_all xs) (encode_utf8_all ys) ≡ bytes_eq xs ys
encodes_same xs ys h i = go (bytes_eq xs ys) refl
  where
    go : (t : Bool) → bytes_eq xs ys ≡ t → bytes_eq (encode_utf8_all xs) (encode_utf8_all ys) ≡ t
    go true e = (bytes_decides (encode_utf8_all xs) (encode_utf8_all ys)).1 (ap encode_utf8_all ((bytes_decides xs ys).0 e))
    go false e = false_from_ne_true _ (λ f.
        false≢true (sym e ∙ (bytes_decides xs ys).1 (sym (chars-encodes xs h) ∙ ap chars ((bytes_decides (encode_utf8_all xs) (encode_utf8_all ys)).0 f) ∙ chars-encodes ys i)))

low_scalar : (c : ℕ) → scalar c ≡ true → scalar (low c) ≡ true
low_scalar c h = ⊎_elim (λ i. cond-true _ _ _ (lt-ltb (low c) 55296 (let small = low_below c i in omega arith))) (λ i. ap scalar (low_past c (omega arith)) ∙ h) (cases_lt c 128)

low_scalars : (cs : List ℕ) → scalars cs ≡ true → scalars (map low cs) ≡ true
low_scalars [] h = refl
low_scalars (c ∷ cs) h = let parts = and_parts (scalar c) (scalars cs) h in and_from _ _ (low_scalar c parts.0) (low_scalars cs parts.1)

pointwise_low : (xs ys : List ℕ) → bytes_eq (map low xs) (map low ys) ≡ pointwise eq_ignore_ascii_case xs ys
pointwise_low [] [] = refl
pointwise_low [] (y ∷ ys) = refl
pointwise_low (x ∷ xs) [] = refl
pointwise_low (x ∷ xs) (y ∷ ys) = ap (λ r. eqb (low x) (low y) && r) (pointwise_low xs ys)

-- the text of a key and a name are equal, ignoring ASCII case, if each byte of the key is the character of the name at the same
-- position, ignoring ASCII case, and both have the same length
pub same_name : (key name : List ℕ) → ((i : ℕ) → get_or key i 0 < 256) → IsUtf8 name
    → str_eq_ignore_ascii_case (latin1_text key) name ≡ pointwise eq_ignore_ascii_case key (chars name)
same_name key name bytes utf8 =
    let whole : encode_utf8_all (chars name) ≡ name = encodes-chars name utf8 in
    let some : scalars (chars name) ≡ true = scalars-chars name utf8 in
    let first : scalars key ≡ true = small_scalars key bytes in
    ap (λ n. bytes_eq (map low (encode_utf8_all key)) (map low n)) (sym whole)
    ∙ ap (λ k. bytes_eq k (map low (encode_utf8_all (chars name)))) (low_encodes key)
    ∙ ap (bytes_eq (encode_utf8_all (map low key))) (low_encodes (chars name))
    ∙ encodes_same (map low key) (map low (chars name)) (low_scalars key first) (low_scalars (chars name) some)
    ∙ pointwise_low key (chars name)
  where
    small_scalars : (bs : List ℕ) → ((i : ℕ) → get_or bs i 0 < 256) → scalars bs ≡ true
    small_scalars [] h = refl
    small_scalars (b ∷ bs) h = and_from _ _ (cond-true _ _ _ (lt-ltb b 55296 (let small = h 0 in omega arith))) (small_scalars bs (λ i. h (suc i)))

-- if the name is ASCII, the key is compared with its bytes
same_ascii : (key name : List ℕ) → ((i : ℕ) → get_or key i 0 < 256) → IsUtf8 name → IsAscii name → str_eq_ignore_ascii_case (latin1_text key) name ≡ bytes_eq (map low key) (map low name)
same_ascii key name bytes utf8 ascii = same_name key name bytes utf8 ∙ ap (pointwise eq_ignore_ascii_case key) (chars-IsAscii name ascii) ∙ sym (pointwise_low key name)

-- as a test for equal bytes does, ignoring ASCII case
pub same_tested : (key name bytes : List ℕ) (answer : Bool) → ((i : ℕ) → get_or key i 0 < 256) → IsUtf8 name → IsAscii name → bytes ≡ name
    → ((answer ≡ true) ↔ (map low key ≡ map low bytes)) → answer ≡ str_eq_ignore_ascii_case (latin1_text key) name
same_tested key name bytes answer small utf8 ascii same test =
    by_test answer (bytes_eq (map low key) (map low bytes)) refl refl ∙ ap (λ b. bytes_eq (map low key) (map low b)) same ∙ sym (same_ascii key name small utf8 ascii)
  where
    by_test : (t u : Bool) → answer ≡ t → bytes_eq (map low key) (map low bytes) ≡ u → answer ≡ bytes_eq (map low key) (map low bytes)
    by_test true u e f = e ∙ sym ((bytes_decides (map low key) (map low bytes)).1 (test.0 e))
    by_test false false e f = e ∙ sym f
    by_test false true e f = absurd (false≢true (sym e ∙ test.1 ((bytes_decides (map low key) (map low bytes)).0 f)))
