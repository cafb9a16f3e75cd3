-- Lemmas on values that are put into quotes, and on texts of ASCII, which stay as they are.
use Rattle.std.proofs.Common.{◌≡◌, ◌<◌, ◌≤◌, ℕ, zero, suc, Bool, true, false, eqb, cond, ◌&&◌, ◌||◌, List, [], ◌∷◌, ◌++◌, length, flat_map, refl, sym, ap, ◌∙◌, append_assoc, arith}
use Rattle.std.specs.Prelude.{slice_index}
use Rattle.std.specs.Char.{encode_utf8, is_ascii}
use Rattle.std.specs.List.{list_all}
use Rattle.std.specs.Str.{IsAscii, IsNotAscii, IsUtf8, chars, encode_utf8_all}
use Rattle.std.proofs.Math.Bool.{and-false}
use Rattle.std.proofs.lemmas.Bool.{and_from, cond-false, cond-true, le-ltb, lt-ltb}
use Rattle.std.proofs.lemmas.List.{append-nil}
use Rattle.std.proofs.lemmas.Str.{chars-nil, chars_past_char}
use Rattle.mail_codec.specs.Ascii.{backslash, quote, semicolon}
use Rattle.mailparse.specs.Segments.{segments}
use Rattle.mail_read.specs.lenient.Quoting.{escaped, is_escaped, joined, quoted_segment, quoted_segments, up_to_quote, with_quotes}

-- ---- texts of ASCII

pub all-ascii : (text : List ℕ) → IsAscii text → list_all is_ascii text ≡ true
all-ascii [] ascii = refl
all-ascii (b ∷ bytes) ascii = and_from _ _ (lt-ltb b 128 (ascii 0)) (all-ascii bytes (λ i. ascii (suc i)))

pub not-ascii : (text : List ℕ) → IsNotAscii text → list_all is_ascii text ≡ false
not-ascii [] some = absurd (omega (arith, some.1))
not-ascii (b ∷ bytes) some = at some.0 some.1 (not-ascii bytes)
  where
    at : (i : ℕ) → 128 ≤ slice_index (b ∷ bytes) i → (IsNotAscii bytes → list_all is_ascii bytes ≡ false) → list_all is_ascii (b ∷ bytes) ≡ false
    at zero high more = ap (λ (t : Bool). t && list_all is_ascii bytes) (le-ltb b 128 high)
    at (suc i) high more = ap (λ (t : Bool). is_ascii b && t) (more (i, high)) ∙ and-false (is_ascii b)

pub quotes_ascii : (text : List ℕ) → IsAscii text → with_quotes text ≡ text
unfolding with_quotes
quotes_ascii text ascii = cond-true _ _ _ (all-ascii text ascii)

pub quotes_other : (text : List ℕ) → IsNotAscii text → with_quotes text ≡ joined (segments text)
unfolding with_quotes
quotes_other text some = cond-false _ _ _ (not-ascii text some)

-- ---- the segments

pub joined-next : (made one new segment : List ℕ) (left more : List (List ℕ)) → one ≡ made ++ encode_utf8 semicolon → new ≡ one ++ quoted_segment segment
    → left ≡ segment ∷ more → new ++ quoted_segments more ≡ made ++ quoted_segments left
unfolding encode_utf8
joined-next made one new segment left more first written is =
    ap (λ (m : List ℕ). m ++ quoted_segments more) (written ∙ ap (λ (m : List ℕ). m ++ quoted_segment segment) first)
    ∙ append_assoc (made ++ (semicolon ∷ [])) (quoted_segment segment) (quoted_segments more)
    ∙ append_assoc made (semicolon ∷ []) (quoted_segment segment ++ quoted_segments more)
    ∙ ap (λ (s : List (List ℕ)). made ++ quoted_segments s) (sym is)

-- ---- a text in quotes

encode-append : (xs ys : List ℕ) → encode_utf8_all (xs ++ ys) ≡ encode_utf8_all xs ++ encode_utf8_all ys
encode-append [] ys = refl
encode-append (x ∷ xs) ys = ap (λ (t : List ℕ). encode_utf8 x ++ t) (encode-append xs ys) ∙ sym (append_assoc (encode_utf8 x) (encode_utf8_all xs) (encode_utf8_all ys))

-- what was made so far, and then the rest, up to the quote
abbrev pub quoted_with : List ℕ → List ℕ → List ℕ
quoted_with made rest = made ++ up_to_quote (chars rest)

pub escaped-plain : (c : ℕ) → is_escaped c ≡ false → encode_utf8_all (escaped c) ≡ encode_utf8 c
escaped-plain c other =
    ap encode_utf8_all (cond-false (is_escaped c) _ _ other) ∙ append-nil (encode_utf8 c)

pub escaped-special : (c : ℕ) → is_escaped c ≡ true → encode_utf8_all (escaped c) ≡ encode_utf8 backslash ++ encode_utf8 c
escaped-special c is =
    ap encode_utf8_all (cond-true (is_escaped c) _ _ is)
    ∙ ap (λ (t : List ℕ). encode_utf8 backslash ++ t) (append-nil (encode_utf8 c))

-- a character is appended
pub pushed-plain : (old new : List ℕ) (c : ℕ) → is_escaped c ≡ false → new ≡ old ++ encode_utf8 c → new ≡ old ++ encode_utf8_all (escaped c)
pushed-plain old new c other written = written ∙ ap (λ (t : List ℕ). old ++ t) (sym (escaped-plain c other))

pub pushed-special : (old one new : List ℕ) (c : ℕ) → is_escaped c ≡ true → one ≡ old ++ encode_utf8 backslash → new ≡ one ++ encode_utf8 c
    → new ≡ old ++ encode_utf8_all (escaped c)
pushed-special old one new c is first written =
    written ∙ ap (λ (t : List ℕ). t ++ encode_utf8 c) first ∙ append_assoc old (encode_utf8 backslash) (encode_utf8 c)
    ∙ ap (λ (t : List ℕ). old ++ t) (sym (escaped-special c is))

pub quoted-next : (made new rest next : List ℕ) (c : ℕ) → IsUtf8 rest → rest ≡ encode_utf8 c ++ next
    → new ≡ made ++ encode_utf8_all (escaped c) → quoted_with new next ≡ quoted_with made rest
quoted-next made new rest next c utf8 e written =
    let more = flat_map escaped (chars next) in
    ap (λ (m : List ℕ). m ++ up_to_quote (chars next)) written
    ∙ append_assoc made (encode_utf8_all (escaped c)) (encode_utf8_all more ++ quote ∷ [])
    ∙ ap (λ (m : List ℕ). made ++ m)
    (sym (append_assoc (encode_utf8_all (escaped c)) (encode_utf8_all more) (quote ∷ []))
    ∙ ap (λ (m : List ℕ). m ++ quote ∷ []) (sym (encode-append (escaped c) more))
    ∙ ap up_to_quote (sym (chars_past_char rest next c utf8 e)))

pub quoted-end : (made new rest : List ℕ) → rest ≡ [] → new ≡ made ++ encode_utf8 quote → new ≡ quoted_with made rest
unfolding encode_utf8
quoted-end made new rest none written =
    written ∙ ap (λ (cs : List ℕ). made ++ up_to_quote cs) (sym (ap chars none ∙ chars-nil))
