-- Texts that begin and end with a visible character, which `trim` leaves as they are.
use Rattle.std.proofs.Common.{◌≡◌, ℕ, zero, suc, ◌+◌, ◌-◌, ◌<◌, true, false, eqb, subst, List, [], ◌∷◌, ◌++◌, length, take, drop, get_or, refl, sym, ap, ◌∙◌, arith}
use Rattle.std.proofs.lemmas.Bool.{and_left, and_right, cond-false, ne_eqb}
use Rattle.std.proofs.lemmas.List.{drop_all, drop_more, take-append-drop}
use Rattle.std.proofs.lemmas.Str.{IsCharBoundary-from_drop, IsUtf8-from_ascii, IsUtf8-take, chars-IsAscii, chars-append, chars_past_char, encode_ascii, encodes-chars}
use Rattle.std.specs.Char.{is_ascii_graphic, is_whitespace}
use Rattle.std.specs.Str.{IsAscii, IsUtf8, chars, drop_trailing_whitespace, encode_utf8_all, skip_leading_whitespace, trim, trim_end, trim_start}
use Rattle.mail_codec.specs.Places.{begins}
use Rattle.mailparse.proofs.lemmas.ValueBare.{graphic, trim_start-visible}
use Rattle.mailparse.proofs.lemmas.ValuePlain.{graphic_no_whitespace}

some : (xs : List ℕ) (b : ℕ) → eqb (length (xs ++ b ∷ [])) 0 ≡ false
some [] b = refl
some (x ∷ xs) b = ne_eqb (length (x ∷ (xs ++ b ∷ []))) 0 (λ e. omega (arith, e))

-- a space at the start is trimmed
pub trim-space : (text rest : List ℕ) → IsUtf8 text → 0 < length text → get_or text 0 0 ≡ 32 → rest ≡ drop 1 text → trim rest ≡ trim text
unfolding trim_start
trim-space [] rest utf8 some is cut = absurd (omega (arith, some))
trim-space (b ∷ text) rest utf8 some is cut =
    let first : chars (b ∷ text) ≡ b ∷ chars text = chars_past_char (b ∷ text) text b utf8 (sym (ap (λ bs. bs ++ text) (encode_ascii b (omega (arith, is))))) in
    ap trim cut
    ∙ sym (ap (λ cs. trim_end (encode_utf8_all (skip_leading_whitespace cs))) (first ∙ ap (λ c. c ∷ chars text) is))

-- nothing is dropped before a character that is no whitespace
nothing_trailing : (xs : List ℕ) (b : ℕ) → is_whitespace b ≡ false → drop_trailing_whitespace (xs ++ b ∷ []) ≡ xs ++ b ∷ []
nothing_trailing [] b h = cond-false _ _ _ (and_left _ _ h)
nothing_trailing (x ∷ xs) b h =
    let rest = nothing_trailing xs b h in
    cond-false _ _ _ (and_right _ _ (ap (λ ys. eqb (length ys) 0) rest ∙ some xs b)) ∙ ap (λ ys. x ∷ ys) rest

alone_ascii : (b : ℕ) → b < 128 → IsAscii (b ∷ [])
alone_ascii b low zero = low
alone_ascii b low (suc i) = omega arith

-- nothing is trimmed if the last character is visible
trim_end-visible : (text : List ℕ) → IsUtf8 text → 0 < length text → is_ascii_graphic (get_or text (length text - 1) 0) ≡ true → trim_end text ≡ text
unfolding trim_end
trim_end-visible text utf8 some h =
    let n = length text - 1 in
    let b = get_or text n 0 in
    let range = graphic b h in
    let alone = alone_ascii b (omega (arith, range.1)) in
    let end : drop n text ≡ b ∷ [] = drop_more text n 0 (omega arith) ∙ ap (λ bs. b ∷ bs) (drop_all (n + 1) text (omega arith)) in
    let boundary = IsCharBoundary-from_drop text n (omega arith) (subst IsUtf8 (sym end) (IsUtf8-from_ascii (b ∷ []) alone)) in
    let parts : text ≡ take n text ++ b ∷ [] = sym (take-append-drop n text) ∙ ap (λ bs. take n text ++ bs) end in
    let cs : chars text ≡ chars (take n text) ++ b ∷ [] =
    ap chars parts ∙ chars-append (take n text) (b ∷ []) (IsUtf8-take text n utf8 boundary) ∙ ap (λ bs. chars (take n text) ++ bs) (chars-IsAscii (b ∷ []) alone) in
    ap (λ xs. encode_utf8_all (drop_trailing_whitespace xs)) cs
    ∙ ap encode_utf8_all (nothing_trailing (chars (take n text)) b (graphic_no_whitespace b range.0 range.1) ∙ sym cs)
    ∙ encodes-chars text utf8

pub trim-visible : (text : List ℕ) → IsUtf8 text → 0 < length text → begins is_ascii_graphic text ≡ true
    → is_ascii_graphic (get_or text (length text - 1) 0) ≡ true → trim text ≡ text
trim-visible text utf8 some first last =
    ap trim_end (trim_start-visible text utf8 first) ∙ trim_end-visible text utf8 some last

-- a text without the space at its start
pub ruleset spaces = (trim-space)
