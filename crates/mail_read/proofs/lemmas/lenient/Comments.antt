-- Lemmas on comments.
use Rattle.std.proofs.Common.{◌≡◌, ℕ, ◌-◌, ◌<◌, length, arith, length-append, Bool, true, false, eqb, ltb, cond, ◌&&◌, List, [], ◌∷◌, ◌++◌, refl, sym, ap, ◌∙◌, append_assoc}
use Rattle.std.specs.Prelude.{nat_eq}
use Rattle.std.specs.List.{list_any}
use Rattle.std.proofs.lemmas.Bool.{cond-false, eqb-true, false≢true, false_from_ne_true, or_parts}
use Rattle.std.proofs.lemmas.List.{append-nil}
use Rattle.std.proofs.lemmas.List.Folds.{list_any-append}
use Rattle.std.proofs.lemmas.Str.{chars-nil, chars_past_char, encodes-chars, len_utf8_bounds, length-encode}
use Rattle.std.specs.Char.{encode_utf8}
use Rattle.std.specs.Str.{chars, encode_utf8_all, IsUtf8}
use Rattle.std.specs.Option.{is_some}
use Rattle.mail_codec.specs.Places.{byte_place}
use Rattle.mail_codec.proofs.lemmas.Places.{first_place-begins}
use Rattle.mailparse.proofs.lemmas.EncodedWord.{any_from_place}
use Rattle.mailparse.proofs.lemmas.ExtendedValues.{is_some_where}
use Rattle.mail_read.specs.lenient.Comments.{depth_beside, outside_comments, quotes_next, string_after, without_comments}

-- the text kept so far, and then that of the rest
abbrev pub kept_with : List ℕ → Bool → Bool → ℕ → List ℕ → List ℕ
kept_with kept in_string quoted depth rest = kept ++ encode_utf8_all (outside_comments in_string quoted depth (chars rest))

pub kept-start : (text kept rest : List ℕ) → kept ≡ [] → rest ≡ text → kept_with kept false false 0 rest ≡ without_comments text
unfolding without_comments
kept-start text kept rest none all =
    ap (λ (k : List ℕ). kept_with k false false 0 rest) none ∙ ap (λ (r : List ℕ). encode_utf8_all (outside_comments false false 0 (chars r))) all

pub kept-end : (kept rest : List ℕ) (in_string quoted : Bool) (depth : ℕ) → rest ≡ [] → kept_with kept in_string quoted depth rest ≡ kept
kept-end kept rest in_string quoted depth none =
    ap (λ (r : List ℕ). kept ++ encode_utf8_all (outside_comments in_string quoted depth r)) (ap chars none ∙ chars-nil) ∙ append-nil kept

one : (t : Bool) (kept more : List ℕ) (c : ℕ) → kept ++ encode_utf8_all (cond t (c ∷ []) [] ++ more) ≡ (kept ++ cond t (encode_utf8 c) []) ++ encode_utf8_all more
one true kept more c = sym (append_assoc kept (encode_utf8 c) (encode_utf8_all more))
one false kept more c = ap (λ (k : List ℕ). k ++ encode_utf8_all more) (sym (append-nil kept))

pub shorter : (rest next : List ℕ) (c : ℕ) → rest ≡ encode_utf8 c ++ next → length next < length rest
shorter rest next c e =
    let all = ap length e ∙ length-append (encode_utf8 c) next in
    let width = length-encode c in
    let some = len_utf8_bounds c in
    omega (arith, all, width, some.0)

-- one character more
pub kept-next : (kept new rest next : List ℕ) (in_string quoted in_string_next quoted_next : Bool) (depth after c : ℕ) → IsUtf8 rest → rest ≡ encode_utf8 c ++ next
    → after ≡ depth_beside in_string quoted depth c → in_string_next ≡ string_after in_string quoted depth c → quoted_next ≡ quotes_next quoted c → new ≡ kept ++ cond (eqb depth 0 && eqb after 0) (encode_utf8 c) []
    → kept_with new in_string_next quoted_next after next ≡ kept_with kept in_string quoted depth rest
kept-next kept new rest next in_string quoted in_string_next quoted_next depth after c utf8 e is within quotes push =
    rw (within, quotes) (
    let more = outside_comments (string_after in_string quoted depth c) (quotes_next quoted c) after (chars next) in
    ap (λ (k : List ℕ). k ++ encode_utf8_all more) push ∙ sym (one (eqb depth 0 && eqb after 0) kept more c)
    ∙ ap (λ (a : ℕ). kept ++ encode_utf8_all (cond (eqb depth 0 && eqb a 0) (c ∷ []) []
    ++ outside_comments (string_after in_string quoted depth c) (quotes_next quoted c) a (chars next))) is
    ∙ ap (λ (cs : List ℕ). kept ++ encode_utf8_all (outside_comments in_string quoted depth cs)) (sym (chars_past_char rest next c utf8 e)))

-- ---- a text without `(` has no comments

no_opening : (c : ℕ) (rest : List ℕ) → list_any (λ b. nat_eq b 40) (encode_utf8 c ++ rest) ≡ false
    → (nat_eq c 40 ≡ false) × (list_any (λ b. nat_eq b 40) rest ≡ false)
unfolding encode_utf8
no_opening c rest none =
    let parts = or_parts _ _ (sym (list_any-append (λ b. nat_eq b 40) (encode_utf8 c) rest) ∙ none) in
    (false_from_ne_true _ (λ is. false≢true (sym parts.0 ∙ ap (λ d. list_any (λ b. nat_eq b 40) (encode_utf8 d)) (eqb-true c 40 is))), parts.1)

none_less : (t : Bool) → cond t (0 - 1) 0 ≡ 0
none_less true = refl
none_less false = refl

stays : (in_string quoted : Bool) (c : ℕ) → nat_eq c 40 ≡ false → depth_beside in_string quoted 0 c ≡ 0
stays true quoted c other = refl
stays false true c other = refl
stays false false c other = cond-false _ _ _ other ∙ none_less (nat_eq c 41)

all_kept : (in_string quoted : Bool) (cs : List ℕ) → list_any (λ b. nat_eq b 40) (encode_utf8_all cs) ≡ false → outside_comments in_string quoted 0 cs ≡ cs
all_kept in_string quoted [] none = refl
all_kept in_string quoted (c ∷ cs) none =
    let parts = no_opening c (encode_utf8_all cs) none in
    let string_next = string_after in_string quoted 0 c in
    ap (λ (d : ℕ). cond (eqb 0 0 && eqb d 0) (c ∷ []) [] ++ outside_comments string_next (quotes_next quoted c) d cs) (stays in_string quoted c parts.0)
    ∙ ap (λ (t : List ℕ). c ∷ t) (all_kept string_next (quotes_next quoted c) cs parts.1)

opening_found : (text : List ℕ) → is_some (byte_place text 40) ≡ list_any (λ b. nat_eq b 40) text
opening_found text =
    is_some_where _ _ ∙ ap (λ n. ltb n (length text)) (first_place-begins (λ b. nat_eq b 40) text) ∙ sym (any_from_place (λ b. nat_eq b 40) text)

pub without_opening : (text : List ℕ) → IsUtf8 text → is_some (byte_place text 40) ≡ false → text ≡ without_comments text
unfolding without_comments
without_opening text utf8 absent =
    let none = sym (opening_found text) ∙ absent in
    sym (ap encode_utf8_all (all_kept false false (chars text) (ap (list_any (λ b. nat_eq b 40)) (encodes-chars text utf8) ∙ none)) ∙ encodes-chars text utf8)
