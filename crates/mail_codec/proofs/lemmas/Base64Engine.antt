-- The result of the engine in the words of the definition.
use Rattle.std.proofs.Common.{◌≡◌, ◌≢◌, ℕ, zero, suc, ◌+◌, ◌*◌, ◌/◌, ◌%◌, ◌<◌, true, List, [], ◌∷◌, length, take, Option, Some, None, Result, Ok, Err, refl, sym, ap, ◌∙◌, arith, ◌⊎◌, inl, inr}
use Rattle.base64.specs.Engines.{standard}
use Rattle.base64.specs.declared.decode.DecodeError.{DecodeError}
use Rattle.base64.specs.declared.decode.DecodeSliceError.{DecodeSliceError}
use Rattle.base64.specs.GeneralPurpose.{IsBytes, decode_of, decode_slice_of, decoded_bytes_of, encode_of}
use Rattle.base64.specs.Decode.{decode_outcome, or_else, or_error, bytes_fit, lone_error, groups_error, suffix_error, groups_before_last}
use Rattle.base64.specs.Rfc4648.{encode, encode_symbols}
use Rattle.base64.proofs.EngineFacts.{decode_of_strict, decode_of-encode_of, encode-append}
use Rattle.mail_codec.specs.Base64.{alphabet, letter, letter_value, padding, group_number, three_bytes, bytes_of_values, group_bytes, groups_from}
use Rattle.mail_codec.proofs.lemmas.Base64Letters.{letter_value-letter, letter-letter_value, letter_no_padding}

-- ---- groups of letters

pub group_bytes-letters : (a b c d : ℕ) → a < 64 → b < 64 → c < 64 → d < 64
    → group_bytes (letter a) (letter b) (letter c) (letter d) ≡ Some (three_bytes (group_number a b c d))
unfolding group_bytes
group_bytes-letters a b c d ha hb hc hd =
    rw (letter_no_padding d hd, letter_value-letter a ha, letter_value-letter b hb, letter_value-letter c hc, letter_value-letter d hd) refl

pub group_bytes-three : (a b c : ℕ) → a < 64 → b < 64 → c < 64
    → group_bytes (letter a) (letter b) (letter c) padding ≡ Some (take 2 (three_bytes (group_number a b c 0)))
unfolding group_bytes
group_bytes-three a b c ha hb hc =
    rw (letter_no_padding c hc, letter_value-letter a ha, letter_value-letter b hb, letter_value-letter c hc) refl

pub group_bytes-two : (a b : ℕ) → a < 64 → b < 64
    → group_bytes (letter a) (letter b) padding padding ≡ Some (take 1 (three_bytes (group_number a b 0 0)))
unfolding group_bytes
group_bytes-two a b ha hb = rw (letter_value-letter a ha, letter_value-letter b hb) refl

-- ---- encoding and reading again

-- the group of three bytes
bytes_again : (a b c : ℕ) → a < 256 → b < 256 → c < 256
    → three_bytes (group_number (a / 4) (a % 4 * 16 + b / 16) (b % 16 * 4 + c / 64) (c % 64)) ≡ a ∷ b ∷ c ∷ []
bytes_again a b c ha hb hc =
    let n : group_number (a / 4) (a % 4 * 16 + b / 16) (b % 16 * 4 + c / 64) (c % 64) ≡ a * 65536 + b * 256 + c = omega arith in
    let x : (a * 65536 + b * 256 + c) / 65536 ≡ a = omega arith in
    let y : (a * 65536 + b * 256 + c) / 256 % 256 ≡ b = omega arith in
    let z : (a * 65536 + b * 256 + c) % 256 ≡ c = omega arith in
    rw (n, x, y, z) refl

two_again : (a b : ℕ) → a < 256 → b < 256
    → take 2 (three_bytes (group_number (a / 4) (a % 4 * 16 + b / 16) (b % 16 * 4) 0)) ≡ a ∷ b ∷ []
two_again a b ha hb =
    ap (λ n. take 2 (three_bytes (group_number (a / 4) (a % 4 * 16 + b / 16) n 0))) {x = b % 16 * 4} {y = b % 16 * 4 + 0} (omega arith) ∙ ap (take 2) (bytes_again a b 0 ha hb (omega arith))

one_again : (a : ℕ) → a < 256 → take 1 (three_bytes (group_number (a / 4) (a % 4 * 16) 0 0)) ≡ a ∷ []
one_again a ha =
    ap (λ n. take 1 (three_bytes (group_number (a / 4) n 0 0))) {x = a % 4 * 16} {y = a % 4 * 16 + 0} (omega arith) ∙ ap (take 1) (bytes_again a 0 0 ha (omega arith) (omega arith))

-- the encoding of three bytes and more
encode-three : (a b c : ℕ) (rest : List ℕ) → encode alphabet padding true (a ∷ b ∷ c ∷ rest)
    ≡ letter (a / 4) ∷ letter (a % 4 * 16 + b / 16) ∷ letter (b % 16 * 4 + c / 64) ∷ letter (c % 64) ∷ encode alphabet padding true rest
unfolding encode_symbols
encode-three a b c rest = encode-append alphabet padding true (a ∷ b ∷ c ∷ []) rest refl

groups_from-three : (n a b c : ℕ) (text rest : List ℕ) → a < 256 → b < 256 → c < 256 → groups_from (suc n) text ≡ Ok rest
    → groups_from n (letter (a / 4) ∷ letter (a % 4 * 16 + b / 16) ∷ letter (b % 16 * 4 + c / 64) ∷ letter (c % 64) ∷ text) ≡ Ok (a ∷ b ∷ c ∷ rest)
unfolding groups_from
groups_from-three n a b c text rest ha hb hc more =
    rw (
      group_bytes-letters (a / 4) (a % 4 * 16 + b / 16) (b % 16 * 4 + c / 64) (c % 64) (omega arith) (omega arith) (omega arith) (omega arith),
      bytes_again a b c ha hb hc,
      more,
    ) refl

-- reading an encoding gives the bytes back
pub groups_from-encode : (n : ℕ) (bytes : List ℕ) → IsBytes bytes → groups_from n (encode alphabet padding true bytes) ≡ Ok bytes
unfolding groups_from encode_symbols
groups_from-encode n [] h = refl
groups_from-encode n (a ∷ []) h =
    let ha : a < 256 = h 0 in
    rw (group_bytes-two (a / 4) (a % 4 * 16) (omega arith) (omega arith), one_again a ha) refl
groups_from-encode n (a ∷ b ∷ []) h =
    let ha : a < 256 = h 0 in
    let hb : b < 256 = h 1 in
    rw (group_bytes-three (a / 4) (a % 4 * 16 + b / 16) (b % 16 * 4) (omega arith) (omega arith) (omega arith), two_again a b ha hb) refl
groups_from-encode n (a ∷ b ∷ c ∷ rest) h =
    ap (groups_from n) (encode-three a b c rest)
    ∙ groups_from-three n a b c (encode alphabet padding true rest) rest (h 0) (h 1) (h 2) (groups_from-encode (suc n) rest (λ i. h (suc (suc (suc i)))))

-- the engine decodes the groups of the definition
pub groups_from-decode_of : (n : ℕ) (s bytes : List ℕ) → IsBytes s → IsBytes bytes → decode_of standard s ≡ Ok bytes
    → groups_from n s ≡ Ok bytes
groups_from-decode_of n s bytes hs hb ok =
    let e : s ≡ encode alphabet padding true bytes = decode_of_strict standard s bytes (refl, refl) hs ok in
    rw e (groups_from-encode n bytes hb)

-- ---- one group in the engine

-- the encoding of the bytes of four values
encode-values : (a b c d : ℕ) → a < 64 → b < 64 → c < 64 → d < 64
    → encode_of standard (three_bytes (group_number a b c d)) ≡ letter a ∷ letter b ∷ letter c ∷ letter d ∷ []
unfolding encode_symbols
encode-values a b c d ha hb hc hd =
    let n : ℕ = group_number a b c d in
    let x : n / 65536 / 4 ≡ a = omega arith in
    let y : n / 65536 % 4 * 16 + n / 256 % 256 / 16 ≡ b = omega arith in
    let z : n / 256 % 256 % 16 * 4 + n % 256 / 64 ≡ c = omega arith in
    let w : n % 256 % 64 ≡ d = omega arith in
    rw (x, y, z, w) refl

three_bytes_are : (a b c d : ℕ) → a < 64 → b < 64 → c < 64 → d < 64 → IsBytes (three_bytes (group_number a b c d))
three_bytes_are a b c d ha hb hc hd zero = omega arith
three_bytes_are a b c d ha hb hc hd (suc zero) = omega arith
three_bytes_are a b c d ha hb hc hd (suc (suc zero)) = omega arith
three_bytes_are a b c d ha hb hc hd (suc (suc (suc i))) = omega arith

-- four letters decode to their bytes
decode_of-values : (a b c d : ℕ) → a < 64 → b < 64 → c < 64 → d < 64
    → decode_of standard (letter a ∷ letter b ∷ letter c ∷ letter d ∷ []) ≡ Ok (three_bytes (group_number a b c d))
decode_of-values a b c d ha hb hc hd =
    ap (decode_of standard) (sym (encode-values a b c d ha hb hc hd))
    ∙ decode_of-encode_of standard (three_bytes (group_number a b c d)) refl (three_bytes_are a b c d ha hb hc hd)

-- four bytes that are the encoding of some, and of which the last is no padding, are four letters
encoded_four : (p q r s : ℕ) (bytes : List ℕ) → IsBytes bytes → p ∷ q ∷ r ∷ s ∷ [] ≡ encode_of standard bytes → s ≢ padding
    → (a : ℕ) × (b : ℕ) × (c : ℕ) × (d : ℕ) × (letter_value p ≡ Some a) × (letter_value q ≡ Some b) × (letter_value r ≡ Some c) × (letter_value s ≡ Some d)
unfolding encode_symbols
encoded_four p q r s [] h e ne = cc e
encoded_four p q r s (x ∷ []) h e ne = absurd (ne (cc e))
encoded_four p q r s (x ∷ y ∷ []) h e ne = absurd (ne (cc e))
encoded_four p q r s (x ∷ y ∷ z ∷ []) h e ne =
    let hx : x < 256 = h 0 in
    let hy : y < 256 = h 1 in
    let hz : z < 256 = h 2 in
    let ep : p ≡ letter (x / 4) = cc e in
    let eq : q ≡ letter (x % 4 * 16 + y / 16) = cc e in
    let er : r ≡ letter (y % 16 * 4 + z / 64) = cc e in
    let es : s ≡ letter (z % 64) = cc e in (
      x / 4,
      x % 4 * 16 + y / 16,
      y % 16 * 4 + z / 64,
      z % 64,
      ap letter_value ep ∙ letter_value-letter (x / 4) (omega arith),
      ap letter_value eq ∙ letter_value-letter (x % 4 * 16 + y / 16) (omega arith),
      ap letter_value er ∙ letter_value-letter (y % 16 * 4 + z / 64) (omega arith),
      ap letter_value es ∙ letter_value-letter (z % 64) (omega arith),
    )
encoded_four p q r s (x ∷ y ∷ z ∷ w ∷ []) h e ne = cc e
encoded_four p q r s (x ∷ y ∷ z ∷ w ∷ u ∷ []) h e ne = cc e
encoded_four p q r s (x ∷ y ∷ z ∷ w ∷ u ∷ v ∷ rest) h e ne = cc e

-- tests in turn that pass, and their error
passed : (x y : Option DecodeError) (w : Result ℕ DecodeSliceError) (k : ℕ) → or_error x (or_error y w) ≡ Ok k → or_else x y ≡ None
passed None None w k h = refl
passed None (Some e) w k h = cc h
passed (Some e) y w k h = cc h

outcome_passed : (x : Option DecodeError) (b c : List ℕ) → decode_outcome x b ≡ Ok c → (x ≡ None) × (b ≡ c)
outcome_passed None b c h = (refl, cc h)
outcome_passed (Some e) b c h = cc h

passes : (x y : Option DecodeError) (w : Result ℕ DecodeSliceError) → or_else x y ≡ None → or_error x (or_error y w) ≡ w
passes None None w h = refl
passes None (Some e) w h = cc h
passes (Some e) y w h = cc h

-- the engine's two tests of four bytes
abbrev lone : List ℕ → Option DecodeError
lone text = lone_error standard.decode_table standard.padding.value text

abbrev grouped : List ℕ → Option DecodeError
grouped text = or_else (groups_error standard.decode_table text (groups_before_last (length text)))
    (suffix_error standard.decode_table standard.padding.value standard.config.decode_allow_trailing_bits
    standard.config.decode_padding_mode (4 * groups_before_last (length text)) text)

-- decoding four bytes into three that succeeds is decoding them
pub slice_passed : (p q r s k : ℕ) → decode_slice_of standard (p ∷ q ∷ r ∷ s ∷ []) 3 ≡ Ok k
    → decode_of standard (p ∷ q ∷ r ∷ s ∷ []) ≡ Ok (decoded_bytes_of standard (p ∷ q ∷ r ∷ s ∷ []))
slice_passed p q r s k h =
    let text : List ℕ = p ∷ q ∷ r ∷ s ∷ [] in
    let none : or_else (lone text) (grouped text) ≡ None = passed (lone text) (grouped text) _ k h in
    ap (λ (e : Option DecodeError). decode_outcome e (decoded_bytes_of standard text)) none

-- and it succeeds where they decode to three bytes
pub slice_passes : (p q r s x y z : ℕ) → decode_of standard (p ∷ q ∷ r ∷ s ∷ []) ≡ Ok (x ∷ y ∷ z ∷ [])
    → (decode_slice_of standard (p ∷ q ∷ r ∷ s ∷ []) 3 ≡ Ok 3) × (decoded_bytes_of standard (p ∷ q ∷ r ∷ s ∷ []) ≡ x ∷ y ∷ z ∷ [])
slice_passes p q r s x y z h =
    let text : List ℕ = p ∷ q ∷ r ∷ s ∷ [] in
    let parts = outcome_passed _ (decoded_bytes_of standard text) (x ∷ y ∷ z ∷ []) h in
    (passes (lone text) (grouped text) _ parts.0 ∙ ap (λ (b : List ℕ). bytes_fit (length b) 3) parts.1, parts.1)

-- ---- the values of four bytes that decode to three

-- four letters decode to the bytes of their values
decode_of-read : (p q r s a b c d : ℕ) → letter_value p ≡ Some a → letter_value q ≡ Some b → letter_value r ≡ Some c → letter_value s ≡ Some d
    → decode_of standard (p ∷ q ∷ r ∷ s ∷ []) ≡ Ok (three_bytes (group_number a b c d))
decode_of-read p q r s a b c d ep eq er es =
    let la = letter-letter_value p a ep in
    let lb = letter-letter_value q b eq in
    let lc = letter-letter_value r c er in
    let ld = letter-letter_value s d es in
    let text : p ∷ q ∷ r ∷ s ∷ [] ≡ letter a ∷ letter b ∷ letter c ∷ letter d ∷ [] =
    ap (λ (x : ℕ). x ∷ q ∷ r ∷ s ∷ []) (sym la.1) ∙ ap (λ (x : ℕ). letter a ∷ x ∷ r ∷ s ∷ []) (sym lb.1)
    ∙ ap (λ (x : ℕ). letter a ∷ letter b ∷ x ∷ s ∷ []) (sym lc.1) ∙ ap (λ (x : ℕ). letter a ∷ letter b ∷ letter c ∷ x ∷ []) (sym ld.1) in
    ap (decode_of standard) text ∙ decode_of-values a b c d la.0 lb.0 lc.0 ld.0

bytes_of_values-all : (n p q r s a b c d : ℕ) → letter_value p ≡ Some a → letter_value q ≡ Some b → letter_value r ≡ Some c → letter_value s ≡ Some d
    → bytes_of_values n (letter_value p) (letter_value q) (letter_value r) (letter_value s) ≡ Some (take n (three_bytes (group_number a b c d)))
bytes_of_values-all n p q r s a b c d ep eq er es = rw (ep, eq, er, es) refl

-- it succeeds: all four are letters, and these are their bytes
pub slice_letters : (n p q r s k : ℕ) → IsBytes (p ∷ q ∷ r ∷ s ∷ []) → s ≢ padding
    → IsBytes (decoded_bytes_of standard (p ∷ q ∷ r ∷ s ∷ []))
    → decode_slice_of standard (p ∷ q ∷ r ∷ s ∷ []) 3 ≡ Ok k
    → (bytes_of_values n (letter_value p) (letter_value q) (letter_value r) (letter_value s) ≡ Some (take n (decoded_bytes_of standard (p ∷ q ∷ r ∷ s ∷ []))))
    × (length (decoded_bytes_of standard (p ∷ q ∷ r ∷ s ∷ [])) ≡ 3)
slice_letters n p q r s k text_bytes unpadded bytes ok =
    let text : List ℕ = p ∷ q ∷ r ∷ s ∷ [] in
    let decoded : decode_of standard text ≡ Ok (decoded_bytes_of standard text) = slice_passed p q r s k ok in
    let v = encoded_four p q r s (decoded_bytes_of standard text) bytes (decode_of_strict standard text (decoded_bytes_of standard text) (refl, refl) text_bytes decoded) unpadded in
    let same = decode_of-read p q r s v.0 v.1 v.2 v.3 v.4 v.5 v.6 v.7 in
    let bytes_are : decoded_bytes_of standard text ≡ three_bytes (group_number v.0 v.1 v.2 v.3) =
    (slice_passes p q r s _ _ _ same).1 in
    (bytes_of_values-all n p q r s v.0 v.1 v.2 v.3 v.4 v.5 v.6 v.7 ∙ ap (λ (b : List ℕ). Some (take n b)) (sym bytes_are), ap length bytes_are)

values_cases : (n : ℕ) (a b c d : Option ℕ) → (bytes_of_values n a b c d ≡ None)
    ⊎ ((x : ℕ) × (y : ℕ) × (z : ℕ) × (w : ℕ) × (a ≡ Some x) × (b ≡ Some y) × (c ≡ Some z) × (d ≡ Some w))
values_cases n None b c d = inl refl
values_cases n (Some x) None c d = inl refl
values_cases n (Some x) (Some y) None d = inl refl
values_cases n (Some x) (Some y) (Some z) None = inl refl
values_cases n (Some x) (Some y) (Some z) (Some w) = inr (x, y, z, w, refl, refl, refl, refl)

-- it fails: not all four are letters
pub slice_no_letters : (n p q r s : ℕ) (e : DecodeSliceError) → decode_slice_of standard (p ∷ q ∷ r ∷ s ∷ []) 3 ≡ Err e
    → bytes_of_values n (letter_value p) (letter_value q) (letter_value r) (letter_value s) ≡ None
slice_no_letters n p q r s e err = elim (values_cases n (letter_value p) (letter_value q) (letter_value r) (letter_value s)) [
  | inl none ↦ none
  | inr v ↦
      let same = decode_of-read p q r s v.0 v.1 v.2 v.3 v.4 v.5 v.6 v.7 in
      let ok : decode_slice_of standard (p ∷ q ∷ r ∷ s ∷ []) 3 ≡ Ok 3 = (slice_passes p q r s _ _ _ same).0 in
      let both : Ok 3 ≡ Err e = sym ok ∙ err in
      cc both
]
