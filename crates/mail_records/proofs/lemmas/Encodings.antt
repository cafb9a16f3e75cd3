-- Lemmas on the numbers of transfer encodings.
use Rattle.std.proofs.Common.{◌≡◌, ◌≢◌, ◌≤◌, ◌+◌, ℕ, zero, suc, Bool, true, false, not, cond, ltb, ◌&&◌, List, [], ◌∷◌, Some, drop, arith, refl, sym, ap, ◌∙◌}
use Rattle.std.proofs.lemmas.Bool.{and_parts, eqb-false, leb-true, ltb-false, ltb-true, ne_eqb, not-true}
use Rattle.std.specs.Char.{to_ascii_lowercase}
use Rattle.std.specs.Cmp.Lexicographic.{pointwise}
use Rattle.std.specs.List.{All, list_all}
use Rattle.std.specs.Prelude.{codes, ◌==◌, nat_eq, nat_le, take}
use Rattle.std.specs.Str.{str_to_ascii_lowercase}
use Rattle.mail_codec.specs.Places.{has_prefix}
use Rattle.mailparse.proofs.lemmas.ValuePlain.{lenient_value-plain}
use Rattle.mailparse.specs.Body.{kind_named}
use Rattle.mailparse.specs.Value.{IsPlain, lenient_value}
use Rattle.mail_read.specs.lenient.Encoding.{lenient_kind, lenient_kind_named, name_at}
use Rattle.mail_records.specs.Records.{encoding_number}

-- a name has the number of another one that differs in case alone
number-same : (name word : List ℕ) (number : ℕ) → encoding_number (lenient_kind (Some word)) ≡ number → str_to_ascii_lowercase name ≡ str_to_ascii_lowercase word
    → number ≡ encoding_number (lenient_kind (Some name))
unfolding lenient_kind
number-same name word number is same = sym (ap (λ (w : List ℕ). encoding_number (lenient_kind_named (Some (name_at w)))) same ∙ is)

pub number-7bit : encoding_number (lenient_kind (Some (codes "7bit"))) ≡ 0
unfolding lenient_kind name_at lenient_kind_named kind_named
number-7bit = refl

pub number-8bit : encoding_number (lenient_kind (Some (codes "8bit"))) ≡ 1
unfolding lenient_kind name_at lenient_kind_named kind_named
number-8bit = refl

pub number-binary : encoding_number (lenient_kind (Some (codes "binary"))) ≡ 2
unfolding lenient_kind name_at lenient_kind_named kind_named
number-binary = refl

pub number-quoted : encoding_number (lenient_kind (Some (codes "quoted-printable"))) ≡ 3
unfolding lenient_kind name_at lenient_kind_named kind_named
number-quoted = refl

pub number-base64 : encoding_number (lenient_kind (Some (codes "base64"))) ≡ 4
unfolding lenient_kind name_at lenient_kind_named kind_named
number-base64 = refl

-- ---- raw values that are names

-- a byte of a name in lower case
abbrev pub name_byte : ℕ → Bool
name_byte b = nat_le 45 b && (nat_le b 122 && not (b == 61))

own_byte : (b : ℕ) → name_byte b ≡ true → (45 ≤ b) × (b ≤ 122) × (b ≢ 61)
own_byte b h =
    let parts = and_parts _ _ h in
    let more = and_parts _ _ parts.1 in
    (leb-true 45 b parts.0, leb-true b 122 more.0, eqb-false b 61 (not-true _ more.1))

-- a byte that is one in lower case
low_byte : (b : ℕ) → name_byte (to_ascii_lowercase b) ≡ true → (45 ≤ b) × (b ≤ 122) × (b ≢ 61)
low_byte b h = go (ltb b 65) (ltb b 91) refl refl h
  where
    go : (s t : Bool) → ltb b 65 ≡ s → ltb b 91 ≡ t → name_byte (cond s b (cond t (b + 32) b)) ≡ true → (45 ≤ b) × (b ≤ 122) × (b ≢ 61)
    go true t e f h = own_byte b h
    go false true e f h = (omega (arith, ltb-false b 65 e), omega (arith, ltb-true b 91 f), λ same. absurd (omega (arith, ltb-false b 65 e, same)))
    go false false e f h = own_byte b h

printable : (raw : List ℕ) → list_all name_byte (str_to_ascii_lowercase raw) ≡ true → All (λ b. (32 ≤ b) × (b ≤ 126)) raw
printable [] h k d low = absurd (omega (arith, low))
printable (b ∷ raw) h zero d low = let at = low_byte b (and_parts _ _ h).0 in (omega (arith, at.0), omega (arith, at.1))
printable (b ∷ raw) h (suc k) d low = printable raw (and_parts _ _ h).1 k d (omega (arith, low))

no_space : (raw : List ℕ) → list_all name_byte (str_to_ascii_lowercase raw) ≡ true → has_prefix (codes " ") raw ≡ false
no_space [] h = refl
no_space (b ∷ raw) h =
    let at = low_byte b (and_parts _ _ h).0 in
    ap (λ t. t && pointwise nat_eq [] (take 0 raw)) (ne_eqb 32 b (λ e. absurd (omega (arith, at.0, e))))

no_opening : (raw : List ℕ) → list_all name_byte (str_to_ascii_lowercase raw) ≡ true → (k : ℕ) → has_prefix (codes "=?") (drop k raw) ≡ false
no_opening [] h zero = refl
no_opening [] h (suc k) = refl
no_opening (b ∷ raw) h zero =
    let at = low_byte b (and_parts _ _ h).0 in
    ap (λ t. t && pointwise nat_eq (63 ∷ []) (take 1 raw)) (ne_eqb 61 b (λ e. at.2 (sym e)))
no_opening (b ∷ raw) h (suc k) = no_opening raw (and_parts _ _ h).1 k

plain_name : (raw : List ℕ) → list_all name_byte (str_to_ascii_lowercase raw) ≡ true → IsPlain raw
plain_name raw h = record { printable = printable raw h; no_space = no_space raw h; no_opening = no_opening raw h }

-- a raw value that is a name has the number of its value
pub number-raw : (raw name : List ℕ) (number : ℕ) → encoding_number (lenient_kind (Some name)) ≡ number → list_all name_byte (str_to_ascii_lowercase name) ≡ true
    → str_to_ascii_lowercase raw ≡ str_to_ascii_lowercase name → number ≡ encoding_number (lenient_kind (Some (lenient_value raw)))
number-raw raw name number is names same =
    number-same raw name number is same
    ∙ ap (λ (v : List ℕ). encoding_number (lenient_kind (Some v))) (sym (lenient_value-plain raw (plain_name raw (ap (list_all name_byte) same ∙ names))))
