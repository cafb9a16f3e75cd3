-- Lemmas on the two readings of a value's bytes.
use Rattle.std.proofs.Common.{◌≡◌, ℕ, true, false, List, Result, Ok, Err, IsErr, refl, subst}
use Rattle.std.proofs.lemmas.Bool.{false_from_ne_true}
use Rattle.std.specs.Str.{IsUtf8, is_utf8}
use Rattle.std.proofs.lemmas.Str.{IsUtf8-from_is_utf8, is_utf8-from_IsUtf8}
use Rattle.mail_codec.specs.Charset.{Charsets, four_charsets}
use Rattle.mail_codec.specs.Latin1.{latin1_text}
use Rattle.mailparse.specs.Refusal.{Refusal, value_not_utf8}
use Rattle.mailparse.specs.Value.{unfolded_value, lenient_value_in, strict_value}
use Rattle.std.proofs.lemmas.Result.{IfOk-weaker}

is_utf8-false : (bytes : List ℕ) → (IsUtf8 bytes → ⊥) → is_utf8 bytes ≡ false
is_utf8-false bytes none = false_from_ne_true _ (λ e. none (IsUtf8-from_is_utf8 bytes e))

-- bytes that are UTF-8 are read as they are
pub lenient-utf8 : (known : Charsets) (bytes : List ℕ) → IsUtf8 bytes → lenient_value_in known bytes ≡ unfolded_value known bytes
unfolding lenient_value_in
lenient-utf8 known bytes some = rw (is_utf8-from_IsUtf8 bytes some) refl

pub strict-utf8 : (bytes : List ℕ) → IsUtf8 bytes → strict_value bytes ≡ Ok (unfolded_value four_charsets bytes)
unfolding strict_value
strict-utf8 bytes some = rw (is_utf8-from_IsUtf8 bytes some) refl

-- other bytes are read as Latin-1, or refused
pub lenient-latin1 : (known : Charsets) (bytes : List ℕ) → (IsUtf8 bytes → ⊥) → lenient_value_in known bytes ≡ unfolded_value known (latin1_text bytes)
unfolding lenient_value_in
lenient-latin1 known bytes none = rw (is_utf8-false bytes none) refl

pub strict-refused : (bytes : List ℕ) → (IsUtf8 bytes → ⊥) → strict_value bytes ≡ Err value_not_utf8
unfolding strict_value
strict-refused bytes none = rw (is_utf8-false bytes none) refl

-- if the strict reading is not an error, it is not a refusal
pub strict-not_err : (bytes : List ℕ) → IsUtf8 bytes → IsErr (strict_value bytes) → ⊥
strict-not_err bytes some refused = let f : false ≡ true = subst (λ (r : Result (List ℕ) Refusal). IsErr r) (strict-utf8 bytes some) refused in cc

-- the text of a value, whatever its bytes
pub ruleset header_values = (IfOk-weaker, lenient-utf8, lenient-latin1, strict-utf8, strict-refused, strict-not_err)
