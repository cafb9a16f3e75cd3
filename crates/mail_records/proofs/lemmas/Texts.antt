-- Lemmas on bytes that are texts.
use Rattle.std.proofs.Common.{◌≡◌, ℕ, Bool, true, false, List, Ok, Err, refl, sym, ap, ◌∙◌}
use Rattle.std.proofs.lemmas.Bool.{cond-true, cond-false}
use Rattle.std.proofs.lemmas.Str.{IsUtf8-from_is_utf8, is_utf8-from_IsUtf8}
use Rattle.std.specs.Prelude.{codes}
use Rattle.std.specs.Str.{IsUtf8, is_utf8}
use Rattle.mailparse.specs.Refusal.{Reads, encoding}
use Rattle.mail_records.specs.Results.{text_in}

-- the refusal of bytes that are no text
abbrev no_text : Reads (List ℕ)
no_text = Err (encoding (codes "The text is not UTF-8"))

-- bytes in UTF-8 are a text
pub is_text : (bytes text : List ℕ) → text ≡ bytes → IsUtf8 bytes → text_in bytes ≡ Ok text
is_text bytes text e h = cond-true (is_utf8 bytes) (Ok bytes) no_text (is_utf8-from_IsUtf8 bytes h) ∙ ap (λ (t : List ℕ). Ok t) (sym e)

-- bytes that are not UTF-8 are no text
not_utf8 : (bytes : List ℕ) (is : Bool) → is_utf8 bytes ≡ is → (IsUtf8 bytes → ⊥) → is_utf8 bytes ≡ false
not_utf8 bytes true e h = absurd (h (IsUtf8-from_is_utf8 bytes e))
not_utf8 bytes false e h = e

pub is_no_text : (bytes : List ℕ) → (IsUtf8 bytes → ⊥) → text_in bytes ≡ Err (encoding (codes "The text is not UTF-8"))
is_no_text bytes h = cond-false (is_utf8 bytes) (Ok bytes) no_text (not_utf8 bytes (is_utf8 bytes) refl h)
