-- A text without percent pairs.
use Rattle.std.proofs.Common.{◌≡◌, ℕ, false, List, [], ◌∷◌, refl, ap, ◌∙◌}
use Rattle.std.specs.List.{list_any}
use Rattle.std.proofs.lemmas.Bool.{or_parts}
use Rattle.mail_laws.specs.Percent.{is_percent}
use Rattle.percent_encoding.specs.Percent.{is_escape, percent_decode}

-- a byte that begins no escape stays
stays : (b c d : ℕ) (text : List ℕ) → is_escape b c d ≡ false → percent_decode (b ∷ c ∷ d ∷ text) ≡ b ∷ percent_decode (c ∷ d ∷ text)
unfolding percent_decode
stays b c d text e = rw e refl

pub percent_free : (text : List ℕ) → list_any is_percent text ≡ false → percent_decode text ≡ text
unfolding percent_decode
percent_free [] h = refl
percent_free (b ∷ []) h = refl
percent_free (b ∷ c ∷ []) h = refl
percent_free (b ∷ c ∷ d ∷ text) h =
    let parts = or_parts (is_percent b) (list_any is_percent (c ∷ d ∷ text)) h in
    stays b c d text (rw (parts.0) refl) ∙ ap (λ r. b ∷ r) (percent_free (c ∷ d ∷ text) parts.1)
