-- Lemmas on names that are read leniently.
use Rattle.std.proofs.Common.{◌≡◌, ℕ, Bool, true, false, cond, List, [], ◌∷◌, length, None, inl, inr, refl, sym, ap, ◌∙◌, ◌||◌, arith}
use Rattle.std.proofs.lemmas.Bool.{cases_Bool}
use Rattle.mail_codec.specs.Charset.{Charsets}
use Rattle.mail_codec.specs.Places.{begins, either_place, first_place}
use Rattle.mail_codec.proofs.lemmas.Places.{first_place-here, first_place-past}
use Rattle.mail_codec.proofs.lemmas.PlacesSearches.{place_none}
use Rattle.mail_read.specs.lenient.Names.{is_line_end, name_text, on_one_line}
use Rattle.mail_read.specs.lenient.Values.{header_text}

stays : (bytes : List ℕ) → first_place (begins is_line_end) bytes ≡ length bytes → on_one_line false bytes ≡ bytes
stays [] h = refl
stays (b ∷ rest) h = elim (cases_Bool (is_line_end b)) [
  | inl e ↦ let here = first_place-here (begins is_line_end) (b ∷ rest) e in absurd (omega arith)
  | inr e ↦
      let past = first_place-past (begins is_line_end) b rest e in
      ap (λ (t : Bool). cond (t || false) (on_one_line true rest) (b ∷ on_one_line false rest)) e
      ∙ ap (λ (r : List ℕ). b ∷ r) (stays rest (omega arith))
]

-- a name without line ends is on one line
pub one_line : (known : Charsets) (name : List ℕ) → None ≡ either_place name 13 10 → header_text known name ≡ name_text known name
unfolding name_text
one_line known name none = ap (header_text known) (sym (stays name (place_none (begins is_line_end) name none)))
