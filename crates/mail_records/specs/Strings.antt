-- Lists of strings, one after another, with the end of each; and the strings of a type.
use Rattle.std.specs.Prelude.{◌≡◌, ◌⊎◌, ℕ, ◌+◌, List, [], ◌∷◌, length, flat_map, Ok}
use Rattle.mailparse.specs.ContentType.{ContentType}
use Rattle.mail_parts.specs.Part.{Lists}
use Rattle.mail_records.specs.Buffer.{IsKept, Output, WritesBoth}
use Rattle.mail_records.specs.Codes.{no_memory}
use Rattle.mail_records.specs.Rows.{listed}

-- the offset at which a text ends that begins at this offset
abbrev pub end_from : ℕ → List ℕ → ℕ
end_from at text = at + length text

-- a text as the strings have it
abbrev pub own : List ℕ → List ℕ
own text = text

-- the end of each text, and the texts one after another
abbrev pub both_of : List (List ℕ) → List ℕ × List ℕ
both_of texts = listed end_from own texts

-- a parameter: its name and its value
abbrev pub both : List ℕ × List ℕ → List (List ℕ)
both pair = pair.0 ∷ pair.1 ∷ []

-- the strings of a type with these parameters: the type, the charset, and each parameter
abbrev pub type_texts : ContentType → List (List ℕ × List ℕ) → List (List ℕ)
type_texts ctype pairs = ctype.mimetype ∷ ctype.charset ∷ flat_map both pairs

-- strings are those of a type: its parameters are in the order of their names
abbrev pub AreTypeStrings : ContentType → List ℕ × List ℕ → Type 0
AreTypeStrings ctype found = (pairs : List (List ℕ × List ℕ)) × Lists ctype.params pairs × (found ≡ both_of (type_texts ctype pairs))

-- strings that are right were written, or memory ran out and all is unchanged
abbrev pub EndsStrings : Output ℕ → Output ℕ → ℕ → (List ℕ × List ℕ → Type 0) → Type 0
EndsStrings ends bytes code Are =
    ((code ≡ no_memory) × IsKept ends × IsKept bytes) ⊎ ((found : List ℕ × List ℕ) × Are found × WritesBoth ends bytes code (Ok found))
