-- Lemmas on lists of strings.
use Rattle.std.proofs.Common.{◌≡◌, ℕ, List, [], ◌∷◌, ◌++◌, Result, Ok, Err, inl, inr, sym, ap, subst, ◌∙◌}
use Rattle.std.proofs.lemmas.List.{append-nil}
use Rattle.std.proofs.lemmas.List.Concat.{flat_map-append}
use Rattle.std.specs.List.{flat_map}
use Rattle.mailparse.specs.ContentType.{ContentType}
use Rattle.mail_parts.specs.Part.{Lists}
use Rattle.mail_records.specs.Buffer.{Output, WritesBoth, seen}
use Rattle.mail_records.specs.Codes.{IsOrMemory}
use Rattle.mail_records.specs.Rows.{AppendsRows, AreRows, rows_from, rows_view}
use Rattle.mail_records.specs.Strings.{AreTypeStrings, EndsStrings, both, both_of, end_from, own, type_texts}
use Rattle.mail_records.specs.declared.rows.Rows.{Rows}
use Rattle.mail_records.proofs.lemmas.Rows.{appended-then}

-- strings were written
pub ends_strings : (Are : List ℕ × List ℕ → Type 0) (ends bytes : Output ℕ) (code : ℕ) (found : Result (Rows ℕ) ℕ)
    → IsOrMemory (λ (s : Rows ℕ). Are (rows_view s)) found → WritesBoth ends bytes code (seen rows_view found) → EndsStrings ends bytes code Are
ends_strings Are ends bytes code (Ok s) are wrote = inr (rows_view s, are, wrote)
ends_strings Are ends bytes code (Err e) are wrote = inl (wrote.0 ∙ are, wrote.1, wrote.2)

-- a parameter was appended
pub next_parameter : (first old mid new : Rows ℕ) (done : List (List ℕ × List ℕ)) (name value : List ℕ)
    → AppendsRows end_from own (flat_map both done) first old → AppendsRows end_from own (name ∷ []) old mid → AppendsRows end_from own (value ∷ []) mid new
    → AppendsRows end_from own (flat_map both (done ++ (name, value) ∷ [])) first new
next_parameter first old mid new done name value before named valued =
    subst (λ (ts : List (List ℕ)). AppendsRows end_from own ts first new) (sym (flat_map-append both done ((name, value) ∷ [])))
    (appended-then end_from own first old new (flat_map both done) (name ∷ value ∷ []) before (appended-then end_from own old mid new (name ∷ []) (value ∷ []) named valued))

-- nothing was appended yet
pub no_parameters : (strings : Rows ℕ) (texts : List (List ℕ)) → AreRows end_from own texts strings → AreRows end_from own (texts ++ flat_map both []) strings
no_parameters strings texts are = subst (λ (ts : List (List ℕ)). AreRows end_from own ts strings) (sym (append-nil texts)) are

-- strings of a type, from its texts
pub type_are : (ctype : ContentType) (pairs : List (List ℕ × List ℕ)) (mimetype charset : List ℕ) (strings : Rows ℕ) → Lists ctype.params pairs
    → mimetype ≡ ctype.mimetype → charset ≡ ctype.charset → AreRows end_from own (mimetype ∷ charset ∷ flat_map both pairs) strings
    → AreTypeStrings ctype (rows_view strings)
type_are ctype pairs mimetype charset strings lists m c are =
    let same : mimetype ∷ charset ∷ flat_map both pairs ≡ type_texts ctype pairs =
    ap (λ (t : List ℕ). t ∷ charset ∷ flat_map both pairs) m ∙ ap (λ (t : List ℕ). ctype.mimetype ∷ t ∷ flat_map both pairs) c in
    (pairs, lists, ap (λ (ns : List ℕ). (ns, strings.strings.items)) are.0 ∙ ap (λ (bs : List ℕ). (rows_from end_from own 0 (mimetype ∷ charset ∷ flat_map both pairs), bs)) are.1 ∙ ap both_of same)
