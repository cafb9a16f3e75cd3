-- The row that has a label, among labels that are references.
use Rattle.std.proofs.Common.{◌≡◌, ◌∙◌, ℕ, Bool, true, false, cond, List, [], ◌∷◌, map, Option, None, Some, option_map, refl, ap, Bor}
use Rattle.std.specs.Prelude.{find}
use Rattle.std.proofs.lemmas.Iterator.{YieldsList}
use Rattle.mail_codec.specs.Charset.{is_among_labels}

-- a row with its labels, as the code has them
abbrev pub Row : Type 0 → Type 0
Row A = A × Bor (List (Bor (List ℕ)))

abbrev pub has : {A : Type 0} → List ℕ → Row A → Bool
has label row = is_among_labels (map (λ x. x.now) row.1.now) label

-- the same as a list; a part of what it begins with may be left out
abbrev pub row_of : {A B : Type 0} → (A → B) → Row A → B × List (List ℕ)
row_of f row = (f row.0, map (λ x. x.now) row.1.now)

-- both have the label, or neither
one_of : {A B : Type 0} (f : A → B) (b : Bool) (row : Row A) (held : Option (Row A)) (listed : Option (B × List (List ℕ)))
    → option_map (λ r. f r.0) held ≡ option_map (λ r. r.0) listed
    → option_map (λ r. f r.0) (cond b (Some row) held) ≡ option_map (λ r. r.0) (cond b (Some (row_of f row)) listed)
one_of f true row held listed same = refl
one_of f false row held listed same = same

listed_found : {A B : Type 0} (f : A → B) (label : List ℕ) (rows : List (Row A))
    → option_map (λ r. f r.0) (find (has label) rows) ≡ option_map (λ r. r.0) (find (λ r. is_among_labels r.1 label) (map (row_of f) rows))
listed_found f label [] = refl
listed_found f label (row ∷ rows) = one_of f (has label row) row _ _ (listed_found f label rows)

-- the result of a search through all rows
pub row_found : {A B S X : Type 0} {steps : S → Option X → S → Type 0} {v : X → Row A} {s : S} {rows : List (Row A)} (f : A → B) (label : List ℕ)
    → YieldsList steps v s rows → (row : Option X) → option_map v row ≡ find (has label) rows
    → option_map (λ x. f (v x).0) row ≡ option_map (λ r. r.0) (find (λ r. is_among_labels r.1 label) (map (row_of f) rows))
row_found {rows = rows} f label yields None is = ap (option_map (λ r. f r.0)) is ∙ listed_found f label rows
row_found {rows = rows} f label yields (Some x) is = ap (option_map (λ r. f r.0)) is ∙ listed_found f label rows
