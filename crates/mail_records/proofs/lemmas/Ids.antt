-- Lemmas on ids between angle brackets.
use Rattle.std.proofs.Common.{◌≡◌, ℕ, List, [], ◌∷◌, ◌++◌, sym, ap, ◌∙◌, append_assoc}
use Rattle.std.proofs.lemmas.List.{append-nil}
use Rattle.std.specs.List.{flat_map}
use Rattle.mail_records.specs.Results.{bracketed}

-- after the next id was appended, the ids that are left complete the text
pub more : (made id new : List ℕ) (left rest : List (List ℕ)) (all : List ℕ) → left ≡ id ∷ rest → new ≡ made ++ bracketed id
    → made ++ flat_map bracketed left ≡ all → new ++ flat_map bracketed rest ≡ all
more made id new left rest all l n here =
    ap (λ bytes. bytes ++ flat_map bracketed rest) n ∙ append_assoc made (bracketed id) (flat_map bracketed rest)
    ∙ ap (λ ids. made ++ flat_map bracketed ids) (sym l) ∙ here

-- no id is left
pub all_made : (made : List ℕ) (left : List (List ℕ)) (all : List ℕ) → left ≡ [] → made ++ flat_map bracketed left ≡ all → made ≡ all
all_made made left all l here = sym (append-nil made) ∙ ap (λ ids. made ++ flat_map bracketed ids) (sym l) ∙ here
