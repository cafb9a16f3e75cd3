-- A label among labels that are references.
use Rattle.std.proofs.Common.{◌≡◌, ℕ, Bool, ◌||◌, List, [], ◌∷◌, map, refl, ap, Bor}
use Rattle.std.specs.List.{list_any}
use Rattle.std.specs.Str.{str_eq_ignore_ascii_case}
use Rattle.mail_codec.specs.Charset.{is_among_labels}

-- testing each reference, and what it refers to
any_referred : (test : List ℕ → Bool) (labels : List (Bor (List ℕ))) → list_any test (map (λ x. x.now) labels) ≡ list_any (λ x. test x.now) labels
any_referred test [] = refl
any_referred test (x ∷ labels) = ap (λ b. test x.now || b) (any_referred test labels)

pub is_among_labels-referred : (labels : List (Bor (List ℕ))) (label : List ℕ)
    → is_among_labels (map (λ x. x.now) labels) label ≡ list_any (λ x. str_eq_ignore_ascii_case label x.now) labels
unfolding is_among_labels
is_among_labels-referred labels label = any_referred (str_eq_ignore_ascii_case label) labels
