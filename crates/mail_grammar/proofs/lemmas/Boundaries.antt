-- Lemmas on the bytes of boundaries, and on lists of bytes that all pass a test.
use Rattle.std.proofs.Common.{◌≡◌, ◌∙◌, ℕ, Bool, true, false, not, List, ◌∷◌, refl, sym, subst, inl, inr}
use Rattle.std.specs.Prelude.{◌||◌, ◌==◌}
use Rattle.std.specs.List.{list_all}
use Rattle.std.proofs.lemmas.Bool.{and_from, and_parts, cases_Bool, eq-eqb, eqb-true, not_from_false, or_from}
use Rattle.mail_codec.specs.Ascii.{carriage_return, line_feed}
use Rattle.mail_grammar.specs.Fields.{IsBoundary, last_character, more_characters, is_boundary_character}

pub all_head : (test : ℕ → Bool) (b : ℕ) (rest : List ℕ) → list_all test (b ∷ rest) ≡ true → test b ≡ true
all_head test b rest h = (and_parts (test b) (list_all test rest) h).0

pub all_tail : (test : ℕ → Bool) (b : ℕ) (rest : List ℕ) → list_all test (b ∷ rest) ≡ true → list_all test rest ≡ true
all_tail test b rest h = (and_parts (test b) (list_all test rest) h).1

pub eq_flip : (a b : ℕ) → (a == b) ≡ (b == a)
eq_flip a b = elim (cases_Bool (a == b)) [
  | inl e ↦ let same = eqb-true a b e in e ∙ sym (eq-eqb b a (sym same))
  | inr e ↦ elim (cases_Bool (b == a)) [
    | inl f ↦ let same = eqb-true b a f in let g = eq-eqb a b (sym same) in absurd (cc)
    | inr f ↦ e ∙ sym f
  ]
]

-- a byte of no line end
abbrev pub is_inner : ℕ → Bool
is_inner b = not (b == carriage_return || b == line_feed)

inner : (b : ℕ) → is_boundary_character b ≡ true → is_inner b ≡ true
inner b h = elim (cases_Bool (b == carriage_return)) [
  | inl e ↦ let no : false ≡ true = subst (λ (x : ℕ). is_boundary_character x ≡ true) (eqb-true b carriage_return e) h in absurd (cc)
  | inr e ↦ elim (cases_Bool (b == line_feed)) [
    | inl f ↦ let no : false ≡ true = subst (λ (x : ℕ). is_boundary_character x ≡ true) (eqb-true b line_feed f) h in absurd (cc)
    | inr f ↦ not_from_false (b == carriage_return || b == line_feed) (or_from (b == carriage_return) (b == line_feed) e f)
  ]
]

-- a boundary has no line ends
pub boundary_inner : (most : ℕ) (text : List ℕ) → IsBoundary most text → list_all is_inner text ≡ true
boundary_inner most text (last_character {b = b} is other) = and_from (is_inner b) true (inner b is) refl
boundary_inner most text (more_characters {most = less} {b = b} {rest = rest} is more) = and_from (is_inner b) (list_all is_inner rest) (inner b is) (boundary_inner less rest more)
