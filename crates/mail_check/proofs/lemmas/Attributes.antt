-- Lemmas on the characters of tokens in parameters.
use Rattle.std.proofs.Common.{◌≡◌, ◌∙◌, ◌<◌, ◌≤◌, ℕ, Bool, true, false, not, cond, List, [], ◌∷◌, Option, None, refl, sym, ap, inl, inr, arith}
use Rattle.std.specs.Prelude.{◌==◌, ◌||◌, nat_le, nat_lt, is_some, codes}
use Rattle.std.specs.Char.{is_ascii_alphanumeric}
use Rattle.std.specs.Int.{is_in_range}
use Rattle.std.specs.List.{list_all}
use Rattle.std.proofs.lemmas.Bool.{cases_lt, eqb-true, leb-true, le-ltb}
use Rattle.mail_codec.specs.Places.{byte_place}
use Rattle.mail_check.specs.Parameters.{after_byte, after_value, is_attribute, is_restricted}
use Rattle.mail_check.specs.declared.parameters.ValueState.{ValueState}
use Rattle.mail_check.specs.declared.parameters.ValueState.TheVariants.{Text, Token}
use Rattle.mail_check.proofs.lemmas.Booleans.{all_head, all_tail, are_true, both_true, cases_Bool, either_true, is_not}
use Rattle.mail_check.proofs.lemmas.Searched.{first_none}

pub pass : (t : Bool) (so not_so : ValueState) → t ≡ true → cond t so not_so ≡ so
pass t so not_so e = ap (λ (s : Bool). cond s so not_so) e

pub miss : (t : Bool) (so not_so : ValueState) → t ≡ false → cond t so not_so ≡ not_so
miss t so not_so e = ap (λ (s : Bool). cond s so not_so) e

pub text_keeps : (b : ℕ) → is_attribute b ≡ true → after_byte Text b ≡ Text
text_keeps b h = pass (is_attribute b) Text (after_value b) h

pub token_keeps : (b : ℕ) → is_restricted b ≡ true → after_byte Token b ≡ Token
token_keeps b h = pass (is_restricted b) Token (after_value b) h

pub range_low : (from to b : ℕ) → to < 128 → is_in_range from to b ≡ true → b < 128
range_low from to b low h =
    let most = leb-true b to (both_true (nat_le from b) (nat_le b to) h).1 in omega (arith, most, low)

pub listed_low : (b : ℕ) (xs : List ℕ) → list_all (λ x. nat_lt x 128) xs ≡ true → is_some (byte_place xs b) ≡ true → b < 128
listed_low b xs all h = elim (cases_lt b 128) [
  | inl l ↦ l
  | inr g ↦
      let none : byte_place xs b ≡ None = first_none (λ x. x == b) xs (others xs all g) in
      let no : false ≡ true = sym (ap (λ (o : Option ℕ). is_some o) none) ∙ h in
      absurd (cc)
]
  where
    others : (xs : List ℕ) → list_all (λ x. nat_lt x 128) xs ≡ true → 128 ≤ b → list_all (λ x. not (x == b)) xs ≡ true
    others [] all g = refl
    others (x ∷ xs) all g =
        are_true (not (x == b)) (list_all (λ x. not (x == b)) xs)
        (is_not (x == b) (differs x (all_head (λ x. nat_lt x 128) x xs all) g))
        (others xs (all_tail (λ x. nat_lt x 128) x xs all) g)
      where
        differs : (x : ℕ) → nat_lt x 128 ≡ true → 128 ≤ b → (x == b) ≡ false
        differs x low g = elim (cases_Bool (x == b)) [
          | inr e ↦ e
          | inl e ↦
              let same = eqb-true x b e in
              let high = le-ltb x 128 (omega (arith, same, g)) in
              absurd (cc)
        ]

pub attribute_low : (b : ℕ) → is_attribute b ≡ true → b < 128
attribute_low b h = elim (either_true (is_restricted b) _ h) [
  | inr e ↦ listed_low b (codes "`{|}~") refl e
  | inl e ↦ elim (either_true (is_ascii_alphanumeric b) _ e) [
    | inr f ↦ listed_low b (codes "!#$&-^_.+") refl f
    | inl f ↦ elim (either_true (is_in_range 48 57 b || is_in_range 65 90 b) (is_in_range 97 122 b) f) [
      | inr g ↦ range_low 97 122 b (omega arith) g
      | inl g ↦ elim (either_true (is_in_range 48 57 b) (is_in_range 65 90 b) g) [
        | inl i ↦ range_low 48 57 b (omega arith) i
        | inr i ↦ range_low 65 90 b (omega arith) i
      ]
    ]
  ]
]
