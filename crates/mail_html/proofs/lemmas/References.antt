-- Character references.
use Rattle.std.proofs.Common.{◌≡◌, ◌∙◌, ℕ, zero, suc, ◌+◌, ◌-◌, ◌<◌, ◌≤◌, Bool, true, false, cond, List, [], ◌∷◌, ◌++◌, drop, length, get_or, inl, inr, refl, sym, ap, arith, append_assoc}
use Rattle.std.specs.Prelude.{◌==◌, ◌||◌}
use Rattle.std.specs.List.{prefix_len}
use Rattle.std.specs.Char.{is_ascii_digit, is_ascii_hexdigit}
use Rattle.std.proofs.lemmas.Bool.Decides.{nat_tests}
use Rattle.mail_codec.specs.Places.{begins}
use Rattle.std.specs.Int.{is_in_range}
use Rattle.std.specs.Char.{InScalarRange, OutOfScalarRange}
use Rattle.mail_codec.specs.Charset.{windows_1252_row}
use Rattle.mail_html.specs.References.{Referred, character_of, is_no_character, by_digits_or_none, by_row, numeric, reference, row_at, value_text}
use Rattle.mail_html.specs.declared.references.References.{References}

-- a number by hexadecimal or decimal digits
numeric_by : Bool → List ℕ → Referred
numeric_by b bytes =
    cond b (by_digits_or_none 16 2 (prefix_len is_ascii_hexdigit (drop 2 bytes)) bytes)
    (by_digits_or_none 10 1 (prefix_len is_ascii_digit (drop 1 bytes)) bytes)

pub numeric_hexadecimal : (bytes : List ℕ) (r : Referred) (n : ℕ) → begins (λ b. b == 0x78 || b == 0x58) (drop 1 bytes) ≡ true
    → n ≡ prefix_len is_ascii_hexdigit (drop 2 bytes) → r ≡ by_digits_or_none 16 2 n bytes → r ≡ numeric bytes
unfolding numeric numeric_by
numeric_hexadecimal bytes r n is count same =
    same ∙ ap (λ (m : ℕ). by_digits_or_none 16 2 m bytes) count ∙ sym (ap (λ b. numeric_by b bytes) is)

pub numeric_decimal : (bytes : List ℕ) (r : Referred) (n : ℕ) → begins (λ b. b == 0x78 || b == 0x58) (drop 1 bytes) ≡ false
    → n ≡ prefix_len is_ascii_digit (drop 1 bytes) → r ≡ by_digits_or_none 10 1 n bytes → r ≡ numeric bytes
unfolding numeric numeric_by
numeric_decimal bytes r n is count same =
    same ∙ ap (λ (m : ℕ). by_digits_or_none 10 1 m bytes) count ∙ sym (ap (λ b. numeric_by b bytes) is)

pub reference_number : (refs : References) (in_value : Bool) (bytes : List ℕ) (r : Referred) → begins (λ b. b == 0x23) bytes ≡ true → r ≡ numeric bytes → r ≡ reference refs in_value bytes
unfolding reference
reference_number refs in_value bytes r is same = same ∙ sym (ap (λ b. cond b (numeric bytes) (by_row in_value bytes (row_at refs bytes))) is)

pub reference_name : (refs : References) (in_value : Bool) (bytes : List ℕ) (r : Referred) → begins (λ b. b == 0x23) bytes ≡ false → r ≡ by_row in_value bytes (row_at refs bytes)
    → r ≡ reference refs in_value bytes
unfolding reference
reference_name refs in_value bytes r is same = same ∙ sym (ap (λ b. cond b (numeric bytes) (by_row in_value bytes (row_at refs bytes))) is)

-- ---- the text of a value

text_skips : (n : ℕ) (refs : References) (bs : List ℕ) → value_text n refs bs ≡ value_text 0 refs (drop n bs)
text_skips zero refs bs = refl
text_skips (suc n) refs [] = refl
text_skips (suc n) refs (b ∷ bs) = text_skips n refs bs

pub text_reference : (refs : References) (made bs : List ℕ) (r : Referred) → 0 < length bs → get_or bs 0 0 ≡ 38 → r ≡ reference refs true (drop 1 bs)
    → (made ++ r.0) ++ value_text 0 refs (drop (1 + r.1) bs) ≡ made ++ value_text 0 refs bs
text_reference refs made [] r some is same = absurd (omega arith)
text_reference refs made (b ∷ bs) r some is same =
    let h : (b == 38) ≡ true = grind (arith, nat_tests) in
    let e : 1 + r.1 ≡ suc r.1 = omega arith in
    append_assoc made r.0 (value_text 0 refs (drop (1 + r.1) (b ∷ bs)))
    ∙ ap (λ (xs : List ℕ). made ++ xs)
    (ap (λ (n : ℕ). r.0 ++ value_text 0 refs (drop n (b ∷ bs))) e
    ∙ ap (λ (xs : List ℕ). r.0 ++ xs) (sym (text_skips r.1 refs bs))
    ∙ ap (λ (q : Referred). q.0 ++ value_text q.1 refs bs) same
    ∙ sym (ap (λ t. cond t ((reference refs true bs).0 ++ value_text (reference refs true bs).1 refs bs) (b ∷ value_text 0 refs bs)) h))

pub text_byte : (refs : References) (made bs : List ℕ) → 0 < length bs → ¬ (get_or bs 0 0 ≡ 38)
    → (made ++ (get_or bs 0 0 ∷ [])) ++ value_text 0 refs (drop 1 bs) ≡ made ++ value_text 0 refs bs
text_byte refs made [] some other = absurd (omega arith)
text_byte refs made (b ∷ bs) some other =
    let h : (b == 38) ≡ false = grind (arith, nat_tests) in
    append_assoc made (b ∷ []) (value_text 0 refs bs)
    ∙ ap (λ (xs : List ℕ). made ++ xs)
    (sym (ap (λ t. cond t ((reference refs true bs).0 ++ value_text (reference refs true bs).1 refs bs) (b ∷ value_text 0 refs bs)) h))

-- ---- the character of a number

character_by : Bool → Bool → Bool → ℕ → ℕ
character_by nil none high n = cond (nil || none) 65533 (cond high (get_or windows_1252_row (n - 128) 0) n)

module _ (n : ℕ) where
  by_tests : (a b c : Bool) → (n == 0) ≡ a → is_no_character n ≡ b → is_in_range 128 159 n ≡ c → character_by a b c n ≡ character_of n
  unfolding character_of character_by
  by_tests a b c p q r =
      sym (ap (λ t. character_by t (is_no_character n) (is_in_range 128 159 n) n) p ∙ ap (λ t. character_by a t (is_in_range 128 159 n) n) q ∙ ap (λ t. character_by a b t n) r)

  pub character_zero : n ≡ 0 → 65533 ≡ character_of n
  unfolding character_of
  character_zero is = rw is refl

  pub character_high : 128 ≤ n → n < 160 → get_or windows_1252_row (n - 128) 0 ≡ character_of n
  unfolding character_by
  character_high low high = by_tests false false true (grind (arith, nat_tests)) (grind (arith, nat_tests)) (grind (arith, nat_tests))

  pub character_none : ¬ (n ≡ 0) → OutOfScalarRange n → 65533 ≡ character_of n
  unfolding character_by
  character_none some (inl h) = by_tests false true _ (grind (arith, nat_tests)) (grind (arith, nat_tests)) refl
  character_none some (inr h) = by_tests false true _ (grind (arith, nat_tests)) (grind (arith, nat_tests)) refl

  pub character_itself : ¬ (n ≡ 0) → is_in_range 128 159 n ≡ false → InScalarRange n → n ≡ character_of n
  unfolding character_by
  character_itself some other (inl h) = by_tests false false false (grind (arith, nat_tests)) (grind (arith, nat_tests)) other
  character_itself some other (inr h) = by_tests false false false (grind (arith, nat_tests)) (grind (arith, nat_tests)) other
