-- Lemmas on lists of addresses.
use Rattle.std.proofs.Common.{◌≡◌, ℕ, zero, suc, ◌+◌, ◌-◌, ◌<◌, ◌≤◌, Bool, true, false, eqb, ◌&&◌, List, [], ◌∷◌, ◌++◌, length, take, drop, refl, sym, ap, ◌∙◌, arith, length-drop, append_assoc}
use Rattle.std.specs.Prelude.{nat_eq, min}
use Rattle.std.proofs.lemmas.Bool.{and_parts, cond_both, false≢true, ne_eqb}
use Rattle.std.proofs.lemmas.List.{append-nil}
use Rattle.mail_codec.specs.Places.{begins}
use Rattle.mail_address.specs.declared.tokens.Span.TheVariants.{BeforeSeparator}
use Rattle.mail_address.specs.Tokens.{run}
use Rattle.mail_address.specs.Mailbox.{is_phrase}
use Rattle.mail_address.specs.Addresses.{after_name, element_len, group_len, inner_len, is_group, items, items_within, member_len, name_len, separator_len}

-- ---- items one after another

items-enough : {A : Type 0} (at : ℕ → List ℕ → List A) (len : List ℕ → ℕ) → ((b : List ℕ) → 0 < length b → 0 < len b) → (m n start : ℕ) (bytes : List ℕ)
    → length bytes ≤ m → length bytes ≤ n → items_within at len m start bytes ≡ items_within at len n start bytes
items-enough at len some zero zero start bytes a b = refl
items-enough at len some zero (suc n) start [] a b = refl
items-enough at len some zero (suc n) start (x ∷ bytes) a b = absurd (omega arith)
items-enough at len some (suc m) zero start [] a b = refl
items-enough at len some (suc m) zero start (x ∷ bytes) a b = absurd (omega arith)
items-enough at len some (suc m) (suc n) start [] a b = refl
items-enough at len some (suc m) (suc n) start (x ∷ bytes) a b =
    let low = some (x ∷ bytes) (omega arith) in
    let cut = length-drop (len (x ∷ bytes)) (x ∷ bytes) in
    ap (λ i. at start (x ∷ bytes) ++ i)
    (items-enough at len some m n (start + len (x ∷ bytes)) (drop (len (x ∷ bytes)) (x ∷ bytes)) (omega arith) (omega arith))

pub items-more : {A : Type 0} (at : ℕ → List ℕ → List A) (len : List ℕ → ℕ) → ((b : List ℕ) → 0 < length b → 0 < len b) → (start : ℕ) (bytes : List ℕ) → 0 < length bytes
    → items at len start bytes ≡ at start bytes ++ items at len (start + len bytes) (drop (len bytes) bytes)
unfolding items
items-more at len some start [] low = absurd (omega arith)
items-more at len some start (b ∷ bytes) low =
    let more = some (b ∷ bytes) low in
    let cut = length-drop (len (b ∷ bytes)) (b ∷ bytes) in
    ap (λ i. at start (b ∷ bytes) ++ i)
    (items-enough at len some (length bytes) (length (drop (len (b ∷ bytes)) (b ∷ bytes))) (start + len (b ∷ bytes)) (drop (len (b ∷ bytes)) (b ∷ bytes)) (omega arith) (omega arith))

-- a loop over them: what it has made, and then what the rest gives, is all
pub record MadeTo {A : Type 0} (at : ℕ → List ℕ → List A) (len : List ℕ → ℕ) (first : ℕ) (bytes : List ℕ) (made : List A) (start : ℕ) (rest : List ℕ) : Type 0 where
  pub place : start + length rest ≡ first + length bytes
  pub all : made ++ items at len start rest ≡ items at len first bytes

pub MadeTo-more : {A : Type 0} {at : ℕ → List ℕ → List A} {len : List ℕ → ℕ} {first : ℕ} {bytes : List ℕ} {made new : List A} {start : ℕ} {rest after : List ℕ} {n next : ℕ}
    → ((b : List ℕ) → 0 < length b → 0 < len b) → MadeTo at len first bytes made start rest → 0 < length rest → new ≡ made ++ at start rest → n ≡ len rest → n ≤ length rest
    → after ≡ drop n rest → next ≡ start + n → MadeTo at len first bytes new next after
MadeTo-more {A} {at} {len} {first} {bytes} {made} {new} {start} {rest} {after} {n} {next} some m low push is fits cut moved = record {
  place =
      let before = m.place in
      let len_after : length after ≡ length rest - n = ap length cut ∙ length-drop n rest in
      omega arith;
  all =
      ap (λ i. i ++ items at len next after) push ∙ append_assoc made (at start rest) (items at len next after)
      ∙ ap (λ i. made ++ (at start rest ++ i)) same_rest
      ∙ ap (λ i. made ++ i) (sym (items-more at len some start rest low)) ∙ m.all;
}
  where
    same_rest : items at len next after ≡ items at len (start + len rest) (drop (len rest) rest)
    same_rest =
        ap (λ p. items at len p after) (moved ∙ ap (λ k. start + k) is)
        ∙ ap (items at len (start + len rest)) (cut ∙ ap (λ k. drop k rest) is)

pub MadeTo-end : {A : Type 0} {at : ℕ → List ℕ → List A} {len : List ℕ → ℕ} {first : ℕ} {bytes : List ℕ} {made : List A} {start : ℕ} {rest : List ℕ}
    → MadeTo at len first bytes made start rest → length rest ≡ 0 → made ≡ items at len first bytes
unfolding items
MadeTo-end {made = made} {rest = []} m none = sym (append-nil made) ∙ m.all
MadeTo-end {rest = b ∷ rest} m none = absurd (omega (arith, none))

-- ---- bounds

pub begins-within : (test : ℕ → Bool) (n : ℕ) (bytes : List ℕ) → begins test (drop n bytes) ≡ true → n < length bytes
begins-within test zero [] h = absurd (cc)
begins-within test (suc n) [] h = absurd (cc)
begins-within test zero (b ∷ bytes) h = omega arith
begins-within test (suc n) (b ∷ bytes) h = let low = begins-within test n bytes h in omega arith

-- a group's colon and semicolon are within the bytes
pub is_group-within : (bytes : List ℕ) → is_group bytes ≡ true → (name_len bytes < length bytes) × (inner_len bytes < length (after_name bytes))
unfolding is_group
is_group-within bytes h =
    let both = and_parts (begins (λ b. eqb b 58) (drop (name_len bytes) bytes) && is_phrase (take (name_len bytes) bytes)) (begins (λ b. eqb b 59) (drop (inner_len bytes) (after_name bytes))) h in
    let name = and_parts (begins (λ b. eqb b 58) (drop (name_len bytes) bytes)) (is_phrase (take (name_len bytes) bytes)) both.0 in
    (begins-within (λ b. eqb b 58) (name_len bytes) bytes name.0, begins-within (λ b. eqb b 59) (inner_len bytes) (after_name bytes) both.1)

pub member_len-some : (bytes : List ℕ) → 0 < length bytes → 0 < member_len bytes
unfolding member_len
member_len-some bytes low = omega arith

pub element_len-some : (bytes : List ℕ) → 0 < length bytes → 0 < element_len bytes
unfolding element_len group_len
element_len-some bytes low =
    cond_both (is_group bytes) (group_len bytes + separator_len (drop (group_len bytes) bytes)) (min (suc (run BeforeSeparator bytes)) (length bytes)) (λ n. 0 < n)
    (λ e. omega arith) (λ e. omega arith)

-- a test for emptiness, and what it says of the length
pub some_bytes : (bytes : List ℕ) {r : Bool} → r ≡ nat_eq (length bytes) 0 → r ≡ false → 0 < length bytes
some_bytes [] is e = absurd (false≢true (sym e ∙ is))
some_bytes (b ∷ bytes) is e = omega arith

pub no_bytes : (bytes : List ℕ) {r : Bool} → r ≡ nat_eq (length bytes) 0 → r ≡ true → length bytes ≡ 0
no_bytes [] is e = refl
no_bytes (b ∷ bytes) is e = absurd (false≢true (sym (ne_eqb (length (b ∷ bytes)) 0 (λ n. absurd (omega arith))) ∙ sym is ∙ e))
