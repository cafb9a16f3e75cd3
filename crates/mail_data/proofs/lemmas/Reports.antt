-- Lemmas on the blocks of reports.
use Rattle.std.proofs.Common.{◌≡◌, ℕ, zero, suc, ◌<◌, ◌≤◌, Bool, true, false, not, List, [], ◌∷◌, ◌++◌, length, drop, refl, sym, ap, ◌∙◌, arith, append_assoc, length-drop, inl, inr}
use Rattle.std.specs.Prelude.{nat_lt, nat_eq, filter}
use Rattle.std.proofs.lemmas.Bool.{cases_Bool, ltb-true}
use Rattle.std.proofs.lemmas.List.{append-nil}
use Rattle.mail_codec.specs.Places.{is_empty}
use Rattle.mail_data.specs.Reports.{after_block, block_at, block_length, blocks, pieces_within}
use Rattle.mail_data.specs.LineEnds.{empty_line, is_empty_line}
use Rattle.mail_data.proofs.lemmas.LineEnds.{line_place-passes, no-bytes, some-bytes}

-- each piece takes some bytes
some_taken : (bytes : List ℕ) → 0 < length bytes → block_length bytes ≡ 0 → 0 < empty_line (drop (block_length bytes) bytes)
unfolding block_length
some_taken bytes some e = ltb-true 0 _ (line_place-passes is_empty_line bytes (omega arith))

pub after_block-shorter : (bytes : List ℕ) → 0 < length bytes → length (after_block bytes) < length bytes
after_block-shorter bytes some =
    let a = length-drop (block_length bytes) bytes in
    let rest = drop (block_length bytes) bytes in
    let b = length-drop (empty_line rest) rest in
    elim (cases_Bool (nat_lt 0 (block_length bytes))) [
      | inl l ↦ let low = ltb-true 0 (block_length bytes) l in omega arith
      | inr g ↦ let low = some_taken bytes some (grind (arith, g)) in omega arith
    ]

pieces-enough : (n m : ℕ) (bytes : List ℕ) → length bytes ≤ n → length bytes ≤ m → pieces_within n bytes ≡ pieces_within m bytes
pieces-enough zero zero bytes a b = refl
pieces-enough zero (suc m) [] a b = refl
pieces-enough zero (suc m) (c ∷ bytes) a b = absurd (omega arith)
pieces-enough (suc n) zero [] a b = refl
pieces-enough (suc n) zero (c ∷ bytes) a b = absurd (omega arith)
pieces-enough (suc n) (suc m) [] a b = refl
pieces-enough (suc n) (suc m) (c ∷ bytes) a b =
    let less = after_block-shorter (c ∷ bytes) (omega arith) in
    ap (λ (ps : List (List ℕ)). block_at (c ∷ bytes) ∷ ps) (pieces-enough n m (after_block (c ∷ bytes)) (omega arith) (omega arith))

-- a block, if it is not empty
abbrev pub if_some : List ℕ → List (List ℕ)
if_some block = filter (λ b. not (is_empty b)) (block ∷ [])

one_more : (block : List ℕ) (ps : List (List ℕ)) → filter (λ b. not (is_empty b)) (block ∷ ps) ≡ if_some block ++ filter (λ b. not (is_empty b)) ps
one_more [] ps = refl
one_more (b ∷ block) ps = refl

pub blocks-next : (bytes : List ℕ) → 0 < length bytes → blocks bytes ≡ if_some (block_at bytes) ++ blocks (after_block bytes)
unfolding blocks
blocks-next [] some = absurd (omega arith)
blocks-next (b ∷ bytes) some =
    let less = after_block-shorter (b ∷ bytes) some in
    one_more (block_at (b ∷ bytes)) (pieces_within (length bytes) (after_block (b ∷ bytes)))
    ∙ ap (λ (ps : List (List ℕ)). if_some (block_at (b ∷ bytes)) ++ filter (λ b. not (is_empty b)) ps)
    (pieces-enough (length bytes) (length (after_block (b ∷ bytes))) (after_block (b ∷ bytes)) (omega arith) (omega arith))

-- ---- the blocks so far, and those of the rest

pub blocks-shorter : (rest after : List ℕ) (r : Bool) → r ≡ nat_eq (length rest) 0 → r ≡ false → after ≡ after_block rest → length after < length rest
blocks-shorter rest after r is some e = let less = after_block-shorter rest (some-bytes rest r is some) in omega (arith, ap length e, less)

pub blocks-pushed : (rest block after : List ℕ) (found new all : List (List ℕ)) (r s : Bool) → r ≡ nat_eq (length rest) 0 → r ≡ false → block ≡ block_at rest
    → after ≡ after_block rest → s ≡ nat_eq (length block) 0 → s ≡ false → new ≡ found ++ block ∷ [] → found ++ blocks rest ≡ all → new ++ blocks after ≡ all
blocks-pushed rest block after found new all r s is some here next is_block some_block push before =
    ap (λ (l : List (List ℕ)). l ++ blocks after) push ∙ append_assoc found (block ∷ []) (blocks after)
    ∙ ap (λ (l : List (List ℕ)). found ++ (l ++ blocks after)) (sym (kept block (some-bytes block s is_block some_block)))
    ∙ ap (λ (b : List ℕ). found ++ (if_some b ++ blocks after)) here ∙ ap (λ (b : List ℕ). found ++ (if_some (block_at rest) ++ blocks b)) next
    ∙ ap (λ (l : List (List ℕ)). found ++ l) (sym (blocks-next rest (some-bytes rest r is some))) ∙ before
  where
    kept : (block : List ℕ) → 0 < length block → if_some block ≡ block ∷ []
    kept [] low = absurd (omega arith)
    kept (b ∷ block) low = refl

pub blocks-passed : (rest block after : List ℕ) (found all : List (List ℕ)) (r s : Bool) → r ≡ nat_eq (length rest) 0 → r ≡ false → block ≡ block_at rest
    → after ≡ after_block rest → s ≡ nat_eq (length block) 0 → s ≡ true → found ++ blocks rest ≡ all → found ++ blocks after ≡ all
blocks-passed rest block after found all r s is some here next is_block no_block before =
    ap (λ (l : List (List ℕ)). found ++ (l ++ blocks after)) (sym (ap if_some (no-bytes block s is_block no_block)))
    ∙ ap (λ (b : List ℕ). found ++ (if_some b ++ blocks after)) here ∙ ap (λ (b : List ℕ). found ++ (if_some (block_at rest) ++ blocks b)) next
    ∙ ap (λ (l : List (List ℕ)). found ++ l) (sym (blocks-next rest (some-bytes rest r is some))) ∙ before

pub blocks-end : (rest : List ℕ) (found all : List (List ℕ)) (r : Bool) → r ≡ nat_eq (length rest) 0 → r ≡ true → found ++ blocks rest ≡ all → found ≡ all
unfolding blocks
blocks-end rest found all r is none before = sym (append-nil found) ∙ ap (λ (b : List ℕ). found ++ blocks b) (sym (no-bytes rest r is none)) ∙ before
