-- The delimiters of plain outlines, their levels and their messages are those of strict mails.
use Rattle.std.proofs.Common.{◌≡◌, ◌∙◌, ◌+◌, ◌≤◌, ℕ, zero, suc, Bool, true, false, List, [], ◌∷◌, ◌++◌, length, refl, sym, ap, inr, arith, length-append}
use Rattle.std.specs.Prelude.{◌==◌}
use Rattle.std.specs.Char.{is_ascii_alphanumeric}
use Rattle.std.specs.List.{list_all}
use Rattle.std.proofs.lemmas.Bool.Decides.{nat_tests}
use Rattle.std.proofs.lemmas.Bool.{and_from, and_left}
use Rattle.mail_codec.specs.Charset.{Charsets}
use Rattle.mail_codec.specs.Places.{has_prefix}
use Rattle.mail_codec.specs.QuotedPrintable.{cr_lf}
use Rattle.mailparse.specs.Mail.{trees_in, trees_within}
use Rattle.mail_grammar.specs.Delimiters.{line_ends, HasNoDash, no_dash, no_dash_here, HasClose, part_byte, delimiter, close_delimiter, HasParts, first_delimiter}
use Rattle.mail_grammar.specs.Levels.{HasLevels, HaveLevels, IsSmall}
use Rattle.mail_clean.specs.PlainOutlines.{ArePlainParts}
use Rattle.mail_laws.specs.Render.{OutlineTree, OutlineForest, leaf, branch, no_outlines, outline_and, depth, depth_of_parts, headers_in, headers_within, rendered, rendered_parts, stands_for, stand_for}
use Rattle.mail_laws.proofs.lemmas.RenderParts.{has_prefix-before, no_return}
use Rattle.mail_laws.proofs.lemmas.RenderReadings.{no_return-alphanumeric}
use Rattle.mail_grammar.proofs.lemmas.Boundaries.{all_head, all_tail}

-- ---- delimiters

no_hyphen : (b : ℕ) → is_ascii_alphanumeric b ≡ true → (45 == b) ≡ false
no_hyphen b h = grind (arith, nat_tests)

no_end : (b : ℕ) → is_ascii_alphanumeric b ≡ true → (b == 13) ≡ false
no_end b h = grind (arith, nat_tests)

returnless : (xs : List ℕ) → list_all is_ascii_alphanumeric xs ≡ true → list_all no_return xs ≡ true
returnless [] all = refl
returnless (b ∷ xs) all =
    and_from (no_return b) (list_all no_return xs) (no_return-alphanumeric b (all_head is_ascii_alphanumeric b xs all))
    (returnless xs (all_tail is_ascii_alphanumeric b xs all))

-- a boundary of letters and digits
module _ (b : ℕ) (bs : List ℕ) (all : list_all is_ascii_alphanumeric (b ∷ bs) ≡ true) where
  abbrev dash : List ℕ
  dash = 45 ∷ 45 ∷ b ∷ bs

  dashless : (xs rest : List ℕ) → list_all is_ascii_alphanumeric xs ≡ true → HasNoDash dash rest → HasNoDash dash (xs ++ rest)
  dashless [] rest free more = more
  dashless (x ∷ xs) rest free more =
      no_dash_here (and_left (45 == x) (has_prefix (45 ∷ b ∷ bs) (xs ++ rest))
      (no_hyphen x (all_head is_ascii_alphanumeric x xs free)))
      (dashless xs rest (all_tail is_ascii_alphanumeric x xs free) more)

  alone : HasNoDash dash (45 ∷ ((b ∷ bs) ++ 45 ∷ 45 ∷ 13 ∷ 10 ∷ []))
  alone =
      no_dash_here (and_left (45 == b) (has_prefix (b ∷ bs) (bs ++ 45 ∷ 45 ∷ 13 ∷ 10 ∷ []))
      (no_hyphen b (all_head is_ascii_alphanumeric b bs all)))
      (dashless (b ∷ bs) (45 ∷ 45 ∷ 13 ∷ 10 ∷ []) all
      (no_dash_here (and_left (b == 13) (has_prefix bs (10 ∷ [])) (no_end b (all_head is_ascii_alphanumeric b bs all)))
      (no_dash_here refl (no_dash_here refl (no_dash_here refl no_dash)))))

  free : list_all no_return dash ≡ true
  free = returnless (b ∷ bs) all

  part_closed : (text rest : List ℕ) (starts : Bool) → HasNoDash dash text → HasClose dash true rest
      → HasClose dash starts (text ++ 13 ∷ 10 ∷ rest)
  part_closed [] rest starts none more = part_byte refl (part_byte refl more)
  part_closed (x ∷ text) rest starts (no_dash_here other none) more =
      part_byte (has_prefix-before dash (x ∷ text) (10 ∷ rest) free ∙ other) (part_closed text rest (x == 10) none more)

  parts_closed : (parts : OutlineForest) → ArePlainParts (b ∷ bs) parts → HasClose dash true (rendered_parts (b ∷ bs) parts)
  parts_closed no_outlines plain =
      close_delimiter (record { rest = cr_lf; made = refl; line = line_ends [] (inr refl) refl; alone = alone })
  parts_closed (outline_and part parts) plain =
      delimiter (inr refl)
      (part_closed (rendered part) (rendered_parts (b ∷ bs) parts) true plain.0 (parts_closed parts plain.1.1)) refl

  pub parts_split : (part : OutlineTree) (parts : OutlineForest) → ArePlainParts (b ∷ bs) (outline_and part parts)
      → HasParts dash true (rendered_parts (b ∷ bs) (outline_and part parts))
  parts_split part parts plain =
      first_delimiter (inr refl)
      (part_closed (rendered part) (rendered_parts (b ∷ bs) parts) true plain.0 (parts_closed parts plain.1.1)) refl

-- ---- levels and messages

module _ (known : Charsets) where
  mutual
    outline_levels : (n : ℕ) (outline : OutlineTree) → depth outline ≤ n → HasLevels (suc n) (stands_for known outline)
    outline_levels n (leaf headers body) within = tt
    outline_levels n (branch headers boundary parts) within = levels_of_parts n parts within

    levels_of_parts : (n : ℕ) (parts : OutlineForest) → depth_of_parts parts ≤ n → HaveLevels n (stand_for known parts)
    levels_of_parts n no_outlines within = tt
    levels_of_parts zero (outline_and part parts) within = absurd (omega (arith, within))
    levels_of_parts (suc n) (outline_and part parts) within =
        (outline_levels n part (omega (arith, within)), levels_of_parts (suc n) parts (omega (arith, within)))

  mutual
    messages_within : (outline : OutlineTree) → length (trees_within (stands_for known outline)) ≡ length (headers_within outline)
    messages_within (leaf headers body) = refl
    messages_within (branch headers boundary parts) = ap suc (messages_in parts)

    messages_in : (parts : OutlineForest) → length (trees_in (stand_for known parts)) ≡ length (headers_in parts)
    messages_in no_outlines = refl
    messages_in (outline_and part parts) =
        let first = messages_within part in
        let others = messages_in parts in
        let trees = length-append (trees_within (stands_for known part)) (trees_in (stand_for known parts)) in
        let headers = length-append (headers_within part) (headers_in parts) in
        trees ∙ ap (λ n. n + length (trees_in (stand_for known parts))) first
        ∙ ap (λ n. length (headers_within part) + n) others ∙ sym headers

  pub outline_small : (outline : OutlineTree) → depth outline ≤ 9 → length (headers_within outline) ≤ 100
      → IsSmall (stands_for known outline)
  outline_small outline levels messages =
      let e = messages_within outline in
      record { levels = outline_levels 9 outline levels; messages = omega (arith, e, messages) }
