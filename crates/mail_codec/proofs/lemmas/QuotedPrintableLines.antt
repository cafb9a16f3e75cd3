-- A line's bytes by the last byte that it keeps, and a text by its first LF.
use Rattle.std.proofs.Common.{◌≡◌, ℕ, suc, ◌+◌, ◌-◌, ◌<◌, ◌≤◌, ◌==◌, Bool, true, false, List, [], ◌∷◌, ◌++◌, length, take, drop, refl, sym, ap, ◌∙◌, arith, inl, inr}
use Rattle.std.specs.Prelude.{nat_eq}
use Rattle.std.specs.List.{flat_map, slice_split, onto_first, position_or_len, before_first, after_first, suffix_len}
use lib.Pointwise.{pointwise}
use Rattle.std.proofs.Math.Bool.{and-true}
use Rattle.std.proofs.lemmas.Bool.{cases_Bool, eq-eqb}
use Rattle.std.proofs.lemmas.List.{append-nil, append_assoc, drop-drop, drop_all, take_all, take_at, length-append, length-drop}
use Rattle.std.proofs.lemmas.List.Splits.{slice_split_none, slice_split_first}
use Rattle.std.proofs.lemmas.List.Sums.{fails_before_first}
use Rattle.mail_codec.specs.Ascii.{is_blank}
use Rattle.mail_codec.specs.Places.{first_place, begins, trimmed_at_end}
use Rattle.mail_codec.specs.QuotedPrintable.{Line, ends_in, without_last, lf, cr_lf, ended_line, lines_of_pieces, lines_of, line_bytes, quoted_printable, unescaped}
use Rattle.mail_codec.proofs.lemmas.Places.{first_place-begins}

-- the last byte, as std's `strip_suffix` tests it
pub ends_in-suffix : (c : ℕ) (xs : List ℕ) → ends_in c xs ≡ pointwise nat_eq (drop (length xs - 1) xs) (c ∷ [])
ends_in-suffix c [] = refl
ends_in-suffix c (x ∷ []) = sym (and-true (x == c))
ends_in-suffix c (x ∷ y ∷ xs) =
    let e : suc (suc (length xs)) - 1 ≡ suc (suc (length xs) - 1) = omega arith in
    ends_in-suffix c (y ∷ xs) ∙ ap (λ (k : ℕ). pointwise nat_eq (drop k (x ∷ y ∷ xs)) (c ∷ [])) (sym e)

-- bytes that end in a byte, and those before it
pub ends_in-push : (c : ℕ) (xs : List ℕ) → ends_in c (xs ++ c ∷ []) ≡ true
ends_in-push c [] = eq-eqb c c refl
ends_in-push c (x ∷ []) = eq-eqb c c refl
ends_in-push c (x ∷ y ∷ xs) = ends_in-push c (y ∷ xs)

pub without_last-push : (c : ℕ) (xs : List ℕ) → without_last (xs ++ c ∷ []) ≡ xs
without_last-push c xs =
    let len : length (xs ++ c ∷ []) - 1 ≡ length xs = omega (arith, length-append xs (c ∷ [])) in
    ap (λ (n : ℕ). take n (xs ++ c ∷ [])) len ∙ take_at xs (c ∷ []) (length xs) refl

-- ---- the bytes of a line

module _ (content ending : List ℕ) (end : ℕ) (end_is : end ≡ length content - suffix_len is_blank content) where
  abbrev line : Line
  line = record { content = content; ending = ending }

  abbrev kept : List ℕ
  kept = take end content

  trimmed_is : trimmed_at_end is_blank content ≡ kept
  trimmed_is = ap (λ (n : ℕ). take n content) (sym end_is)

  pub line_bytes-soft : (joined : List ℕ) → pointwise nat_eq (drop (length kept - 1) kept) (61 ∷ []) ≡ true
      → joined ≡ take (length kept - 1) kept → line_bytes line ≡ unescaped joined
  unfolding line_bytes
  line_bytes-soft joined sign joined_is =
      let yes : ends_in 61 kept ≡ true = ends_in-suffix 61 kept ∙ sign in
      rw (trimmed_is, yes, joined_is) refl

  pub line_bytes-hard : pointwise nat_eq (drop (length kept - 1) kept) (61 ∷ []) ≡ false → line_bytes line ≡ unescaped kept ++ ending
  unfolding line_bytes
  line_bytes-hard other =
      let no : ends_in 61 kept ≡ false = ends_in-suffix 61 kept ∙ other in
      rw (trimmed_is, no) refl

-- ---- the line of a piece

pub ended_line-cr : (piece content : List ℕ) → pointwise nat_eq (drop (length piece - 1) piece) (13 ∷ []) ≡ true
    → content ≡ take (length piece - 1) piece → ended_line piece ≡ record { content = content; ending = cr_lf }
ended_line-cr piece content h content_is =
    let yes : ends_in 13 piece ≡ true = ends_in-suffix 13 piece ∙ h in
    rw (yes, content_is) refl

pub ended_line-lf : (piece : List ℕ) → pointwise nat_eq (drop (length piece - 1) piece) (13 ∷ []) ≡ false
    → ended_line piece ≡ record { content = piece; ending = lf }
ended_line-lf piece h =
    let no : ends_in 13 piece ≡ false = ends_in-suffix 13 piece ∙ h in
    rw no refl

-- ---- a text by its first LF

abbrev pub is_lf : ℕ → Bool
is_lf b = b == 10

onto_first_some : (x : ℕ) (xss : List (List ℕ)) → (first : List ℕ) × (others : List (List ℕ)) × (onto_first x xss ≡ first ∷ others)
onto_first_some x [] = (x ∷ [], [], refl)
onto_first_some x (first ∷ others) = (x ∷ first, others, refl)

-- there is a first piece
pub split_some : (text : List ℕ) → (first : List ℕ) × (others : List (List ℕ)) × (slice_split is_lf text ≡ first ∷ others)
split_some [] = ([], [], refl)
split_some (x ∷ text) = elim (cases_Bool (is_lf x)) [
  | inl is ↦ ([], slice_split is_lf text, rw is refl)
  | inr other ↦
      let more = onto_first_some x (slice_split is_lf text) in
      (more.0, more.1, rw other more.2)
]

pub quoted_printable-nil : quoted_printable [] ≡ []
unfolding quoted_printable lines_of line_bytes unescaped
quoted_printable-nil = refl

-- at the end of a text nothing is left
pub nothing_left : (text bytes : List ℕ) (at : ℕ) → length text ≤ at → bytes ++ quoted_printable (drop at text) ≡ bytes
nothing_left text bytes at h =
    ap (λ (x : List ℕ). bytes ++ quoted_printable x) (drop_all at text h)
    ∙ ap (λ (x : List ℕ). bytes ++ x) quoted_printable-nil
    ∙ append-nil bytes

-- a text without LF is one line
pub quoted_printable-last : (text : List ℕ) → position_or_len is_lf text ≡ length text
    → quoted_printable text ≡ line_bytes (record { content = text; ending = [] })
unfolding quoted_printable lines_of
quoted_printable-last text h =
    let one : slice_split is_lf text ≡ text ∷ [] =
    slice_split_none is_lf text (λ k d lt. fails_before_first is_lf text k d (omega arith)) in
    ap (λ (pieces : List (List ℕ)). flat_map line_bytes (lines_of_pieces pieces)) one
    ∙ append-nil (line_bytes (record { content = text; ending = [] }))

pub lines_of_more : (piece : List ℕ) (pieces : List (List ℕ)) (first : List ℕ) (others : List (List ℕ)) → pieces ≡ first ∷ others
    → lines_of_pieces (piece ∷ pieces) ≡ ended_line piece ∷ lines_of_pieces pieces
lines_of_more piece pieces first others e = rw e refl

-- a text with an LF is a line and the rest
pub quoted_printable-more : (text : List ℕ) → position_or_len is_lf text < length text
    → quoted_printable text ≡ line_bytes (ended_line (before_first is_lf text)) ++ quoted_printable (after_first is_lf text)
unfolding quoted_printable lines_of
quoted_printable-more text h =
    let split : slice_split is_lf text ≡ before_first is_lf text ∷ slice_split is_lf (after_first is_lf text) =
    slice_split_first is_lf text 0 h in
    let some = split_some (after_first is_lf text) in
    ap (λ (pieces : List (List ℕ)). flat_map line_bytes (lines_of_pieces pieces)) split
    ∙ ap (flat_map line_bytes) (lines_of_more (before_first is_lf text) (slice_split is_lf (after_first is_lf text)) some.0 some.1 some.2)

-- ---- a turn of the loop over lines

module _ (text cur : List ℕ) (at line : ℕ) (within : at ≤ length text)
    (line_is : line ≡ at + first_place (begins is_lf) (drop at text)) where
  abbrev here : ℕ
  here = position_or_len is_lf (drop at text)

  line_there : line ≡ at + here
  line_there = line_is ∙ ap (λ (n : ℕ). at + n) (first_place-begins is_lf (drop at text))

  piece_is : take (line - at) (drop at text) ≡ before_first is_lf (drop at text)
  piece_is = ap (λ (n : ℕ). take n (drop at text)) (omega (arith, line_there))

  rest_is : after_first is_lf (drop at text) ≡ drop (line + 1) text
  rest_is = drop-drop (here + 1) at text ∙ ap (λ (n : ℕ). drop n text) (omega (arith, line_there))

  pub line_read : (next : List ℕ) → line < length text → next ≡ cur ++ line_bytes (ended_line (take (line - at) (drop at text)))
      → cur ++ quoted_printable (drop at text) ≡ next ++ quoted_printable (drop (line + 1) text)
  line_read next lt next_is =
      let short : here < length (drop at text) = omega (arith, line_there, length-drop at text) in
      ap (λ (r : List ℕ). cur ++ r) (quoted_printable-more (drop at text) short)
      ∙ sym (append_assoc cur (line_bytes (ended_line (before_first is_lf (drop at text)))) (quoted_printable (after_first is_lf (drop at text))))
      ∙ ap (λ (r : List ℕ). (cur ++ line_bytes (ended_line r)) ++ quoted_printable (after_first is_lf (drop at text))) (sym piece_is)
      ∙ ap (λ (r : List ℕ). r ++ quoted_printable (after_first is_lf (drop at text))) (sym next_is)
      ∙ ap (λ (r : List ℕ). next ++ quoted_printable r) rest_is

  pub line_last : (next : List ℕ) → line ≡ length text → next ≡ cur ++ line_bytes (record { content = take (line - at) (drop at text); ending = [] })
      → cur ++ quoted_printable (drop at text) ≡ next
  line_last next end next_is =
      let len : here ≡ length (drop at text) = omega (arith, line_there, length-drop at text) in
      let all : take (line - at) (drop at text) ≡ drop at text = take_all (line - at) (drop at text) (omega (arith, length-drop at text)) in
      ap (λ (r : List ℕ). cur ++ r) (quoted_printable-last (drop at text) len)
      ∙ ap (λ (r : List ℕ). cur ++ line_bytes (record { content = r; ending = [] })) (sym all)
      ∙ sym next_is
