-- The lines that the function finds are the lines of the text, and no others are.
use Rattle.std.proofs.Common.{◌≡◌, ◌≢◌, ℕ, suc, ◌-◌, true, false, List, [], ◌∷◌, ◌++◌, length, take, refl, sym, ap, ◌∙◌, arith, inl, inr, ◌↔◌, All}
use Rattle.std.specs.List.{flat_map, slice_split, onto_first, join_with_byte}
use Rattle.std.proofs.lemmas.Bool.{cases_Bool, eqb-true, eqb-false, ne_eqb}
use Rattle.std.proofs.lemmas.List.{append-nil, append_assoc}
use Rattle.std.proofs.lemmas.List.Elements.{All-nil, All-cons, All-head, All-tail, All-take, All-push, All-weaker}
use Rattle.std.proofs.lemmas.List.Splits.{slice_split_none, slice_split_at, join_with_byte-slice_split}
use Rattle.mail_codec.specs.QuotedPrintable.{Line, ends_in, without_last, lf, cr_lf, IsEndedLine, IsLastLine, AreEnded, AreLines, IsQuotedPrintable, ended_line, lines_of_pieces, lines_of, line_bytes, quoted_printable}
use Rattle.mail_codec.proofs.lemmas.QuotedPrintableLines.{ends_in-push, without_last-push, is_lf, split_some, lines_of_more}

abbrev HasNoLf : List ℕ → Type 0
HasNoLf bytes = All (λ b. b ≢ 10) bytes

abbrev whole : Line → List ℕ
whole line = line.content ++ line.ending

no_lf : (bytes : List ℕ) → HasNoLf bytes → All (λ b. is_lf b ≡ false) bytes
no_lf bytes h = All-weaker (λ b. b ≢ 10) (λ b. is_lf b ≡ false) (λ b. ne_eqb b 10) bytes h

-- ---- the last byte

push-without_last : (c : ℕ) (xs : List ℕ) → ends_in c xs ≡ true → xs ≡ without_last xs ++ c ∷ []
push-without_last c [] h = cc h
push-without_last c (x ∷ []) h = ap (λ (b : ℕ). b ∷ []) (eqb-true x c h)
push-without_last c (x ∷ y ∷ xs) h =
    let e : suc (suc (length xs)) - 1 ≡ suc (suc (length xs) - 1) = omega arith in
    ap (λ (r : List ℕ). x ∷ r) (push-without_last c (y ∷ xs) h)
    ∙ ap (λ (n : ℕ). take n (x ∷ y ∷ xs) ++ c ∷ []) (sym e)

-- ---- the function's lines are lines

abbrev HaveNoLf : List (List ℕ) → Type 0
HaveNoLf pieces = All (λ (p : List ℕ). HasNoLf p) pieces

onto_first-no_lf : (b : ℕ) (first : List ℕ) (others : List (List ℕ)) → b ≢ 10 → HaveNoLf (first ∷ others) → HaveNoLf (onto_first b (first ∷ others))
onto_first-no_lf b first others h are =
    All-cons (λ (p : List ℕ). HasNoLf p) (b ∷ first) others
    (All-cons (λ b. b ≢ 10) b first h (All-head (λ (p : List ℕ). HasNoLf p) first others are))
    (All-tail (λ (p : List ℕ). HasNoLf p) first others are)

split_no_lf : (text : List ℕ) → HaveNoLf (slice_split is_lf text)
split_no_lf [] = All-cons (λ (p : List ℕ). HasNoLf p) [] [] (All-nil (λ b. b ≢ 10)) (All-nil (λ (p : List ℕ). HasNoLf p))
split_no_lf (b ∷ text) = elim (cases_Bool (is_lf b)) [
  | inl is ↦
      let tail : HaveNoLf ([] ∷ slice_split is_lf text) =
      All-cons (λ (p : List ℕ). HasNoLf p) [] (slice_split is_lf text) (All-nil (λ b. b ≢ 10)) (split_no_lf text) in
      rw is tail
  | inr other ↦
      let some = split_some text in
      let here : HaveNoLf (onto_first b (some.0 ∷ some.1)) =
      onto_first-no_lf b some.0 some.1 (eqb-false b 10 other) (rw some.2 at (split_no_lf text)) in
      rw (other, some.2) here
]

IsEndedLine-piece : (piece : List ℕ) → HasNoLf piece → IsEndedLine (ended_line piece)
IsEndedLine-piece piece h = elim (cases_Bool (ends_in 13 piece)) [
  | inl cr ↦
      let is : IsEndedLine (record { content = without_last piece; ending = cr_lf }) = (All-take (λ b. b ≢ 10) (length piece - 1) piece h, inl refl) in
      rw cr is
  | inr other ↦
      let is : IsEndedLine (record { content = piece; ending = lf }) = (h, inr (refl, other)) in
      rw other is
]

AreEnded-pieces : (piece : List ℕ) (pieces : List (List ℕ)) → HaveNoLf (piece ∷ pieces) → AreEnded (lines_of_pieces (piece ∷ pieces))
AreEnded-pieces piece [] h = (All-head (λ (p : List ℕ). HasNoLf p) piece [] h, refl)
AreEnded-pieces piece (next ∷ []) h = (
  IsEndedLine-piece piece (All-head (λ (p : List ℕ). HasNoLf p) piece (next ∷ []) h),
  AreEnded-pieces next [] (All-tail (λ (p : List ℕ). HasNoLf p) piece (next ∷ []) h),
)
AreEnded-pieces piece (next ∷ more ∷ pieces) h = (
  IsEndedLine-piece piece (All-head (λ (p : List ℕ). HasNoLf p) piece (next ∷ more ∷ pieces) h),
  AreEnded-pieces next (more ∷ pieces) (All-tail (λ (p : List ℕ). HasNoLf p) piece (next ∷ more ∷ pieces) h),
)

whole-ended_line : (piece : List ℕ) → whole (ended_line piece) ≡ piece ++ 10 ∷ []
whole-ended_line piece = elim (cases_Bool (ends_in 13 piece)) [
  | inl cr ↦
      let e : without_last piece ++ cr_lf ≡ piece ++ 10 ∷ [] =
      sym (append_assoc (without_last piece) (13 ∷ []) (10 ∷ [])) ∙ ap (λ (r : List ℕ). r ++ 10 ∷ []) (sym (push-without_last 13 piece cr)) in
      rw cr e
  | inr other ↦ rw other refl
]

wholes : (piece : List ℕ) (pieces : List (List ℕ)) → flat_map whole (lines_of_pieces (piece ∷ pieces)) ≡ join_with_byte 10 (piece ∷ pieces)
wholes piece [] = append-nil (piece ++ []) ∙ append-nil piece
wholes piece (next ∷ pieces) =
    ap (λ (r : List ℕ). r ++ flat_map whole (lines_of_pieces (next ∷ pieces))) (whole-ended_line piece)
    ∙ ap (λ (r : List ℕ). (piece ++ 10 ∷ []) ++ r) (wholes next pieces)
    ∙ append_assoc piece (10 ∷ []) (join_with_byte 10 (next ∷ pieces))

lines_of-are : (text : List ℕ) → AreLines text (lines_of text)
unfolding lines_of
lines_of-are text =
    let some = split_some text in
    let ended : AreEnded (lines_of_pieces (some.0 ∷ some.1)) = AreEnded-pieces some.0 some.1 (rw some.2 at (split_no_lf text)) in
    let joined : flat_map whole (lines_of_pieces (slice_split is_lf text)) ≡ text =
    ap (λ (pieces : List (List ℕ)). flat_map whole (lines_of_pieces pieces)) some.2
    ∙ wholes some.0 some.1 ∙ ap (join_with_byte 10) (sym some.2) ∙ join_with_byte-slice_split 10 text in
    (rw some.2 ended, sym joined)

-- ---- and no others are

lines_of-more : (piece rest : List ℕ) → HasNoLf piece → lines_of (piece ++ 10 ∷ rest) ≡ ended_line piece ∷ lines_of rest
unfolding lines_of
lines_of-more piece rest h =
    let split : slice_split is_lf (piece ++ 10 ∷ rest) ≡ piece ∷ slice_split is_lf rest =
    slice_split_at is_lf piece 10 rest (no_lf piece h) refl in
    let some = split_some rest in
    ap lines_of_pieces split ∙ lines_of_more piece (slice_split is_lf rest) some.0 some.1 some.2

-- the piece that an ended line comes from
line_of_piece : (line : Line) → IsEndedLine line → (piece : List ℕ) × HasNoLf piece × (whole line ≡ piece ++ 10 ∷ []) × (line ≡ ended_line piece)
line_of_piece line h = elim h.1 [
  | inl cr ↦
      let piece : List ℕ = line.content ++ 13 ∷ [] in
      let same : ended_line piece ≡ record { content = line.content; ending = cr_lf } =
      rw (ends_in-push 13 line.content, without_last-push 13 line.content) refl in (
        piece,
        All-push (λ b. b ≢ 10) line.content 13 h.0 (λ e. cc e),
        ap (λ (r : List ℕ). line.content ++ r) cr ∙ sym (append_assoc line.content (13 ∷ []) (10 ∷ [])),
        ap (λ (r : List ℕ). record { content = line.content; ending = r }) cr ∙ sym same,
      )
  | inr only ↦
      let same : ended_line line.content ≡ record { content = line.content; ending = lf } = rw only.1 refl in (
        line.content,
        h.0,
        ap (λ (r : List ℕ). line.content ++ r) only.0,
        ap (λ (r : List ℕ). record { content = line.content; ending = r }) only.0 ∙ sym same,
      )
]

lines_of-last : (line : Line) → IsLastLine line → lines_of (whole line ++ []) ≡ line ∷ []
unfolding lines_of
lines_of-last line h =
    let text : whole line ++ [] ≡ line.content = append-nil (whole line) ∙ ap (λ (r : List ℕ). line.content ++ r) h.1 ∙ append-nil line.content in
    let one : slice_split is_lf line.content ≡ line.content ∷ [] = slice_split_none is_lf line.content (no_lf line.content h.0) in
    ap (λ (t : List ℕ). lines_of_pieces (slice_split is_lf t)) text
    ∙ ap lines_of_pieces one
    ∙ ap (λ (r : List ℕ). record { content = line.content; ending = r } ∷ []) (sym h.1)

lines_of-whole : (lines : List Line) → AreEnded lines → lines_of (flat_map whole lines) ≡ lines
lines_of-whole [] h = absurd h
lines_of-whole (line ∷ []) h = lines_of-last line h
lines_of-whole (line ∷ next ∷ lines) h =
    let from = line_of_piece line h.0 in
    let rest : List ℕ = flat_map whole (next ∷ lines) in
    ap (λ (r : List ℕ). lines_of (r ++ rest)) from.2
    ∙ ap lines_of (append_assoc from.0 (10 ∷ []) rest)
    ∙ lines_of-more from.0 rest from.1
    ∙ ap (λ (l : Line). l ∷ lines_of rest) (sym from.3)
    ∙ ap (λ (ls : List Line). line ∷ ls) (lines_of-whole (next ∷ lines) h.1)

pub lines_once : (text : List ℕ) (lines : List Line) → AreLines text lines ↔ (lines ≡ lines_of text)
lines_once text lines = (
  λ are. sym (ap lines_of are.1 ∙ lines_of-whole lines are.0),
  λ e. rw e (lines_of-are text),
)

pub quoted_printable_reads : (text bytes : List ℕ) → IsQuotedPrintable text bytes ↔ (bytes ≡ quoted_printable text)
unfolding quoted_printable
quoted_printable_reads text bytes = (
  λ is. is.2 ∙ ap (flat_map line_bytes) ((lines_once text is.0).0 is.1),
  λ e. (lines_of text, lines_of-are text, e),
)
