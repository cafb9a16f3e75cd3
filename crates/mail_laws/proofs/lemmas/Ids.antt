-- Lists of message ids that are written and read.
use Rattle.std.proofs.Common.{◌≡◌, ℕ, ◌<◌, Bool, true, false, cond, List, [], ◌∷◌, ◌++◌, length, drop, Result, Ok, Err, refl, sym, ap, ◌∙◌, arith, append_assoc, length-take, lit<}
use Rattle.std.specs.Prelude.{All}
use Rattle.std.specs.List.{list_any, slice_split, onto_first, position_or_len, before_first, after_first}
use Rattle.std.specs.Str.{IsUtf8, chars, encode_utf8_all, skip_leading_whitespace, trim_start}
use Rattle.std.proofs.lemmas.Bool.{cond-false, eqb-true, false_from_ne_true, ltb-true, or_parts}
use Rattle.std.proofs.lemmas.List.{get_or-take}
use Rattle.std.proofs.lemmas.List.Elements.{All-cons, All-head, All-tail}
use Rattle.std.proofs.lemmas.List.Folds.{list_any_none}
use Rattle.std.proofs.lemmas.List.Sums.{fails_before_first, passes_at_first, split_at_first}
use Rattle.mail_codec.specs.Places.{is_empty, has_prefix}
use Rattle.std.proofs.lemmas.Str.{IsCharBoundary-before_ascii, IsUtf8-take, chars-encodes, chars-nil, encode_ascii}
use Rattle.mailparse.specs.MessageIds.{id_not_closed, id_not_opened, id_of_piece, ids_of_pieces, is_closing, message_ids, opens_id, with_id, written_ids}
use Rattle.mailparse.specs.Refusal.{Refusal}
use Rattle.mailparse.proofs.lemmas.EncodedWord.{any_from_place}
use Rattle.mailparse.proofs.lemmas.MessageIds.{pieces_step}
use Rattle.mail_laws.specs.Ids.{ContainsNoClosing}
use lib.Utf8.{scalars}

-- a `<` in front is not whitespace, and a space before it is removed
encoded_after : (b : ℕ) (cs : List ℕ) (id : List ℕ) → b < 128 → encode_utf8_all cs ≡ id → encode_utf8_all (b ∷ cs) ≡ b ∷ id
encoded_after b cs id lt e = ap (λ front. front ++ encode_utf8_all cs) (encode_ascii b lt) ∙ ap (λ r. b ∷ r) e

-- characters as they are spelled
trimmed : (cs text : List ℕ) → encode_utf8_all cs ≡ text → scalars cs ≡ true → trim_start text ≡ encode_utf8_all (skip_leading_whitespace cs)
unfolding trim_start
trimmed cs text bytes are = ap (λ k. encode_utf8_all (skip_leading_whitespace k)) (ap chars (sym bytes) ∙ chars-encodes cs are)

-- the front of a text of ids: nothing, or a space
abbrev front : Bool → List ℕ → List ℕ
front true text = 32 ∷ text
front false text = text

opened_both : (s : Bool) (id : List ℕ) → IsUtf8 id → trim_start (front s (60 ∷ id)) ≡ 60 ∷ id
opened_both s id utf8 = by_front s (encoded_after 60 utf8.0 id (lit< tt) utf8.1.1)
  where
    by_front : (s : Bool) → encode_utf8_all (60 ∷ utf8.0) ≡ 60 ∷ id → trim_start (front s (60 ∷ id)) ≡ 60 ∷ id
    by_front true bytes = trimmed (32 ∷ 60 ∷ utf8.0) (32 ∷ 60 ∷ id) (encoded_after 32 (60 ∷ utf8.0) (60 ∷ id) (lit< tt) bytes) utf8.1.0 ∙ bytes
    by_front false bytes = trimmed (60 ∷ utf8.0) (60 ∷ id) bytes utf8.1.0 ∙ bytes

-- a piece up to its `>`
pub split_at : (piece rest : List ℕ) → list_any is_closing piece ≡ false → slice_split is_closing (piece ++ 62 ∷ rest) ≡ piece ∷ slice_split is_closing rest
split_at [] rest h = refl
split_at (b ∷ piece) rest h =
    let parts = or_parts (is_closing b) (list_any is_closing piece) h in
    cond-false _ _ _ parts.0 ∙ ap (onto_first b) (split_at piece rest parts.1)

front_free : (s : Bool) (id : List ℕ) → ContainsNoClosing id → list_any is_closing (front s (60 ∷ id)) ≡ false
front_free true id h = h
front_free false id h = h

front_append : (s : Bool) (id rest : List ℕ) → front s (60 ∷ id) ++ rest ≡ front s (60 ∷ (id ++ rest))
front_append true id rest = refl
front_append false id rest = refl

-- an id without a `>`, and the text after its `>`
one_id : (s : Bool) (id rest : List ℕ) → IsUtf8 id → ContainsNoClosing id
    → ids_of_pieces (slice_split is_closing (front s (60 ∷ (id ++ 62 ∷ rest)))) ≡ with_id id (ids_of_pieces (slice_split is_closing rest))
one_id s id rest utf8 free =
    let trimmed = opened_both s id utf8 in
    let opens : opens_id (front s (60 ∷ id)) ≡ true = ap (has_prefix (60 ∷ [])) trimmed in
    let is : id_of_piece (front s (60 ∷ id)) ≡ id = ap (drop 1) trimmed in
    ap (λ t. ids_of_pieces (slice_split is_closing t)) (sym (front_append s id (62 ∷ rest)))
    ∙ ap ids_of_pieces (split_at (front s (60 ∷ id)) rest (front_free s id free))
    ∙ pieces_step (front s (60 ∷ id)) rest
    ∙ ap (λ t. cond t (with_id (id_of_piece (front s (60 ∷ id))) (ids_of_pieces (slice_split is_closing rest))) (Err id_not_opened)) opens
    ∙ ap (λ i. with_id i (ids_of_pieces (slice_split is_closing rest))) is

-- the text after the first id of a list
abbrev after_id : List (List ℕ) → List ℕ
after_id [] = []
after_id (id ∷ ids) = front true (written_ids (id ∷ ids))

written_first : (id : List ℕ) (ids : List (List ℕ)) → written_ids (id ∷ ids) ≡ 60 ∷ (id ++ 62 ∷ after_id ids)
written_first id [] = refl
written_first id (next ∷ ids) = ap (λ r. 60 ∷ r) (append_assoc id (62 ∷ []) (32 ∷ written_ids (next ∷ ids)))

empty_ends : ids_of_pieces ([] ∷ []) ≡ Ok []
unfolding trim_start
empty_ends = ap (λ k. ending (encode_utf8_all (skip_leading_whitespace k))) chars-nil
  where
    ending : List ℕ → Result (List (List ℕ)) Refusal
    ending trimmed = cond (is_empty trimmed) (Ok []) (cond (has_prefix (60 ∷ []) trimmed) (Err id_not_closed) (Err id_not_opened))

reads_from : (ids : List (List ℕ)) (id : List ℕ) (s : Bool) → All IsUtf8 (id ∷ ids) → All ContainsNoClosing (id ∷ ids)
    → ids_of_pieces (slice_split is_closing (front s (written_ids (id ∷ ids)))) ≡ Ok (id ∷ ids)
reads_from [] id s utf8 free =
    ap (λ t. ids_of_pieces (slice_split is_closing (front s t))) (written_first id [])
    ∙ one_id s id [] (All-head IsUtf8 id [] utf8) (All-head ContainsNoClosing id [] free)
    ∙ ap (with_id id) empty_ends
reads_from (next ∷ ids) id s utf8 free =
    let later = reads_from ids next true (All-tail IsUtf8 id (next ∷ ids) utf8) (All-tail ContainsNoClosing id (next ∷ ids) free) in
    ap (λ t. ids_of_pieces (slice_split is_closing (front s t))) (written_first id (next ∷ ids))
    ∙ one_id s id (after_id (next ∷ ids)) (All-head IsUtf8 id (next ∷ ids) utf8) (All-head ContainsNoClosing id (next ∷ ids) free)
    ∙ ap (with_id id) later

pub reads_back : (ids : List (List ℕ)) → All IsUtf8 ids → All ContainsNoClosing ids → message_ids (written_ids ids) ≡ Ok ids
unfolding message_ids
reads_back [] utf8 free = empty_ends
reads_back (id ∷ ids) utf8 free = reads_from ids id false utf8 free

-- an id with a `>` is cut there
closing_place : (id : List ℕ) → list_any is_closing id ≡ true → position_or_len is_closing id < length id
closing_place id closing = ltb-true _ _ (sym (any_from_place is_closing id) ∙ closing)

parts : (id : List ℕ) → list_any is_closing id ≡ true → before_first is_closing id ++ 62 ∷ after_first is_closing id ≡ id
parts id closing =
    let lt = closing_place id closing in
    let at = eqb-true _ _ (passes_at_first is_closing id 0 lt) in
    sym (split_at_first is_closing id 0 lt ∙ ap (λ c. before_first is_closing id ++ c ∷ after_first is_closing id) at)

free_before : (id : List ℕ) → list_any is_closing (before_first is_closing id) ≡ false
free_before id = list_any_none is_closing (before_first is_closing id) (λ k d low.
    let within : k < position_or_len is_closing id = omega (arith, low, length-take (position_or_len is_closing id) id) in
    ap is_closing (get_or-take (position_or_len is_closing id) id k d within) ∙ fails_before_first is_closing id k d within)

before_utf8 : (id : List ℕ) → IsUtf8 id → list_any is_closing id ≡ true → IsUtf8 (before_first is_closing id)
before_utf8 id utf8 closing =
    let lt = closing_place id closing in
    let at = eqb-true _ _ (passes_at_first is_closing id 0 lt) in
    IsUtf8-take id (position_or_len is_closing id) utf8 (IsCharBoundary-before_ascii id (position_or_len is_closing id) lt (omega (arith, at)))

cut_id : (s : Bool) (id rest : List ℕ) → IsUtf8 id → list_any is_closing id ≡ true
    → ids_of_pieces (slice_split is_closing (front s (60 ∷ (id ++ rest))))
    ≡ with_id (before_first is_closing id) (ids_of_pieces (slice_split is_closing (after_first is_closing id ++ rest)))
cut_id s id rest utf8 closing =
    let whole : id ++ rest ≡ before_first is_closing id ++ 62 ∷ (after_first is_closing id ++ rest) =
    ap (λ t. t ++ rest) (sym (parts id closing)) ∙ append_assoc (before_first is_closing id) (62 ∷ after_first is_closing id) rest in
    ap (λ t. ids_of_pieces (slice_split is_closing (front s (60 ∷ t)))) whole
    ∙ one_id s (before_first is_closing id) (after_first is_closing id ++ rest) (before_utf8 id utf8 closing) (free_before id)

-- an id that reads back contains no `>`
cons_same : (a b : List ℕ) (later : Result (List (List ℕ)) Refusal) (ids : List (List ℕ)) → with_id a later ≡ Ok (b ∷ ids) → (a ≡ b) × (later ≡ Ok ids)
cons_same a b (Err refusal) ids h = absurd (cc)
cons_same a b (Ok found) ids h =
    let all : ◌≡◌ {A = List (List ℕ)} (a ∷ found) (b ∷ ids) = cc in
    ((cc), (cc))

not_cut : (s : Bool) (id : List ℕ) (ids : List (List ℕ)) → IsUtf8 id
    → ids_of_pieces (slice_split is_closing (front s (written_ids (id ∷ ids)))) ≡ Ok (id ∷ ids) → ContainsNoClosing id
not_cut s id ids utf8 h = false_from_ne_true (list_any is_closing id) (λ e.
    let cut = sym (cut_id s id (62 ∷ after_id ids) utf8 e) ∙ sym (ap (λ t. ids_of_pieces (slice_split is_closing (front s t))) (written_first id ids)) ∙ h in
    let same = cons_same (before_first is_closing id) id (ids_of_pieces (slice_split is_closing (after_first is_closing id ++ 62 ∷ after_id ids))) ids cut in
    let lt = closing_place id e in
    omega (arith, ap length same.0, length-take (position_or_len is_closing id) id))

later_same : (s : Bool) (id : List ℕ) (ids : List (List ℕ)) → IsUtf8 id → ContainsNoClosing id
    → ids_of_pieces (slice_split is_closing (front s (written_ids (id ∷ ids)))) ≡ Ok (id ∷ ids) → ids_of_pieces (slice_split is_closing (after_id ids)) ≡ Ok ids
later_same s id ids utf8 free h =
    (cons_same id id (ids_of_pieces (slice_split is_closing (after_id ids))) ids
    (sym (one_id s id (after_id ids) utf8 free) ∙ sym (ap (λ t. ids_of_pieces (slice_split is_closing (front s t))) (written_first id ids)) ∙ h)).1

only_from : (ids : List (List ℕ)) (id : List ℕ) (s : Bool) → All IsUtf8 (id ∷ ids)
    → ids_of_pieces (slice_split is_closing (front s (written_ids (id ∷ ids)))) ≡ Ok (id ∷ ids) → All ContainsNoClosing (id ∷ ids)
only_from [] id s utf8 h = All-cons ContainsNoClosing id [] (not_cut s id [] (All-head IsUtf8 id [] utf8) h) (λ k d lt. absurd (omega arith))
only_from (next ∷ ids) id s utf8 h =
    let first = All-head IsUtf8 id (next ∷ ids) utf8 in
    let free = not_cut s id (next ∷ ids) first h in
    All-cons ContainsNoClosing id (next ∷ ids) free (only_from ids next true (All-tail IsUtf8 id (next ∷ ids) utf8) (later_same s id (next ∷ ids) first free h))

pub reads_only : (ids : List (List ℕ)) → All IsUtf8 ids → message_ids (written_ids ids) ≡ Ok ids → All ContainsNoClosing ids
unfolding message_ids
reads_only [] utf8 h = λ k d lt. absurd (omega arith)
reads_only (id ∷ ids) utf8 h = only_from ids id false utf8 h
