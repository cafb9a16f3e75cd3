-- The inside of an encoded word.
use Rattle.std.proofs.Common.{◌≡◌, ◌≢◌, ℕ, suc, ◌+◌, ◌<◌, Bool, true, false, cond, eqb, ltb, List, [], ◌∷◌, ◌++◌, length, map, Option, Some, None, refl, sym, ap, ◌∙◌, ⊎_elim, arith, append_assoc, not, ◌||◌}
use Rattle.std.specs.List.{join_with_byte, slice_split, onto_first, list_any, position_or_len, before_first, after_first}
use Rattle.std.proofs.lemmas.Bool.{cond-true, cond-false, lt-ltb, le-ltb, ltb-false, eqb-true, eqb-false, cases_lt}
use Rattle.std.proofs.lemmas.List.{drop_all, map_push, length-map}
use Rattle.std.specs.Borrow.{Bor}
use Rattle.std.specs.Option.{MatchOption, option_and_then}
use Rattle.mail_codec.specs.Charset.{Charsets}
use Rattle.mailparse.specs.EncodedWord.{spaced, encoded_bytes, is_question_mark, has_question_mark, IsCutAtMark, text_of_word, word_text}
use Rattle.mailparse.proofs.lemmas.ValueLines.{more_is_some}

-- ---- a space for each `_`

pub join_first : (c : ℕ) (pieces : List (List ℕ)) (piece : List ℕ) → length pieces ≡ 0 → join_with_byte c (pieces ++ piece ∷ []) ≡ join_with_byte c pieces ++ piece
join_first c [] piece h = refl
join_first c (p ∷ pieces) piece h = absurd (omega arith)

pub join_next : (c : ℕ) (pieces : List (List ℕ)) (piece : List ℕ) → length pieces ≢ 0
    → join_with_byte c (pieces ++ piece ∷ []) ≡ (join_with_byte c pieces ++ c ∷ []) ++ piece
join_next c [] piece h = absurd (h refl)
join_next c (p ∷ []) piece h = sym (append_assoc p (c ∷ []) piece)
join_next c (p ∷ q ∷ pieces) piece h =
    ap (λ r. p ++ (c ∷ r)) (join_next c (q ∷ pieces) piece (λ e. absurd (omega arith)))
    ∙ sym (ap (λ r. r ++ piece) (append_assoc p (c ∷ join_with_byte c (q ∷ pieces)) (c ∷ []))
    ∙ append_assoc p ((c ∷ join_with_byte c (q ∷ pieces)) ++ c ∷ []) piece)

-- a space for the byte, before the pieces of the rest
join_cons : (c b : ℕ) (pieces : List (List ℕ)) → pieces ≢ [] → join_with_byte c (onto_first b pieces) ≡ b ∷ join_with_byte c pieces
join_cons c b [] h = absurd (h refl)
join_cons c b (p ∷ []) h = refl
join_cons c b (p ∷ q ∷ pieces) h = refl

join_empty : (c : ℕ) (pieces : List (List ℕ)) → pieces ≢ [] → join_with_byte c ([] ∷ pieces) ≡ c ∷ join_with_byte c pieces
join_empty c [] h = absurd (h refl)
join_empty c (p ∷ pieces) h = refl

pub split_some : (test : ℕ → Bool) (bytes : List ℕ) → slice_split test bytes ≢ []
split_some test [] e = cc
split_some test (b ∷ bytes) e = go (test b) e
  where
    onto : (pieces : List (List ℕ)) → onto_first b pieces ≢ []
    onto [] e = cc
    onto (p ∷ pieces) e = cc

    go : (t : Bool) → cond t ([] ∷ slice_split test bytes) (onto_first b (slice_split test bytes)) ≢ []
    go true h = cc
    go false h = onto (slice_split test bytes) h

-- the pieces between the `_`, joined by spaces
pub join-spaced : (bytes : List ℕ) → join_with_byte 32 (slice_split (λ b. eqb b 95) bytes) ≡ spaced bytes
join-spaced [] = refl
join-spaced (b ∷ bytes) = go (eqb b 95) (join-spaced bytes)
  where
    go : (t : Bool) → join_with_byte 32 (slice_split (λ b. eqb b 95) bytes) ≡ spaced bytes
        → join_with_byte 32 (cond t ([] ∷ slice_split (λ b. eqb b 95) bytes) (onto_first b (slice_split (λ b. eqb b 95) bytes)))
        ≡ cond t 32 b ∷ spaced bytes
    go true ih = join_empty 32 _ (split_some (λ b. eqb b 95) bytes) ∙ ap (λ r. 32 ∷ r) ih
    go false ih = join_cons 32 b _ (split_some (λ b. eqb b 95) bytes) ∙ ap (λ r. b ∷ r) ih

-- ---- the first question mark

ltb_suc : (m n : ℕ) → ltb m n ≡ ltb (1 + m) (suc n)
ltb_suc m n =
    ⊎_elim (λ h. lt-ltb m n h ∙ sym (lt-ltb (1 + m) (suc n) (omega arith))) (λ h. le-ltb m n h ∙ sym (le-ltb (1 + m) (suc n) (omega arith)))
    (cases_lt m n)

pub any_from_place : (test : ℕ → Bool) (bytes : List ℕ) → list_any test bytes ≡ ltb (position_or_len test bytes) (length bytes)
any_from_place test [] = refl
any_from_place test (b ∷ bytes) = go (test b) refl (any_from_place test bytes)
  where
    go : (t : Bool) → test b ≡ t → list_any test bytes ≡ ltb (position_or_len test bytes) (length bytes)
        → list_any test (b ∷ bytes) ≡ ltb (position_or_len test (b ∷ bytes)) (length (b ∷ bytes))
    go true e ih =
        ap (λ t. t || list_any test bytes) e
        ∙ sym (ap (λ t. ltb (cond (not t) (1 + position_or_len test bytes) 0) (suc (length bytes))) e ∙ lt-ltb 0 (suc (length bytes)) (omega arith))
    go false e ih =
        ap (λ t. t || list_any test bytes) e ∙ ih ∙ ltb_suc (position_or_len test bytes) (length bytes)
        ∙ sym (ap (λ t. ltb (cond (not t) (1 + position_or_len test bytes) 0) (suc (length bytes))) e)

-- what `split_once` at a question mark says
pub cut_from_split : (bytes : List ℕ) (r : Option (Bor (List ℕ) × Bor (List ℕ)))
    → MatchOption r (position_or_len (λ b. eqb b 63) bytes ≡ length bytes)
    (λ x. (position_or_len (λ b. eqb b 63) bytes < length bytes) × (x.0.now ≡ before_first (λ b. eqb b 63) bytes) × (x.1.now ≡ after_first (λ b. eqb b 63) bytes))
    → MatchOption r (has_question_mark bytes ≡ false) (λ p. IsCutAtMark bytes p.0.now p.1.now)
cut_from_split bytes None h = any_from_place is_question_mark bytes ∙ le-ltb _ _ (omega arith)
cut_from_split bytes (Some x) h = record {
  has_mark = any_from_place is_question_mark bytes ∙ lt-ltb _ _ h.0;
  before = h.1;
  after = h.2;
}

-- ---- the text of an inside

-- Under the charsets that are known.
module _ (known : Charsets) where
  -- without a question mark
  pub word_unmarked : (inside : List ℕ) → has_question_mark inside ≡ false → None ≡ word_text known inside
  unfolding word_text
  word_unmarked inside none =
      let past = ltb-false _ _ (sym (any_from_place is_question_mark inside) ∙ none) in
      let nothing : after_first is_question_mark inside ≡ [] = drop_all (position_or_len is_question_mark inside + 1) inside (omega arith) in
      sym (ap (option_and_then (text_of_word known)) (cond-false _ _ _ (ap has_question_mark nothing)))

  -- with one question mark alone
  pub word_half : (inside before rest : List ℕ) → IsCutAtMark inside before rest → has_question_mark rest ≡ false → None ≡ word_text known inside
  unfolding word_text
  word_half inside before rest cut none =
      sym (ap (option_and_then (text_of_word known)) (cond-false _ _ _ (ap has_question_mark (sym cut.after) ∙ none)))

  -- with two: its charset, its encoding and its encoded text
  pub word_parts : (inside label rest encoding encoded : List ℕ) → IsCutAtMark inside label rest → IsCutAtMark rest encoding encoded
      → word_text known inside ≡ text_of_word known (record { charset = label; encoding = encoding; encoded_text = encoded })
  unfolding word_text
  word_parts inside label rest encoding encoded first second =
      let marked : has_question_mark (after_first is_question_mark inside) ≡ true = ap has_question_mark (sym first.after) ∙ second.has_mark in
      ap (option_and_then (text_of_word known)) (cond-true _ _ _ marked)
      ∙ cc

  -- if its label names no charset
  pub word_no_charset : (inside label rest encoding encoded : List ℕ) → IsCutAtMark inside label rest → IsCutAtMark rest encoding encoded
      → known label ≡ None → None ≡ word_text known inside
  word_no_charset inside label rest encoding encoded first second unknown =
      sym (word_parts inside label rest encoding encoded first second
      ∙ ap (option_and_then (λ text. option_and_then (λ bytes. Some (text bytes)) (encoded_bytes encoding encoded))) unknown)

  -- if its encoded text has no bytes
  pub word_no_bytes : (inside label rest encoding encoded : List ℕ) (decode : List ℕ → List ℕ) → IsCutAtMark inside label rest
      → IsCutAtMark rest encoding encoded → known label ≡ Some decode → encoded_bytes encoding encoded ≡ None → None ≡ word_text known inside
  word_no_bytes inside label rest encoding encoded decode first second some none =
      sym (word_parts inside label rest encoding encoded first second
      ∙ ap (option_and_then (λ text. option_and_then (λ bytes. Some (text bytes)) (encoded_bytes encoding encoded))) some
      ∙ ap (option_and_then (λ bytes. Some (decode bytes))) none)

  -- if its label names a charset and its encoded text has bytes
  pub word_whole : (inside label rest encoding encoded bytes text : List ℕ) (decode : List ℕ → List ℕ) → IsCutAtMark inside label rest
      → IsCutAtMark rest encoding encoded → known label ≡ Some decode → encoded_bytes encoding encoded ≡ Some bytes → text ≡ decode bytes
      → Some text ≡ word_text known inside
  word_whole inside label rest encoding encoded bytes text decode first second some has_prefix reads =
      sym (word_parts inside label rest encoding encoded first second
      ∙ ap (option_and_then (λ text. option_and_then (λ bytes. Some (text bytes)) (encoded_bytes encoding encoded))) some
      ∙ ap (option_and_then (λ bytes. Some (decode bytes))) has_prefix
      ∙ ap Some (sym reads))

-- ---- the pieces between the `_`, as a loop joins them

pub first_piece : (items : List (Bor (List ℕ))) (piece : Bor (List ℕ)) (before new : List ℕ) → eqb (length items) 0 ≡ true
    → before ≡ join_with_byte 32 (map (λ p. p.now) items) → new ≡ before ++ piece.now
    → new ≡ join_with_byte 32 (map (λ p. p.now) (items ++ piece ∷ []))
first_piece items piece before new none b e =
    let len = length-map items (λ (p : Bor (List ℕ)). p.now) in
    let zero = eqb-true (length items) 0 none in
    e ∙ ap (λ r. r ++ piece.now) b
    ∙ sym (ap (join_with_byte 32) (map_push (λ (p : Bor (List ℕ)). p.now) items piece)
    ∙ join_first 32 (map (λ p. p.now) items) piece.now (omega arith))

pub next_piece : (items : List (Bor (List ℕ))) (piece : Bor (List ℕ)) (before middle new : List ℕ) → eqb (length items) 0 ≡ false
    → before ≡ join_with_byte 32 (map (λ p. p.now) items) → middle ≡ before ++ 32 ∷ [] → new ≡ middle ++ piece.now
    → new ≡ join_with_byte 32 (map (λ p. p.now) (items ++ piece ∷ []))
next_piece items piece before middle new some b m e =
    let len = length-map items (λ (p : Bor (List ℕ)). p.now) in
    let more = eqb-false (length items) 0 some in
    e ∙ ap (λ r. r ++ piece.now) (m ∙ ap (λ r. r ++ 32 ∷ []) b)
    ∙ sym (ap (join_with_byte 32) (map_push (λ (p : Bor (List ℕ)). p.now) items piece)
    ∙ join_next 32 (map (λ p. p.now) items) piece.now (λ h. more (omega arith)))

pub ruleset spaced_pieces = (more_is_some, first_piece, next_piece)
