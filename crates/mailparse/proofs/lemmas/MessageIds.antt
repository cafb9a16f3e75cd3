-- Lists of message ids, as they are written and read.
use Rattle.std.proofs.Common.{◌≡◌, ◌≢◌, ℕ, ◌+◌, ◌<◌, true, false, cond, ◌&&◌, eqb, List, [], ◌∷◌, ◌++◌, length, map, take, drop, get_or, Option, Some, None, Ok, Err, refl, sym, ap, ◌∙◌, arith, append_assoc, length-drop, lit<}
use Rattle.std.proofs.lemmas.List.{length-map, length-take, map_push, take_more}
use Rattle.std.proofs.lemmas.Str.{encode_ascii}
use Rattle.std.proofs.lemmas.Grind.{get_or_after_one, put_two}
use Rattle.std.specs.Prelude.{String, bytes_eq, string_bytes, string_eq}
use Rattle.std.specs.Cmp.Lexicographic.{pointwise}
use Rattle.std.specs.Global.{Global}
use Rattle.std.specs.List.{join_with_byte, list_any, slice_split, position_or_len, before_first, after_first}
use Rattle.mailparse.specs.MessageIds.{begins_with_id, id_not_opened, id_of_piece, ids_at_end, ids_of_pieces, is_closing, message_ids, opens_id, with_id, written_id, written_ids}
use Rattle.mailparse.specs.Refusal.{◌>>=◌, Reads}
use Rattle.mailparse.specs.private.MessageIds.{IsCutAtClosing, IsNextId, IsOpenedId}
use Rattle.std.specs.Borrow.{Bor}
use Rattle.std.specs.Option.{MatchOption}
use Rattle.std.specs.Char.{encode_utf8}
use Rattle.std.specs.Str.{trim_start}
use Rattle.std.specs.Str.Pattern.{FindsCharPrefix, StripsPrefix}
use Rattle.std.proofs.lemmas.List.Folds.{list_any_at}
use Rattle.std.proofs.lemmas.List.Splits.{slice_split_first, slice_split_none}
use Rattle.std.proofs.lemmas.Bool.{false_from_ne_true, false≢true, ne_eqb, lt-ltb, le-ltb}
use Rattle.mail_codec.specs.Places.{has_prefix}
use Rattle.mailparse.proofs.lemmas.EncodedWord.{any_from_place, join_next, split_some}

-- ids before those of a text
abbrev pub with_ids : List (List ℕ) → Reads (List (List ℕ)) → Reads (List (List ℕ))
with_ids front ids = do
  others ← ids
  Ok (front ++ others)

-- ---- what is written

-- one id more
pub written_ids-push : (ids : List (List ℕ)) (id : List ℕ) → length ids ≢ 0 → written_ids ids ++ (32 ∷ written_id id) ≡ written_ids (ids ++ id ∷ [])
written_ids-push ids id some =
    let count : length (map written_id ids) ≢ 0 = λ e. some (sym (length-map ids written_id) ∙ e) in
    sym (ap (join_with_byte 32) (map_push written_id ids id) ∙ join_next 32 (map written_id ids) (written_id id) count ∙ append_assoc (join_with_byte 32 (map written_id ids)) (32 ∷ []) (written_id id))

-- the id after those that were taken
pub written_ids-next : (all others : List (String Global)) (x : String Global) (i : ℕ) → others ≡ drop 1 all → i < length others → x ≡ get_or others i x
    → written_ids (map string_bytes (take (i + 1) all)) ++ (32 ∷ written_id (string_bytes x)) ≡ written_ids (map string_bytes (take (i + 1 + 1) all))
written_ids-next all others x i rest lt at =
    let within : i + 1 < length all = omega (arith, ap length rest, length-drop 1 all) in
    let here : x ≡ get_or all (i + 1) x = at ∙ ap (λ xs. get_or xs i x) rest ∙ get_or_after_one all i x ∙ ap (λ k. get_or all k x) (omega arith) in
    let taken : take (i + 1 + 1) all ≡ take (i + 1) all ++ x ∷ [] = take_more all (i + 1) x within ∙ ap (λ y. take (i + 1) all ++ y ∷ []) (sym here) in
    let some : length (map string_bytes (take (i + 1) all)) ≢ 0 = λ e. absurd (omega (arith, e, length-map (take (i + 1) all) string_bytes, length-take (i + 1) all)) in
    written_ids-push (map string_bytes (take (i + 1) all)) (string_bytes x) some
    ∙ ap written_ids (sym (ap (map string_bytes) taken ∙ map_push string_bytes (take (i + 1) all) x))

-- ---- what is read

-- without a `>`
pub split_none : (bytes : List ℕ) → list_any is_closing bytes ≡ false → slice_split is_closing bytes ≡ bytes ∷ []
split_none bytes h = slice_split_none is_closing bytes (λ k d lt. false_from_ne_true _ (λ e. false≢true (sym h ∙ list_any_at is_closing bytes k d lt e)))

-- what `split_once` at a `>` says
pub cut_from_closing : (bytes : List ℕ) (r : Option (Bor (List ℕ) × Bor (List ℕ)))
    → MatchOption r (position_or_len (λ b. eqb b 62) bytes ≡ length bytes)
    (λ x. (position_or_len (λ b. eqb b 62) bytes < length bytes) × (x.0.now ≡ before_first (λ b. eqb b 62) bytes) × (x.1.now ≡ after_first (λ b. eqb b 62) bytes))
    → MatchOption r (slice_split is_closing bytes ≡ bytes ∷ []) (λ p. IsCutAtClosing bytes p.0.now p.1.now)
cut_from_closing bytes None h = split_none bytes (any_from_place is_closing bytes ∙ le-ltb _ _ (omega arith))
cut_from_closing bytes (Some x) h =
    let closed : list_any is_closing bytes ≡ true = any_from_place is_closing bytes ∙ lt-ltb _ _ h.0 in
    record {
      closed = closed;
      before = h.1;
      pieces = slice_split_first is_closing bytes 0 h.0 ∙ ap (λ piece. piece ∷ slice_split is_closing (after_first is_closing bytes)) (sym h.1)
          ∙ ap (λ rest. x.0.now ∷ slice_split is_closing rest) (sym h.2);
      shorter = omega (arith, h.0, ap length h.2, length-drop (position_or_len is_closing bytes + 1) bytes);
    }

-- a text without a `>` ends the list
pub message_ids-end : (text : List ℕ) → slice_split is_closing text ≡ text ∷ [] → message_ids text ≡ ids_at_end text
unfolding message_ids
message_ids-end text h = ap ids_of_pieces h

-- a piece before others
pub pieces_step : (piece : List ℕ) (bytes : List ℕ)
    → ids_of_pieces (piece ∷ slice_split is_closing bytes)
    ≡ cond (opens_id piece) (with_id (id_of_piece piece) (ids_of_pieces (slice_split is_closing bytes))) (Err id_not_opened)
pieces_step piece bytes = go (slice_split is_closing bytes) (split_some is_closing bytes)
  where
    go : (pieces : List (List ℕ)) → pieces ≢ []
        → ids_of_pieces (piece ∷ pieces) ≡ cond (opens_id piece) (with_id (id_of_piece piece) (ids_of_pieces pieces)) (Err id_not_opened)
    go [] some = absurd (some refl)
    go (next ∷ more) some = refl

pub message_ids-refused : (text piece after : List ℕ) → IsCutAtClosing text piece after → opens_id piece ≡ false → message_ids text ≡ Err id_not_opened
unfolding message_ids
message_ids-refused text piece after cut h = ap ids_of_pieces cut.pieces ∙ pieces_step piece after ∙ rw h refl

pub message_ids-next : (text piece after id : List ℕ) → IsCutAtClosing text piece after → IsOpenedId piece id → IsNextId text id after
unfolding message_ids begins_with_id
message_ids-next text piece after id cut opened =
    let opens : opens_id (before_first is_closing text) ≡ true = ap opens_id (sym cut.before) ∙ opened.opens in
    record {
      begins = ap (λ t. t && opens_id (before_first is_closing text)) cut.closed ∙ opens;
      all = ap ids_of_pieces cut.pieces ∙ pieces_step piece after
          ∙ ap (λ t. cond t (with_id (id_of_piece piece) (ids_of_pieces (slice_split is_closing after))) (Err id_not_opened)) opened.opens
          ∙ ap (λ i. with_id i (ids_of_pieces (slice_split is_closing after))) (sym opened.is);
      shorter = cut.shorter;
    }

-- a `<` at the front, or none
pub opens_from_strip : (piece text : List ℕ) (r : Option (Bor (List ℕ))) → text ≡ trim_start piece
    → MatchOption r (FindsCharPrefix 60 text None) (λ x. StripsPrefix (FindsCharPrefix 60) text x.now)
    → MatchOption r (opens_id piece ≡ false) (λ id. IsOpenedId piece id.now)
opens_from_strip piece text None e h = ap (has_prefix (60 ∷ [])) (sym e) ∙ go text h
  where
    go : (text : List ℕ) → ((rest : List ℕ) → text ≢ encode_utf8 60 ++ rest) → has_prefix (60 ∷ []) text ≡ false
    go [] h = refl
    go (b ∷ text) h = ap (λ t. t && true) (ne_eqb 60 b (λ p. h text (ap (λ c. c ∷ text) (sym p) ∙ ap (λ r. r ++ text) (sym (encode_ascii 60 (lit< tt))))))
opens_from_strip piece text (Some x) e h =
    let n = h.0 in
    let front : text ≡ 60 ∷ drop n text = h.1.split ∙ ap (λ r. r ++ drop n text) (encode_ascii 60 (lit< tt)) in
    let one : n ≡ 1 = h.1.ends in
    record {
      opens = ap (has_prefix (60 ∷ [])) (sym e ∙ front);
      is = h.2 ∙ ap (λ k. drop k text) one ∙ ap (drop 1) e;
    }

-- ---- which lists are equal

-- strings are equal if and only if their bytes are
pub same_ids : (a b : List (String Global)) → pointwise string_eq a b ≡ pointwise bytes_eq (map string_bytes a) (map string_bytes b)
same_ids [] [] = refl
same_ids [] (y ∷ b) = refl
same_ids (x ∷ a) [] = refl
same_ids (x ∷ a) (y ∷ b) = ap (λ t. string_eq x y && t) (same_ids a b)

-- the ids as they are written
pub ruleset ids_written = (put_two, written_ids-next)
