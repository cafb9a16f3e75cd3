-- Lemmas on message ids in any text.
use Rattle.std.proofs.Common.{◌≡◌, ℕ, ◌<◌, Bool, true, false, cond, eqb, List, [], ◌∷◌, ◌++◌, length, drop, Option, Some, None, sym, ap, ◌∙◌, arith}
use Rattle.std.specs.Prelude.{flat_map}
use Rattle.std.specs.List.{list_any, slice_split, position_or_len, before_first, after_first}
use Rattle.std.specs.Borrow.{Bor}
use Rattle.std.specs.Option.{MatchOption}
use Rattle.std.proofs.lemmas.Bool.{le-ltb, lt-ltb}
use Rattle.std.proofs.lemmas.List.Elements.{All-from_get_or}
use Rattle.std.proofs.lemmas.List.Splits.{slice_split_first, slice_split_none}
use Rattle.std.proofs.lemmas.List.Sums.{fails_before_first}
use Rattle.mailparse.proofs.lemmas.EncodedWord.{any_from_place}
use Rattle.mailparse.specs.MessageIds.{is_closing}
use Rattle.mail_read.specs.lenient.Comments.{without_comments}
use Rattle.mail_read.specs.lenient.Ids.{bare_id, found_ids, id_at, is_opening}

-- ---- a text cut at a byte

-- the result of `split_once` at a byte
abbrev pub SplitsAt : ℕ → List ℕ → Option (Bor (List ℕ) × Bor (List ℕ)) → Type 0
SplitsAt byte bytes r =
    MatchOption r (position_or_len (λ b. eqb b byte) bytes ≡ length bytes)
    (λ x. (position_or_len (λ b. eqb b byte) bytes < length bytes) × (x.0.now ≡ before_first (λ b. eqb b byte) bytes) × (x.1.now ≡ after_first (λ b. eqb b byte) bytes))

pub opening-pieces : (bytes : List ℕ) (r : Option (Bor (List ℕ) × Bor (List ℕ))) → SplitsAt 60 bytes r
    → MatchOption r (slice_split is_opening bytes ≡ bytes ∷ []) (λ p. slice_split is_opening bytes ≡ p.0.now ∷ slice_split is_opening p.1.now)
opening-pieces bytes None h =
    slice_split_none is_opening bytes (All-from_get_or (λ b. is_opening b ≡ false) bytes 0 (λ k low. fails_before_first is_opening bytes k 0 (omega arith)))
opening-pieces bytes (Some x) h =
    slice_split_first is_opening bytes 0 h.0
    ∙ ap (λ (piece : List ℕ). piece ∷ slice_split is_opening (after_first is_opening bytes)) (sym h.1)
    ∙ ap (λ (rest : List ℕ). x.0.now ∷ slice_split is_opening rest) (sym h.2)

pub opening-found : (bytes : List ℕ) (r : Option (Bor (List ℕ) × Bor (List ℕ))) → SplitsAt 60 bytes r
    → MatchOption r (list_any is_opening bytes ≡ false) (λ p. list_any is_opening bytes ≡ true)
opening-found bytes None h = any_from_place is_opening bytes ∙ le-ltb _ _ (omega arith)
opening-found bytes (Some x) h = any_from_place is_opening bytes ∙ lt-ltb _ _ h.0

pub closing-none : (bytes : List ℕ) → position_or_len is_closing bytes ≡ length bytes → list_any is_closing bytes ≡ false
closing-none bytes h = any_from_place is_closing bytes ∙ le-ltb _ _ (omega arith)

-- ---- the ids of a text

-- the ids so far, and then those of a text that a `<` opened
abbrev pub ids_with : Bool → List (List ℕ) → List ℕ → List (List ℕ)
ids_with needs ids rest = ids ++ flat_map (id_at needs) (slice_split is_opening rest)

pub ids-none : (needs : Bool) (text kept : List ℕ) (made before : List (List ℕ)) → kept ≡ without_comments text → list_any is_opening kept ≡ false
    → made ≡ before ++ bare_id kept → before ≡ [] → made ≡ found_ids needs text
unfolding found_ids
ids-none needs text kept made before is h adds none =
    adds ∙ ap (λ (i : List (List ℕ)). i ++ bare_id kept) none ∙ ap bare_id is
    ∙ sym (ap (λ (b : Bool). cond b (flat_map (id_at needs) (drop 1 (slice_split is_opening (without_comments text)))) (bare_id (without_comments text)))
    (ap (list_any is_opening) (sym is) ∙ h))

pub ids-start : (needs : Bool) (text kept piece rest : List ℕ) (ids : List (List ℕ)) → kept ≡ without_comments text
    → slice_split is_opening kept ≡ piece ∷ slice_split is_opening rest → list_any is_opening kept ≡ true → ids ≡ [] → ids_with needs ids rest ≡ found_ids needs text
unfolding found_ids
ids-start needs text kept piece rest ids is h opened none =
    ap (λ (i : List (List ℕ)). i ++ flat_map (id_at needs) (slice_split is_opening rest)) none
    ∙ sym (ap (λ (ps : List (List ℕ)). flat_map (id_at needs) (drop 1 ps)) (ap (slice_split is_opening) (sym is) ∙ h))
    ∙ sym (ap (λ (b : Bool). cond b (flat_map (id_at needs) (drop 1 (slice_split is_opening (without_comments text)))) (bare_id (without_comments text)))
    (ap (list_any is_opening) (sym is) ∙ opened))
