-- The contracts of the private functions of message ids.
use Rattle.std.specs.Prelude.{◌≡◌, ◌<◌, ℕ, true, List, ◌∷◌, length, Option, Some, None}
use Rattle.std.specs.List.{slice_split, list_any, before_first}
use Rattle.std.specs.Borrow.{Bor}
use Rattle.mailparse.specs.MessageIds.{begins_with_id, id_of_piece, ids_at_end, is_closing, message_ids, opens_id, with_id}

-- a text that contains a `>`, and the texts before and after the first
pub record IsCutAtClosing (text piece after : List ℕ) : Type 0 where
  pub closed : list_any is_closing text ≡ true
  pub before : piece ≡ before_first is_closing text
  pub pieces : slice_split is_closing text ≡ piece ∷ slice_split is_closing after
  pub shorter : length after < length text

-- a text that begins with whitespace and a `<`, and the text after these
pub record IsOpenedId (text id : List ℕ) : Type 0 where
  pub opens : opens_id text ≡ true
  pub is : id ≡ id_of_piece text

-- a text that begins with an id, after whitespace, and the text after the id
pub record IsNextId (text id after : List ℕ) : Type 0 where
  pub begins : begins_with_id text ≡ true
  pub all : message_ids text ≡ with_id id (message_ids after)
  pub shorter : length after < length text

-- the same, or there is no `>`
abbrev pub IsNextIdOrNone : List ℕ → Option (Bor (List ℕ) × Bor (List ℕ)) → Type 0
IsNextIdOrNone text None = message_ids text ≡ ids_at_end text
IsNextIdOrNone text (Some p) = IsNextId text p.0.now p.1.now
