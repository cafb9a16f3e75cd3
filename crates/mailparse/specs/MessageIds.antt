-- Lists of message ids: the identification fields of RFC 5322, section 3.6.4, where an id is any text within angle brackets.
use Rattle.std.specs.Prelude.{ℕ, Bool, ◌&&◌, ◌==◌, List, [], ◌∷◌, ◌++◌, map, drop, Ok, Err, codes, if◌then◌else◌}
use Rattle.std.specs.List.{slice_split, join_with_byte, list_any, before_first}
use Rattle.std.specs.Str.{trim_start}
use Rattle.mail_codec.specs.Ascii.{space, less_than, greater_than}
use Rattle.mail_codec.specs.Places.{is_empty, has_prefix}
use Rattle.mailparse.specs.Refusal.{◌>>=◌, Reads, Refusal, generic}

-- no `<` where an id is expected
abbrev pub id_not_opened : Refusal
id_not_opened = generic (codes "Message IDs must start with <")

-- no `>` after a `<`
abbrev pub id_not_closed : Refusal
id_not_closed = generic (codes "Message IDs must end with >")

-- a `>` closes an id
abbrev pub is_closing : ℕ → Bool
is_closing b = b == greater_than

-- whether bytes begin with an id's `<`, after whitespace
abbrev pub opens_id : List ℕ → Bool
opens_id bytes = has_prefix (codes "<") (trim_start bytes)

-- the id of a piece that ends at a `>`: the text after whitespace and a `<`
abbrev pub id_of_piece : List ℕ → List ℕ
id_of_piece piece = drop 1 (trim_start piece)

-- the ids after one more at the front
abbrev pub with_id : List ℕ → Reads (List (List ℕ)) → Reads (List (List ℕ))
with_id id ids = do
  others ← ids
  Ok (id ∷ others)

-- the text after the last `>`: no ids if it is whitespace, otherwise a refusal
abbrev pub ids_at_end : List ℕ → Reads (List (List ℕ))
ids_at_end bytes =
    if is_empty (trim_start bytes) then Ok [] else
    if opens_id bytes then Err id_not_closed else Err id_not_opened

-- the ids of the pieces of a text between its `>`: each but the last is whitespace, `<` and an id, and the last is whitespace alone
abbrev pub ids_of_pieces : List (List ℕ) → Reads (List (List ℕ))
ids_of_pieces [] = Ok []
ids_of_pieces (last ∷ []) = ids_at_end last
ids_of_pieces (piece ∷ next ∷ more) =
    if opens_id piece then with_id (id_of_piece piece) (ids_of_pieces (next ∷ more)) else Err id_not_opened

-- the ids of a text, or the refusal of the first piece that is not of this form
unfoldable pub message_ids : List ℕ → Reads (List (List ℕ))
message_ids text = ids_of_pieces (slice_split is_closing text)

-- the text begins with a complete id, after whitespace
unfoldable pub begins_with_id : List ℕ → Bool
begins_with_id text = list_any is_closing text && opens_id (before_first is_closing text)

-- an id as it is written in mail
abbrev pub written_id : List ℕ → List ℕ
written_id id = less_than ∷ id ++ (greater_than ∷ [])

-- the text of a list of ids, with one space between ids
abbrev pub written_ids : List (List ℕ) → List ℕ
written_ids ids = join_with_byte space (map written_id ids)
