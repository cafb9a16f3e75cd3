-- Message ids in any text (RFC 5322, sections 3.6.4 and 4.5.4): each text in angle brackets that has
-- an `@`; the id that a mail gives itself may have none. That a text without brackets may be an id is
-- the crate's own rule.
use Rattle.std.specs.Prelude.{ℕ, Bool, true, false, not, ◌&&◌, ◌||◌, ◌==◌, List, [], ◌∷◌, drop, flat_map, if◌then◌else◌}
use Rattle.std.specs.Char.{is_ascii_whitespace}
use Rattle.std.specs.List.{slice_split, list_any, before_first}
use Rattle.std.specs.Str.{trim}
use Rattle.mail_codec.specs.Ascii.{comma, less_than, quote, semicolon}
use Rattle.mail_codec.specs.Places.{is_empty}
use Rattle.mailparse.specs.MessageIds.{is_closing}
use Rattle.mail_read.specs.lenient.Comments.{without_comments}

-- a `<` opens an id
abbrev pub is_opening : ℕ → Bool
is_opening b = b == less_than

-- `@`
abbrev pub at_sign : ℕ
at_sign = 64

-- a byte is an `@`
abbrev pub is_at : ℕ → Bool
is_at b = b == at_sign

-- a text in brackets is an id: it has an `@` if one is needed, and otherwise it is not empty
abbrev pub is_id : Bool → List ℕ → Bool
is_id true id = list_any is_at id
is_id false id = not (is_empty id)

-- the id at the front of a text without `<`: up to the first `>`, if there is one, without
-- whitespace around it
abbrev pub id_at : Bool → List ℕ → List (List ℕ)
id_at needs_at text =
    let id = trim (before_first is_closing text) in
    if list_any is_closing text && is_id needs_at id then id ∷ [] else []

-- a byte that an id without brackets does not contain: whitespace, `>`, `"`, `,` or `;`
abbrev pub ends_bare_id : ℕ → Bool
ends_bare_id b =
    is_ascii_whitespace b || is_closing b || b == quote || b == comma || b == semicolon

-- the id that a whole text without `<` is: it has an `@`, and no such byte but whitespace around it
unfoldable pub bare_id : List ℕ → List (List ℕ)
bare_id text =
    let id = trim text in
    if list_any is_at id && not (list_any ends_bare_id id) then id ∷ [] else []

-- the ids in a text without its comments: of each piece from a `<` up to the next `<`, or the whole
-- text if it has no `<`
unfoldable pub found_ids : Bool → List ℕ → List (List ℕ)
found_ids needs_at text =
    let kept = without_comments text in
    if list_any is_opening kept
    then flat_map (λ piece. id_at needs_at piece) (drop 1 (slice_split is_opening kept))
    else bare_id kept
