-- The ids that place a mail in a thread: its own, and those of the mails that precede it (RFC 5322,
-- section 3.6.4).
use Rattle.std.specs.Prelude.{ℕ, Bool, true, false, not, List, [], ◌∷◌, ◌++◌, filter, Option, Some, None, codes}
use Rattle.std.specs.Option.{option_map_or}
use Rattle.std.specs.Str.{bytes_eq}
use Rattle.mailparse.specs.Mail.{Node}
use Rattle.mailparse.specs.Map.{first_value_in}
use Rattle.mailparse.specs.Header.{Header}
use Rattle.mail_read.specs.Files.{no_charsets}
use Rattle.mail_read.specs.lenient.Ids.{found_ids}

-- the first of some ids
abbrev pub first_id : List (List ℕ) → Option (List ℕ)
first_id [] = None
first_id (id ∷ ids) = Some id

-- a list without repeats: its first id, and then the others without that one
abbrev pub without_repeats : List (List ℕ) → List (List ℕ)
without_repeats [] = []
without_repeats (id ∷ ids) = id ∷ filter (λ other. not (bytes_eq id other)) (without_repeats ids)

-- the ids in the first header with this name; its value is unfolded and no encoded word in it is
-- decoded, since an id contains none (RFC 2047, section 5)
unfoldable pub ids_of : Bool → List ℕ → List Header → List (List ℕ)
ids_of needs_at name headers =
    option_map_or (found_ids needs_at) (first_value_in no_charsets name headers) []

-- the id of a mail with these headers: the first in its `Message-ID`, with or without an `@`
unfoldable pub id_among : List Header → Option (List ℕ)
id_among headers = first_id (ids_of false (codes "Message-ID") headers)

abbrev pub message_id : Node → Option (List ℕ)
message_id node = id_among node.headers

-- the mails that precede a mail: the ids in its `References`, then those in its `In-Reply-To`, each
-- once
unfoldable pub parents : Node → List (List ℕ)
parents node =
    without_repeats
    (ids_of true (codes "References") node.headers ++ ids_of true (codes "In-Reply-To") node.headers)
