-- Reading a message with a limit on its parts and headers; the project's own terms. Items are messages and headers.
use Rattle.std.specs.Prelude.{ℕ, zero, suc, ◌+◌, nat_lt, Bool, false, List, [], ◌∷◌, length, map, Option, Some, None, is_ok, Ok, Err, if◌then◌else◌}
use Rattle.mailparse.specs.Refusal.{Reads, too_many_items}
use Rattle.mailparse.specs.Block.{HeaderList, read_block}
use Rattle.mailparse.specs.ContentType.{ContentType}
use Rattle.mailparse.specs.Manner.{Manner}
use Rattle.mailparse.specs.Mail.{Tree, cut_of_as, is_digest, read_levels, read_mail_as}
use Rattle.mailparse.specs.Ranges.{slice}

-- a reading in which this many items are met, refused if the limit is lower; `None` is no limit
abbrev pub limited : {A : Type 0} → Option ℕ → ℕ → Reads A → Reads A
limited None met reading = reading
limited (Some most) met reading = if nat_lt most met then Err too_many_items else reading

-- the number of headers of a block, 0 if it is refused
abbrev pub headers_met : Reads HeaderList → ℕ
headers_met (Ok block) = length block.headers
headers_met (Err refusal) = 0

-- the items that are met in some parts, in order, up to the first part that is refused
abbrev pub met_in_each : (List ℕ → Reads Tree) → (List ℕ → ℕ) → List (List ℕ) → ℕ
met_in_each read met [] = 0
met_in_each read met (part ∷ parts) = met part + (if is_ok (read part) then met_in_each read met parts else 0)

-- In this manner.
module _ (manner : Manner) where
  -- the items that are met in the parts of a message with this type whose body starts at i
  abbrev pub met_in_parts : (Bool → List ℕ → Reads Tree) → (Bool → List ℕ → ℕ) → List ℕ → ℕ → ContentType → ℕ
  met_in_parts read met bytes i ctype =
      met_in_each (read (is_digest ctype)) (met (is_digest ctype)) (map (slice bytes) (cut_of_as manner.whole_lines ctype bytes i).parts)

  -- those after the headers of a message with this block, if it is not refused
  abbrev pub met_after : (Bool → List ℕ → Reads Tree) → (Bool → List ℕ → ℕ) → Bool → List ℕ → Reads HeaderList → ℕ
  met_after read met in_digest bytes (Err refusal) = 0
  met_after read met in_digest bytes (Ok block) = met_in_parts read met bytes block.index (manner.type_of in_digest block.headers)

  -- the items that are met in reading a message with at most `levels` levels, up to the first refusal: the message itself, its
  -- headers, and those of its parts
  unfoldable pub items_met : ℕ → Bool → List ℕ → ℕ
  items_met zero in_digest bytes = 1
  items_met (suc levels) in_digest bytes =
      1 + (headers_met (read_block manner.lenient_headers bytes)
      + met_after (read_levels manner levels) (items_met levels) in_digest bytes (read_block manner.lenient_headers bytes))

  -- the message in the bytes, refused if more than `most` items are met before any other refusal
  unfoldable pub read_mail_within : ℕ → ℕ → List ℕ → Reads Tree
  read_mail_within greatest most bytes = limited (Some most) (items_met (suc greatest) false bytes) (read_mail_as manner greatest bytes)
