-- What a contract sees of a list of message ids.
use Rattle.std.specs.Prelude.{ℕ, List, map, string_bytes}
use Rattle.mailparse.specs.declared.message_ids.MessageIdList.{MessageIdList}

-- the bytes of each id, in order
abbrev pub ids_of : MessageIdList → List (List ℕ)
ids_of list = map string_bytes list.0.items
