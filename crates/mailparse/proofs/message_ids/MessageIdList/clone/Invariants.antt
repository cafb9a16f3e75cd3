-- The new ids and those that are left are all ids.
use Rattle.std.proofs.Common.{◌≡◌, ◌++◌, drop, map}
use Rattle.std.specs.String.{string_bytes}
use Rattle.mailparse.proofs.message_ids.MessageIdList.clone.Given as goal

abbrev pub invariant-loop-id : goal.invariant-loop-id
invariant-loop-id l = map string_bytes l.ids.items ++ map string_bytes (drop l.id-index l.id-items) ≡ map string_bytes l.self.0.items
