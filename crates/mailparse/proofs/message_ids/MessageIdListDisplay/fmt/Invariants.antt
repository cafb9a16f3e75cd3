-- The first id and those before the current one are written.
use Rattle.std.proofs.Common.{◌≡◌, ◌<◌, ◌+◌, take, drop, length, map}
use Rattle.std.specs.Fmt.{HasWritten, IsPlainFormatter}
use Rattle.std.specs.String.{string_bytes}
use Rattle.mailparse.specs.MessageIds.{written_ids}
use Rattle.mailparse.proofs.message_ids.MessageIdListDisplay.fmt.Given as goal

abbrev pub invariant-loop-id : goal.invariant-loop-id
invariant-loop-id g l = record {
  some : 0 < length l.self.0.items;
  others : l.others ≡ drop 1 l.self.0.items;
  written : IsPlainFormatter l.fn.f
      → HasWritten g.W.Write.write_str_gives l.fn.f (written_ids (map string_bytes (take (l.id-index + 1) l.self.0.items))) l.f;
}
