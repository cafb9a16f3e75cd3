-- The ids so far and those of the rest are all ids; once an id was found, the text begins with one.
use Rattle.std.proofs.Common.{◌≡◌, ◌⊎◌, true, map, length}
use Rattle.std.specs.Str.{IsUtf8}
use Rattle.std.specs.String.{string_bytes}
use Rattle.mailparse.specs.MessageIds.{begins_with_id, message_ids}
use Rattle.mailparse.proofs.lemmas.MessageIds.{with_ids}
use Rattle.mailparse.proofs.message_ids.msgidparse.Given as goal

abbrev pub invariant-loop-found : goal.invariant-loop-found
invariant-loop-found l = record {
  utf8 : IsUtf8 l.rest;
  all : with_ids (map string_bytes l.found.items) (message_ids l.rest) ≡ message_ids l.ids;
  first : (begins_with_id l.ids ≡ true) ⊎ (l.rest ≡ l.ids);
}

abbrev pub decreases-loop-found : goal.decreases-loop-found
decreases-loop-found l = length l.rest
