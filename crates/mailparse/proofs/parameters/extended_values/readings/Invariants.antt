-- The values of the names so far are read, where their labels are known.
use Rattle.std.proofs.Common.{◌≡◌, ◌≤◌, ◌-◌, ◌&&◌, ℕ, List, length, map, take, is_some}
use Rattle.std.specs.List.{All}
use Rattle.mailparse.specs.Pairs.{text_at}
use Rattle.mailparse.specs.ExtendedValues.{reading_of}
use Rattle.mailparse.specs.private.ExtendedValues.{IsReading, names_of, names_read, reading_view}
use Rattle.mailparse.specs.private.Filled.{holds_name}
use Rattle.mailparse.proofs.parameters.extended_values.readings.Given as goal

abbrev pub invariant-loop-place : goal.invariant-loop-place
invariant-loop-place g l = record {
  bound : l.place ≤ length l.extended.items;
  each : All (IsReading (g.K.KnownCharsets.known l.known) (text_at l.pairs)) (map (reading_view g.K.Decoder.Decode.text) l.found.items);
  names : (q : List ℕ) → holds_name (names_read l.found.items) q ≡ (holds_name (take l.place (names_of l.extended.items)) q && is_some (reading_of (g.K.KnownCharsets.known l.known) (text_at l.pairs) q));
}

abbrev pub decreases-loop-place : goal.decreases-loop-place
decreases-loop-place g l = length l.extended.items - l.place
