use Rattle.std.proofs.Common.{◌≡◌, ◌-◌, ◌≤◌, map}
use Rattle.std.specs.List.{range_with_len}
use Rattle.mail_codec.specs.Utf7.{unit_at}
use Rattle.mail_codec.proofs.charset.utf_7.units.Given as goal

-- the units so far are the first `number` ones
abbrev pub invariant-units : goal.invariant-units
invariant-units l = record {
  few : l.number ≤ l.count;
  made : l.units.items ≡ map (unit_at l.letters) (range_with_len 0 l.number);
}

abbrev pub decreases-units : goal.decreases-units
decreases-units l = l.count - l.number
