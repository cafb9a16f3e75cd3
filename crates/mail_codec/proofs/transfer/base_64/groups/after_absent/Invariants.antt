use Rattle.std.proofs.Common.{◌≡◌, ◌≤◌, ◌-◌, length, drop}
use Rattle.mail_codec.specs.private.Runs.{without_ends}
use Rattle.mail_codec.proofs.transfer.base_64.groups.after_absent.Given as goal

abbrev pub invariant-absent : goal.invariant-absent
invariant-absent l = record {
  after : l.at ≤ l.place;
  within : l.place ≤ length l.text;
  passed : without_ends l.absent (drop l.at l.text) ≡ without_ends l.absent (drop l.place l.text);
}

abbrev pub decreases-absent : goal.decreases-absent
decreases-absent l = length l.text - l.place
