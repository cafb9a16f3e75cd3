-- The value in the rest is the one that is wanted.
use Rattle.std.proofs.Common.{◌≡◌, ◌≤◌, ◌-◌, drop, length}
use Rattle.mail_html.specs.Tags.{value_named}
use Rattle.mail_html.proofs.tags.value_named.Given as goal

abbrev pub invariant-pieces : goal.invariant-pieces
invariant-pieces l = record {
  within : l.at ≤ length l.bytes;
  same : value_named 0 l.name (drop l.at l.bytes) ≡ value_named 0 l.name l.bytes;
}

abbrev pub decreases-pieces : goal.decreases-pieces
decreases-pieces l = length l.bytes - l.at
