use Rattle.std.proofs.Common.{◌≤◌, ◌+◌, ◌*◌, ◌-◌, length, take, drop}
use Rattle.mail_codec.specs.private.Runs.{without_ends}
use Rattle.mail_codec.proofs.lemmas.Base64Parts.{ReadTo}
use Rattle.mail_codec.proofs.transfer.base_64.groups.put_groups.Given as goal

-- the text reads as the bytes written, and then as the rest
abbrev pub invariant-parts : goal.invariant-parts
invariant-parts l = record {
  within : l.at ≤ length l.text;
  counted : l.from + 4 * l.count ≤ l.at;
  fits : 3 * l.count ≤ length l.output;
  read : ReadTo l.absent l.text (without_ends l.absent (drop l.from l.text)) (take (3 * l.count) l.output) l.count l.at;
}

abbrev pub decreases-parts : goal.decreases-parts
decreases-parts l = length l.text - l.at
