use Rattle.std.proofs.Common.{◌≡◌, ◌≤◌, ◌*◌, ◌-◌, length, drop}
use Rattle.mail_codec.specs.Base64.{groups_from, prepend}
use Rattle.mail_codec.specs.private.Runs.{without_ends}
use Rattle.mail_codec.proofs.transfer.base_64.decode_base64_without.Given as goal

-- the text reads as the bytes so far, and then as the rest
abbrev pub invariant-buffers : goal.invariant-buffers
invariant-buffers l = record {
  within : l.at ≤ length l.text;
  counted : 4 * l.groups ≤ l.at;
  so_far : groups_from 0 (without_ends l.absent l.text) ≡ prepend l.bytes.items (groups_from l.groups (without_ends l.absent (drop l.at l.text)));
}

abbrev pub decreases-buffers : goal.decreases-buffers
decreases-buffers l = length l.text - l.at
