use Rattle.std.proofs.Common.{length, drop, ◌-◌, ◌≡◌, ◌+◌, ◌*◌, ◌<◌, ◌≤◌, ◌++◌, vec_len}
use Rattle.mail_codec.specs.Base64.{groups_from, prepend}
use Rattle.mail_codec.specs.private.Runs.{without_ends}
use Rattle.mail_codec.proofs.transfer.base_64.decode_windows.Given as goal

-- the bytes so far, then the letters that are left over and the rest of the text, give the result
abbrev pub invariant-windows : goal.invariant-windows
invariant-windows l = record {
  within : l.at ≤ length l.text;
  few_left : vec_len l.letters < 4;
  counted : 4 * l.groups + vec_len l.letters ≤ l.at;
  so_far : prepend l.bytes.items (groups_from l.groups (l.letters.items ++ without_ends l.absent (drop l.at l.text)))
      ≡ prepend l.fn.before.items (groups_from l.first (without_ends l.absent (drop l.from l.text)));
}

abbrev pub decreases-windows : goal.decreases-windows
decreases-windows l = length l.text - l.at
