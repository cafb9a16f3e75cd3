use Rattle.std.proofs.Common.{length, drop, ◌-◌, ◌≡◌, ◌≤◌, ◌++◌}
use Rattle.mail_codec.specs.QuotedPrintable.{quoted_printable}
use Rattle.mail_codec.proofs.transfer.quoted_printable.decode_by_buffers.Given as goal

-- the bytes so far, then those of the rest, are all
abbrev pub invariant-buffers : goal.invariant-buffers
invariant-buffers l = record {
  within : l.at ≤ length l.text;
  so_far : l.bytes.items ++ quoted_printable (drop l.at l.text) ≡ quoted_printable l.text;
}

abbrev pub decreases-buffers : goal.decreases-buffers
decreases-buffers l = length l.text - l.at
