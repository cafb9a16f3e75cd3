use Rattle.std.proofs.Common.{◌≡◌, ◌-◌, length}
use Rattle.mail_codec.specs.private.QuotedPrintable.{IsReading}
use Rattle.mail_codec.proofs.transfer.quoted_printable.blocks.put_blocks.Given as goal

-- the blocks so far are read
abbrev pub invariant-whole : goal.invariant-whole
invariant-whole l = record {
  begun : l.read.from ≡ l.from;
  reading : IsReading l.text l.read.from l.output l.read.len l.read.plain l.read.at;
}

abbrev pub decreases-whole : goal.decreases-whole
decreases-whole l = length l.text - l.read.at
