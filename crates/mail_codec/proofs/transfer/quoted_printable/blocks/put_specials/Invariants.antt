use Rattle.std.proofs.Common.{◌≡◌, ◌-◌}
use Rattle.mail_codec.specs.private.QuotedPrintable.{IsInBlock}
use Rattle.mail_codec.proofs.transfer.quoted_printable.blocks.put_specials.Given as goal

-- the block is read up to the special bytes that are left
abbrev pub invariant-specials : goal.invariant-specials
invariant-specials l = record {
  begun : l.block.read.from ≡ l.fn.start.read.from;
  block : IsInBlock l.text l.output l.block l.end;
}

abbrev pub decreases-specials : goal.decreases-specials
decreases-specials l = l.end - l.block.next
