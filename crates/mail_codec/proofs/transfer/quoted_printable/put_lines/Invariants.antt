use Rattle.std.proofs.Common.{length, ◌-◌}
use Rattle.mail_codec.specs.private.QuotedPrintable.{IsReading}
use Rattle.mail_codec.proofs.transfer.quoted_printable.put_lines.Given as goal

-- the bytes up to the last line end or escape, then those of the rest, are all
abbrev pub invariant-specials : goal.invariant-specials
invariant-specials l = IsReading l.text l.from l.output l.len l.plain l.at

abbrev pub decreases-specials : goal.decreases-specials
decreases-specials l = length l.text - l.at
