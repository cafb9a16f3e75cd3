-- The line so far and that of the rest are the whole line.
use Rattle.std.proofs.Common.{◌≡◌, ◌++◌, false, drop}
use Rattle.mail_read.specs.lenient.Names.{on_one_line}
use Rattle.mail_read.proofs.lenient.names.on_one_line.Given as goal

abbrev pub invariant-loop-byte : goal.invariant-loop-byte
invariant-loop-byte l = l.line.items ++ on_one_line l.has_ended (drop l.byte-index l.bytes) ≡ on_one_line false l.bytes
