use Rattle.mail_codec.proofs.lemmas.Runs.{Kept}
use Rattle.mail_codec.proofs.bytescan.runs.put_few.Given as goal

abbrev pub invariant-loop-byte : goal.invariant-loop-byte
invariant-loop-byte l = Kept l.end l.bytes l.output l.len l.byte-index
