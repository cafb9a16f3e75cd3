use Rattle.std.proofs.Common.{length, ◌-◌}
use Rattle.mail_codec.proofs.lemmas.Runs.{Kept}
use Rattle.mail_codec.proofs.bytescan.runs.put_runs.Given as goal

abbrev pub invariant-vectors : goal.invariant-vectors
invariant-vectors l = Kept l.end l.bytes l.output l.len l.at

abbrev pub decreases-vectors : goal.decreases-vectors
decreases-vectors l = length l.bytes - l.at
