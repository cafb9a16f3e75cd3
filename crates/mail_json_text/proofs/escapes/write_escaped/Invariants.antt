-- What was written is completed by the text of the bytes that are left.
use Rattle.std.proofs.Common.{length, ◌-◌, ◌≤◌}
use Rattle.mail_json_text.proofs.lemmas.Escaped.{WroteEscaped}
use Rattle.mail_json_text.proofs.escapes.write_escaped.Given as goal

abbrev pub invariant-runs : goal.invariant-runs
invariant-runs g l = record {
  within : l.at ≤ length l.bytes;
  wrote : WroteEscaped (g.W.Write.contents l.initial.out) (g.W.Write.contents l.out) l.bytes l.at;
}

abbrev pub decreases-runs : goal.decreases-runs
decreases-runs g l = length l.bytes - l.at
