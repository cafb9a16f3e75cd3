-- No word begins before the place.
use Rattle.std.proofs.Common.{◌≤◌, ◌-◌, length}
use Rattle.mail_read.proofs.lemmas.lenient.Values.{IsText}
use Rattle.mail_read.proofs.lenient.values.next_word.Given as goal

abbrev pub invariant-openings : goal.invariant-openings
invariant-openings g l = record {
  within : l.at ≤ length l.bytes;
  text : IsText (g.K.KnownCharsets.known l.known) l.bytes l.at;
}

abbrev pub decreases-openings : goal.decreases-openings
decreases-openings g l = length l.bytes - l.at
