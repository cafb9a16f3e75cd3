-- The value so far is the text of the lines so far.
use Rattle.std.proofs.Common.{◌≡◌, eqb, length}
use Rattle.mailparse.specs.Value.{tokens_of_lines}
use Rattle.mailparse.specs.private.Unfolded.{Shows}
use Rattle.mailparse.proofs.lemmas.ValueLines.{trimmed}
use Rattle.mailparse.proofs.header.value.unfolded_value.Given as goal

abbrev pub invariant-loop-line : goal.invariant-loop-line
invariant-loop-line g l = record {
  first : l.is_first ≡ eqb (length l.yielded) 0;
  unfolded : Shows l.initial.unfolded (tokens_of_lines (g.K.KnownCharsets.known l.known) (trimmed l.yielded)) l.unfolded;
}
