-- There is no delimiter before the offset that the search has reached.
use Rattle.std.proofs.Common.{◌≤◌, ◌-◌, length}
use Rattle.mailparse.proofs.lemmas.Delimiters.{NoDelimiter}
use Rattle.mailparse.proofs.mail.delimiters.find_delimiter_line.Given as goal

abbrev pub invariant-lines : goal.invariant-lines
invariant-lines l = record {
  low : l.start ≤ l.at;
  within : l.at ≤ length l.raw;
  none : NoDelimiter l.dash_boundary l.raw l.start l.at;
}

abbrev pub decreases-lines : goal.decreases-lines
decreases-lines l = length l.raw - l.at
