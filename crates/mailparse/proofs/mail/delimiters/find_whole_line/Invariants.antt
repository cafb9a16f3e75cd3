-- None that has its line for itself has_prefix before the place that the search has come to, where a line starts.
use Rattle.std.proofs.Common.{◌≡◌, true, ◌≤◌, ◌-◌, drop, length}
use Rattle.mailparse.specs.Delimiters.{starts_line}
use Rattle.mailparse.proofs.lemmas.Delimiters.{NoWhole}
use Rattle.mailparse.proofs.mail.delimiters.find_whole_line.Given as goal

abbrev pub invariant-delimiters : goal.invariant-delimiters
invariant-delimiters l = record {
  low : l.start ≤ l.from;
  within : l.from ≤ length l.raw;
  starts : starts_line l.raw l.start l.from ≡ true;
  none : NoWhole (drop 1 l.line_delimiter) l.raw l.start l.from;
}

abbrev pub decreases-delimiters : goal.decreases-delimiters
decreases-delimiters l = length l.raw - l.from
