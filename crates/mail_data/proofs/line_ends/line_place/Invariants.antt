-- A line starts at the place that the search has come to, and no line before it passes the test.
use Rattle.std.proofs.Common.{◌≡◌, ◌≤◌, ◌-◌, ℕ, Bool, true, List, Bor, length}
use Rattle.mail_data.specs.LineEnds.{starts_line}
use Rattle.mail_data.proofs.lemmas.LineEnds.{NoLine}
use Rattle.mail_data.proofs.line_ends.line_place.Given as goal

abbrev pub invariant-lines : goal.invariant-lines
invariant-lines g l = record {
  within : l.at ≤ length l.bytes;
  none : (test : List ℕ → Bool) → ((text : Bor (List ℕ)) (is : Bool) → goal.F-post g l.passes text is → is ≡ test text.now) → NoLine test l.bytes l.at;
  starts : starts_line l.bytes l.at ≡ true;
}

abbrev pub decreases-lines : goal.decreases-lines
decreases-lines g l = length l.bytes - l.at
