-- A name is repeated among the headers that are left, given those seen, exactly if one is among all.
use Rattle.std.proofs.Common.{◌≡◌, drop, length, map}
use Rattle.mail_check.specs.LineViews.{line_view}
use Rattle.mail_check.specs.private.Singles.{has_repeated, none_yet}
use Rattle.mail_check.proofs.lines.has_repeated.Given as goal

abbrev pub invariant-loop-line : goal.invariant-loop-line
invariant-loop-line l = record {
  whole : length l.seen ≡ 17;
  rest : has_repeated l.seen (map line_view (drop l.line-index l.lines)) ≡ has_repeated none_yet (map line_view l.lines);
}
