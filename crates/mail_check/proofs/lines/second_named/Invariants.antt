-- The second header among those that are left is the second of all.
use Rattle.std.proofs.Common.{◌≡◌, drop, map}
use Rattle.std.specs.Prelude.{filter}
use Rattle.mail_check.specs.LineViews.{line_view}
use Rattle.mail_check.specs.Lines.{is_named, second_named}
use Rattle.mail_check.specs.private.Seconds.{second_after}
use Rattle.mail_check.proofs.lines.second_named.Given as goal

abbrev pub invariant-loop-line : goal.invariant-loop-line
invariant-loop-line l = second_after l.seen (filter (is_named l.name) (map line_view (drop l.line-index l.lines))) ≡ second_named l.name (map line_view l.lines)
