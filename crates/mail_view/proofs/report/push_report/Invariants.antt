-- The lines of the findings so far.
use Rattle.std.proofs.Common.{◌≡◌, ◌++◌, map, take}
use Rattle.std.specs.String.{string_bytes}
use Rattle.mail_check.specs.FindingViews.{finding_view}
use Rattle.mail_view.specs.Line.{lines_text}
use Rattle.mail_view.specs.Report.{report_lines}
use Rattle.mail_view.proofs.report.push_report.Given as goal

abbrev pub invariant-loop-finding : goal.invariant-loop-finding
invariant-loop-finding l =
    string_bytes l.shown ≡ string_bytes l.fn.shown ++ lines_text (report_lines l.raw (map finding_view (take l.finding-index l.found)))
