-- The findings so far, and those that are left.
use Rattle.std.proofs.Common.{◌≡◌, List, ◌++◌, map, drop}
use Rattle.mail_check.specs.Findings.{Finding}
use Rattle.mail_check.specs.FindingViews.{finding_view}
use Rattle.mail_records.specs.Findings.{finding_record, finding_text}
use Rattle.mail_records.specs.Rows.{ListsRows}
use Rattle.mail_records.proofs.findings.push_findings.Given as goal

abbrev pub invariant-loop-finding : goal.invariant-loop-finding
invariant-loop-finding l =
    (done : List Finding) × (done ++ map finding_view (drop l.finding-index l.findings) ≡ map finding_view l.findings)
    × ListsRows finding_record finding_text done l.initial.found l.found
