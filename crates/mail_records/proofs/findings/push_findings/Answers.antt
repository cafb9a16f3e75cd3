use Rattle.std.proofs.Common.{◌+◌, [], ◌∷◌, map, drop, ap, arith}
use Rattle.mail_check.specs.FindingViews.{finding_view}
use Rattle.mail_read.proofs.lemmas.InnerMails.{drop_next}
use Rattle.mail_records.specs.Findings.{finding_record, finding_text}
use Rattle.mail_records.proofs.lemmas.Rows.{rows-more}
use Rattle.mail_records.proofs.findings.push_findings.Goals as goal

pub loop-finding-preserved : goal.loop-finding-preserved
loop-finding-preserved c =
    let before = c.loop-finding.invariant in
    let item = c.finding-item.result in
    let left = ap (map finding_view) (drop_next c.args.findings.now c.loop-finding.finding-index item (omega arith) c.finding-item.is) in
    rows-more finding_record finding_text c.loop-finding.found c.push_finding.new.found before.0 (finding_view item ∷ []) _ _ _ left before.1 before.2 c.in_ok-push_finding.ensures
