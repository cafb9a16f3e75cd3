use Rattle.std.proofs.Common.{◌∙◌, List, ap, inl, inr, map, ⊎_elim}
use Rattle.mail_check.specs.FindingViews.{finding_view}
use Rattle.mail_check.specs.Reading.{mail_findings}
use Rattle.mail_check.specs.declared.listing.Finding.{Finding}
use Rattle.mail_records.specs.Findings.{findings_listed}
use Rattle.mail_records.specs.Results.{no_limit}
use Rattle.mail_records.proofs.lemmas.Records.{refused_code}
use Rattle.mail_records.proofs.lemmas.Findings.{findings_are, findings_refused}
use Rattle.mail_records.proofs.findings.findings.Goals as goal

pub returns-in-Err : goal.returns-in-Err
returns-in-Err g c =
    let known = g.K.KnownCharsets.known c.args.known.now in
    let raw = c.args.raw.now in
    ⊎_elim (λ memory. inl memory) (λ refused. inr (findings_refused known raw _ refused))
    (refused_code c.in-Err.error (mail_findings known no_limit raw) _ c.in-Err.ensures c.code_of.ensures)

pub returns-in-Ok-records_of : goal.returns-in-Ok-records_of
returns-in-Ok-records_of g c =
    findings_are (g.K.KnownCharsets.known c.args.known.now) c.args.raw.now (map finding_view c.in-Ok.found.items) _ c.in-Ok.ensures
    (c.in-Ok-records_of.ensures ∙ ap (λ (fs : List Finding). findings_listed (map finding_view fs)) c.as_slice.ensures.value)
