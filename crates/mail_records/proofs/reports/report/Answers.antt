use Rattle.std.proofs.Common.{◌≡◌, None, Some, option_map, rules, inl, inr, ⊎_elim}
use Rattle.mailparse.specs.Mail.{root}
use Rattle.mailparse.specs.Views.{tree_of}
use Rattle.mail_read.specs.Reading.{mail_reading}
use Rattle.mail_data.specs.Reports.{report_blocks}
use Rattle.mail_records.specs.Reports.{blocks_read}
use Rattle.mail_records.specs.Results.{no_limit}
use Rattle.mail_records.specs.Rows.{rows_view}
use Rattle.mail_records.proofs.lemmas.Records.{refused_code}
use Rattle.mail_records.proofs.lemmas.Reports.{report_is, report_refused}
use Rattle.mail_records.proofs.reports.report.Goals as goal

pub returns-in-Err : goal.returns-in-Err
returns-in-Err g c =
    let known = g.K.KnownCharsets.known c.args.known.now in
    let raw = c.args.raw.now in
    ⊎_elim (λ memory. inl memory) (λ refused. inr (report_refused known raw _ refused))
    (refused_code c.in-Err.error (mail_reading known no_limit raw) _ c.in-Err.ensures.read c.code_of.ensures)

pub returns-in-Ok-Some : goal.returns-in-Ok-Some
returns-in-Ok-Some g c =
    let known = g.K.KnownCharsets.known c.args.known.now in
    let found : Some (rows_view c.in-Ok-Some.found) ≡ option_map blocks_read (report_blocks known (root (tree_of c.in-Ok.part))) = search rules in
    report_is known c.args.raw.now (tree_of c.in-Ok.part) _ c.in-Ok.ensures.read found

pub returns-in-Ok-None : goal.returns-in-Ok-None
returns-in-Ok-None g c =
    let known = g.K.KnownCharsets.known c.args.known.now in
    let found : None ≡ option_map blocks_read (report_blocks known (root (tree_of c.in-Ok.part))) = search rules in
    inr (report_is known c.args.raw.now (tree_of c.in-Ok.part) None c.in-Ok.ensures.read found)
