use Rattle.std.proofs.Common.{option_map, sym, ap, ◌∙◌}
use Rattle.mailparse.specs.Mail.{root}
use Rattle.mailparse.specs.Views.{tree_of}
use Rattle.mail_read.specs.lenient.ContentViews.{content_view}
use Rattle.mail_json.proofs.lemmas.Decoded.{blocks_as, report_other, report_read}
use Rattle.mail_json.proofs.part.report_if.Goals as goal

pub returns-then-not-has_report-clause-read : goal.returns-then-not-has_report-clause-read
returns-then-not-has_report-clause-read g c = λ decodes is.
    report_other (g.K.KnownCharsets.known c.args.known.now) decodes (root (tree_of c.args.part.now)) (sym c.has_report.ensures ∙ c.if-not-has_report.true)

pub returns-clause-read : goal.returns-clause-read
returns-clause-read g c = λ decodes is.
    let known = g.K.KnownCharsets.known c.args.known.now in
    report_read known decodes (root (tree_of c.args.part.now)) (content_view c.in-Some.content) _ (sym c.has_report.ensures ∙ c.if-not-has_report.false)
    (ap (option_map content_view) (sym c.in-Some.is) ∙ is) (c.in_ok-read_blocks.ensures.read ∙ blocks_as known _ _ c.as_slice.ensures.value)
