use Rattle.std.proofs.Common.{option_map}
use Rattle.mail_extract.specs.Input.{file_line}
use Rattle.mail_extract.specs.SaveViews.{outcome}
use Rattle.mail_extract.proofs.lemmas.Input.{line_is, report_flushed}
use Rattle.mail_extract.proofs.report.report_saved.Goals as goal

pub returns : goal.returns
returns g c =
    let file = option_map (λ name. name.now) c.args.file in
    let saved = c.args.saved.now in
    report_flushed _ _ _ c.in_ok-outcome.outcome _ (file_line file c.args.number (outcome saved))
    (line_is file c.args.number saved.size _ _ _ _ _ _ _ _ c.as_str.ensures.value c.as_deref.ensures.value c.as_deref-2.ensures.value c.as_deref-3.ensures.value) c.in_ok-outcome.ensures c.in_ok-flush.ensures
