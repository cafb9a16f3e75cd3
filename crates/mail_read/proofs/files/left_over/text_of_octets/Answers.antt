use Rattle.std.proofs.Common.{◌∙◌}
use Rattle.std.proofs.lemmas.Result.{IfOk-weaker}
use Rattle.mail_read.proofs.lemmas.FileTexts.{octets-utf8, octets-other}
use Rattle.mail_read.proofs.files.left_over.text_of_octets.Goals as goal

pub returns-in-Ok : goal.returns-in-Ok
returns-in-Ok c =
    let own = c.in-Ok.ensures.cases.0 ∙ octets-utf8 c.args.bytes.now c.in-Ok.ensures.cases.1 in
    IfOk-weaker c.from_str.result _ _ (λ t copied. copied ∙ own) c.from_str.ensures.ok

pub returns-in-Err : goal.returns-in-Err
returns-in-Err c =
    IfOk-weaker c.decode_without_bom_handling.result _ _ (λ t decoded. decoded ∙ octets-other c.args.bytes.now (λ utf8. c.in-Err.ensures.cases.0 utf8))
    c.decode_without_bom_handling.ensures
