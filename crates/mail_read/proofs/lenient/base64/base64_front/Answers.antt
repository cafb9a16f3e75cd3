use Rattle.std.proofs.Common.{sym, ap, ◌∙◌}
use Rattle.std.proofs.lemmas.Result.{IfOk-weaker}
use Rattle.mail_codec.specs.Base64.{items_or_fault}
use Rattle.mail_read.proofs.lemmas.lenient.Base64.{base64_front-ok, base64_front-err}
use Rattle.mail_read.proofs.lenient.base64.base64_front.Goals as goal

pub returns-in-Ok-clause-read : goal.returns-in-Ok-clause-read
returns-in-Ok-clause-read c = sym (base64_front-ok c.args.body.now c.in-Ok.bytes.items (sym c.in_ok-bytes.ensures ∙ ap items_or_fault c.in-Ok.is))

pub returns-in-Err-clause-read : goal.returns-in-Err-clause-read
returns-in-Err-clause-read c =
    IfOk-weaker c.recovered.result _ _ (λ front read. read ∙ base64_front-err c.args.body.now _ (sym (ap items_or_fault c.in-Err.is) ∙ c.in_ok-bytes.ensures))
    c.recovered.ensures
