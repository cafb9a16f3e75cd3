use Rattle.std.proofs.Common.{sym, ap, ◌∙◌}
use Rattle.std.proofs.lemmas.Result.{IfOk-weaker}
use Rattle.mail_codec.specs.Base64.{items_or_fault}
use Rattle.mail_read.proofs.lemmas.lenient.Base64.{text_front-ok, clean-is, letters-front, strict-err}
use Rattle.mail_read.proofs.lenient.base64.text_front.Goals as goal

pub front_before-requires-clause-clean : goal.front_before-requires-clause-clean
front_before-requires-clause-clean c =
    clean-is c.as_slice.result.now c.in_ok-letters-in-Err.letters.items c.args.text.now c.as_slice.ensures.value c.in_ok-letters-in-Err.ensures

pub front_before-requires-clause-fault : goal.front_before-requires-clause-fault
front_before-requires-clause-fault c =
    strict-err c.args.text.now c.as_slice.result.now c.in-Err.group (sym (ap items_or_fault c.in-Err.is) ∙ c.in_ok-bytes.ensures)
    (c.as_slice.ensures.value ∙ c.in_ok-letters-in-Err.ensures)

pub returns-in-Ok : goal.returns-in-Ok
returns-in-Ok c = sym (text_front-ok c.args.text.now c.in-Ok.bytes.items (sym c.in_ok-bytes.ensures ∙ ap items_or_fault c.in-Ok.is))

pub returns-in_ok-letters-in-Err : goal.returns-in_ok-letters-in-Err
returns-in_ok-letters-in-Err c =
    IfOk-weaker c.front_before.result _ _
    (λ front read. read ∙ letters-front c.args.text.now c.as_slice.result.now (c.as_slice.ensures.value ∙ c.in_ok-letters-in-Err.ensures)) c.front_before.ensures
