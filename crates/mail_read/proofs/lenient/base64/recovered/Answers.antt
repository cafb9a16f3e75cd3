use Rattle.std.proofs.Common.{◌-◌, ap, ◌∙◌, arith}
use Rattle.mail_read.specs.lenient.Base64.{data_of, text_front}
use Rattle.mail_read.specs.lenient.Base64Views.{front_of}
use Rattle.mail_read.proofs.lemmas.lenient.Base64.{recovered-is}
use Rattle.mail_read.proofs.lenient.base64.recovered.Goals as goal

pub returns : goal.returns
returns c =
    let text = c.in_ok-text.text.items in
    let kept = c.in_ok-kept.kept.items in
    recovered-is c.args.body.now text kept (front_of c.in_ok-front.front) (c.len.result - c.len-2.result) c.in_ok-text.ensures
    (c.in_ok-kept.ensures.read ∙ ap data_of c.as_slice.ensures.value) (c.in_ok-front.ensures ∙ ap text_front c.as_slice-2.ensures.value)
    (omega (arith, c.len.ensures, c.len-2.ensures))
