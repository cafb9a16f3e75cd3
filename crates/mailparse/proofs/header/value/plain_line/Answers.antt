use Rattle.std.proofs.Common.{◌≡◌, None, Some, is_some, sym, ap, ◌∙◌}
use Rattle.mail_codec.specs.Places.{byte_place}
use Rattle.mailparse.proofs.lemmas.ValuePlain.{plain_feeds, plain_openings}
use Rattle.mailparse.proofs.header.value.plain_line.Goals as goal

pub returns-then-is_some-clause-plain : goal.returns-then-is_some-clause-plain
returns-then-is_some-clause-plain c = λ plain.
    sym (plain_feeds c.args.text.now plain) ∙ ap (λ bytes. is_some (byte_place bytes 10)) (sym c.as_bytes-2.ensures.value)
    ∙ ap is_some (sym c.find_byte.ensures) ∙ sym c.is_some.ensures ∙ c.if-is_some.true

pub returns-in-Some-clause-plain : goal.returns-in-Some-clause-plain
returns-in-Some-clause-plain c = λ plain.
    let line = c.as_bytes-3.ensures.value ∙ c.trim_start-line.ensures.trim in
    let found : None ≡ Some c.in-Some.field-0 = plain_openings c.args.text.now c.as_bytes-3.result.now plain line ∙ sym c.find.ensures ∙ c.in-Some.is in
    ap is_some found
