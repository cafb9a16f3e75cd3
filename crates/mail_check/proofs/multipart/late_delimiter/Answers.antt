use Rattle.std.proofs.Common.{◌∙◌, sym, arith}
use Rattle.mail_check.specs.Multiparts.{is_close}
use Rattle.mail_check.proofs.lemmas.Bytes.{offset_some}
use Rattle.mail_check.proofs.lemmas.Delimiters.{late_past}
use Rattle.mail_check.proofs.multipart.late_delimiter.Goals as goal

pub overflow_add-close : goal.overflow_add-close
overflow_add-close c =
    let low = (offset_some (is_close c.args.dash.now c.args.text.now) c.args.text.now c.in_ok-close.close (sym c.in_ok-close.was ∙ c.requires.first.close)).0 in
    omega (arith, low)

pub delimiter_from-requires-clause-within : goal.delimiter_from-requires-clause-within
delimiter_from-requires-clause-within c =
    let low = (offset_some (is_close c.args.dash.now c.args.text.now) c.args.text.now c.in_ok-close.close (sym c.in_ok-close.was ∙ c.requires.first.close)).0 in
    omega (arith, low)

pub delimiter_from-requires-in_default-clause-within : goal.delimiter_from-requires-in_default-clause-within
delimiter_from-requires-in_default-clause-within c =
    let low = (offset_some (is_close c.args.dash.now c.args.text.now) c.args.text.now c.in_ok-close.close (sym c.in_ok-close.was ∙ c.requires.first.close)).0 in
    omega (arith, low)

pub returns-in-Some : goal.returns-in-Some
returns-in-Some c =
    c.delimiter_from.ensures
    ∙ late_past c.args.dash.now c.args.text.now c.in-Some.opening c.in_ok-close.close (sym c.in-Some.is ∙ c.requires.first.opening) (sym c.in_ok-close.was ∙ c.requires.first.close) c.if-opening-close.true
