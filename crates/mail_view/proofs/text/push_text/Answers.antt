use Rattle.std.proofs.Common.{◌++◌, map, ap, ◌∙◌, string_bytes}
use Rattle.std.proofs.lemmas.Iterator.Consumers.{YieldsList-end}
use Rattle.std.proofs.lemmas.Iterator.Splits.{YieldsList-from_lines}
use Rattle.mail_view.specs.Line.{lines_text}
use Rattle.mail_view.specs.View.{text_line}
use Rattle.mail_view.proofs.text.push_text.Goals as goal

pub returns : goal.returns
returns c =
    let all = YieldsList-end (YieldsList-from_lines c.args.text.now cc) c.loop-line.yielded _ c.loop-line.yielded_by _ _ c.in-None.is c.next.ensures.steps in
    c.loop-line.invariant ∙ ap (λ ls. string_bytes c.args.shown.now ++ lines_text (map text_line ls)) all.0
