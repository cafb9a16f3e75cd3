use Rattle.std.proofs.Common.{◌∙◌, ◌+◌, ap}
use Rattle.mail_html.specs.Html.{reference_step}
use Rattle.mail_html.specs.Layout.{Written, add_text, state_of}
use Rattle.mail_html.specs.References.{Referred}
use Rattle.mail_html.proofs.html.push_reference.Goals as goal

pub returns-clause-read : goal.returns-clause-read
unfolding reference_step
returns-clause-read c =
    ap (λ (w : Written). ((w.0, w.1, c.args.layout.is_kept), 1 + c.read_reference-reference.result.taken)) c.in_ok-gap.ensures
    ∙ ap (λ (q : Referred). (add_text q.0 (state_of c.args.text.now.items c.args.layout), 1 + q.1)) c.read_reference-reference.ensures.read
