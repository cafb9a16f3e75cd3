use Rattle.std.proofs.Common.{ap}
use Rattle.std.proofs.lemmas.List.{take_rest}
use Rattle.mail_html.specs.Layout.{Written, state_of}
use Rattle.mail_html.proofs.lemmas.Html.{start_is}
use Rattle.mail_html.proofs.html.push_start.Goals as goal

pub returns-clause-read : goal.returns-clause-read
returns-clause-read c =
    start_is c.args.references.now (state_of c.args.text.now.items c.args.layout) _ _ c.args.bytes.now _ _ _ _ c.name_length-name.ensures.value c.tag_length-end.ensures.value c.kind_of-kind.ensures
    (c.add_tag-after.ensures c.args.text.now.items) (ap (λ (w : Written). (w.0, w.1, c.add_tag-after.result.is_kept)) c.in_ok-gap.ensures) (rw take_rest at c.hidden_length-hidden.ensures.value)
