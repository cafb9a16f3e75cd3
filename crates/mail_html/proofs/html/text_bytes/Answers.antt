use Rattle.std.proofs.Common.{◌∙◌, sym}
use Rattle.std.proofs.lemmas.List.{take_rest}
use Rattle.std.proofs.Common.{ap, eqb-true}
use Rattle.mail_codec.proofs.lemmas.Front.{some_left}
use Rattle.mail_html.specs.Layout.{State}
use Rattle.mail_html.proofs.lemmas.Html.{after_all, after_front}
use Rattle.mail_html.proofs.html.text_bytes.Goals as goal

pub rest-preserved : goal.rest-preserved
rest-preserved c = rw take_rest (after_front c.args.references.now _ _ c.rest.rest.now _ (some_left _ (sym c.rest-test.ensures)) c.in_ok-step.ensures.some c.in_ok-step.ensures.read ∙ c.rest.invariant)

pub returns : goal.returns
returns c = ap (λ (s : State). s.0) (after_all c.args.references.now _ _ c.rest.rest.now (eqb-true _ _ (sym c.rest-test.ensures)) c.rest.invariant)
