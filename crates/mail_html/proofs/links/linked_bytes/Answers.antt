use Rattle.std.proofs.Common.{◌∙◌, List, ℕ, sym, arith, ap, eqb-true}
use Rattle.std.proofs.lemmas.List.{length-drop, take_rest}
use Rattle.mail_codec.proofs.lemmas.Front.{some_left}
use Rattle.mail_html.specs.Layout.{state_of}
use Rattle.mail_html.specs.Links.{Linked, add_link, with_notes}
use Rattle.mail_html.proofs.lemmas.Links.{after_link, after_links}
use Rattle.mail_html.proofs.links.linked_bytes.Goals as goal

pub rest-preserved : goal.rest-preserved
rest-preserved c =
    let some = some_left _ (sym c.rest-test.ensures) in
    let linked =
    c.in_ok-numbered.ensures.read
    ∙ ap (λ (t : List ℕ). add_link t (state_of c.push_front.new.text.items c.in_ok-step.step.layout, c.rest.notes.items, c.rest.count))
    (c.as_slice.ensures.value ∙ c.in_ok-target.ensures) in record {
      few = rw take_rest (omega (arith, some, c.rest.invariant.few, c.in_ok-step.ensures.some, c.in_ok-step.ensures.bounds, c.in_ok-numbered.ensures.bounds, length-drop c.in_ok-step.step.taken c.rest.rest.now));
      same = rw take_rest (after_link c.args.references.now _ _ _ _ _ c.rest.rest.now _ some c.in_ok-step.ensures.some c.in_ok-step.ensures.read linked ∙ c.rest.invariant.same);
    }

pub returns : goal.returns
returns c =
    c.in_ok-push_notes.ensures
    ∙ ap (with_notes c.rest.text.items) c.as_slice-2.ensures.value
    ∙ ap (λ (l : Linked). with_notes l.0.0 l.1) (after_links c.args.references.now _ _ c.rest.rest.now (eqb-true _ _ (sym c.rest-test.ensures)) c.rest.invariant.same)
