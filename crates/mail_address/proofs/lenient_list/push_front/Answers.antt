use Rattle.std.proofs.Common.{◌++◌, drop, map, option_map, take, ap, ◌∙◌}
use Rattle.mail_address.specs.AddressViews.{element_view}
use Rattle.mail_address.specs.Lenient.{front_elements, joined, lenient_element}
use Rattle.mail_address.proofs.lemmas.LenientCommas.{pushed-front, pushed-one}
use Rattle.mail_address.proofs.lenient_list.push_front.Goals as goal

pub returns-in-Some-clause-pushed : goal.returns-in-Some-clause-pushed
returns-in-Some-clause-pushed c =
    let raw = c.args.raw.now in
    let elements = c.args.elements.now in
    let len = c.in_ok-whole.len in
    let rest = joined raw (map element_view (drop len elements)) in
    pushed-one (lenient_element c.args.raw.now) (map element_view c.args.list.now.items) (map element_view c.push_element.new.list.items) rest (joined raw (map element_view elements))
    (element_view c.in-Some.element)
    (c.in_ok-whole.ensures.value ∙ ap (λ o. front_elements (option_map element_view o) (map element_view (take len elements)) ++ rest) c.in-Some.is)
    c.in_ok-push_element.ensures

pub returns-clause-pushed : goal.returns-clause-pushed
returns-clause-pushed c =
    let raw = c.args.raw.now in
    let elements = c.args.elements.now in
    let len = c.in_ok-whole.len in
    let rest = joined raw (map element_view (drop len elements)) in
    pushed-front (lenient_element c.args.raw.now) (map element_view c.args.list.now.items) (map element_view c.push_each.new.list.items) rest (joined raw (map element_view elements))
    (map element_view (take len elements))
    (c.in_ok-whole.ensures.value ∙ ap (λ o. front_elements (option_map element_view o) (map element_view (take len elements)) ++ rest) c.in_default.is)
    c.in_ok-push_each.ensures
