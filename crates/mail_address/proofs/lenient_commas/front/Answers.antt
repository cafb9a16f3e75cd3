use Rattle.std.proofs.Common.{◌+◌, ◌∷◌, length, drop, map, get_or, refl, sym, ap, ◌∙◌}
use Rattle.std.proofs.lemmas.List.{get_or_read_under}
use Rattle.mail_address.specs.Addresses.{Element}
use Rattle.mail_address.specs.AddressViews.{element_view}
use Rattle.mail_address.specs.Lenient.{between, end_of, is_bracketed, joined}
use Rattle.mail_address.specs.Order.{start_of}
use Rattle.mail_address.proofs.lemmas.LenientCommas.{front-all, front-named, front-none, front-other}
use Rattle.mail_address.proofs.lenient_commas.front.Goals as goal
use Rattle.mail_address.proofs.lenient_commas.front.Goals.{else-names-gt0-via-then-names-gt0+then-names-elements+else-is_bracketed, else-names-gt0-via-then-names-gt0+else-names-elements, else-names-gt0-via-else-names-gt0}

pub returns-then-is_bracketed-clause-value : goal.returns-then-is_bracketed-clause-value
returns-then-is_bracketed-clause-value c =
    let raw = c.args.raw.now in
    let elements = c.args.elements.now in
    let names = c.name_parts-names.result in
    let d = c.index-elements-names.result in
    let last = c.index-elements-names-then-is_bracketed in
    let first_is = get_or_read_under elements 0 (length elements) c.index-elements-0.result d c.index-elements-0.is c.requires refl in
    let last_is = get_or_read_under elements names (length elements) last.result d last.is c.if-names-elements.true refl in
    front-named element_view raw elements names c.name_parts-names.ensures.value d c.if-names-gt0.true c.if-names-elements.true
    (ap (λ e. is_bracketed (element_view e)) (sym c.index-elements-names.is) ∙ sym c.is_bracketed.ensures ∙ c.if-is_bracketed.true)
    ∙ ap (λ (e : Element). e ∷ joined raw (map element_view (drop (names + 1) elements)))
    (sym (c.in_ok-whole.ensures ∙ ap (λ e. between raw (start_of (element_view e)) (end_of (element_view last.result))) first_is
    ∙ ap (λ e. between raw (start_of (element_view (get_or elements 0 d))) (end_of (element_view e))) last_is))

pub returns-clause-value : goal.returns-clause-value
returns-clause-value c =
    elim c.else-names-gt0.branch [
      | else-names-gt0-via-then-names-gt0+then-names-elements+else-is_bracketed w ↦
          front-other element_view c.args.raw.now c.args.elements.now c.name_parts-names.result c.name_parts-names.ensures.value w.index-elements-names.result
          c.min.result w.if-names-elements.true
          (ap (λ e. is_bracketed (element_view e)) (sym w.index-elements-names.is) ∙ sym w.is_bracketed.ensures ∙ w.if-is_bracketed.false) c.min.ensures
      | else-names-gt0-via-then-names-gt0+else-names-elements w ↦
          front-all element_view c.args.raw.now c.args.elements.now c.name_parts-names.result c.name_parts-names.ensures.value
          c.min.result w.if-names-elements.false c.min.ensures
      | else-names-gt0-via-else-names-gt0 w ↦
          front-none element_view c.args.raw.now c.args.elements.now c.name_parts-names.result c.name_parts-names.ensures.value
          c.min.result w.if-names-gt0.false c.min.ensures
    ]
