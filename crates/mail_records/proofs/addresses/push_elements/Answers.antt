use Rattle.std.proofs.Common.{ℕ, ◌+◌, List, ◌++◌, length, map, drop, sym, ap, ◌∙◌, arith, append_assoc, length-append}
use Rattle.mail_address.specs.AddressViews.{element_view}
use Rattle.mail_address.specs.Addresses.{Element}
use Rattle.mail_read.proofs.lemmas.InnerMails.{drop_next}
use Rattle.mail_records.specs.AddressRecords.{element_entries, entries_from}
use Rattle.mail_records.proofs.addresses.push_elements.Goals as goal

pub loop-element-preserved : goal.loop-element-preserved
loop-element-preserved g c =
    let known = g.K.KnownCharsets.known c.args.known.now in
    let before = c.loop-element.invariant in
    let done = before.0 in
    let own = element_entries known (length done) (element_view c.element-item.result) in
    let rest = map element_view (drop (c.loop-element.element-index + 1) c.args.list.now) in
    let left = ap (map element_view) (drop_next c.args.list.now c.loop-element.element-index c.element-item.result (omega arith) c.element-item.is) in (
      done ++ own,
      append_assoc done own (entries_from known (length (done ++ own)) rest) ∙ ap (λ (n : ℕ). done ++ (own ++ entries_from known n rest)) (length-append done own)
          ∙ ap (λ (es : List Element). done ++ entries_from known (length done) es) (sym left) ∙ before.1,
      λ are. c.in_ok-push_element.ensures done (before.2 are),
    )
