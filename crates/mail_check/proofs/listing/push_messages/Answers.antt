use Rattle.std.proofs.Common.{◌≡◌, ◌∙◌, ◌++◌, ◌+◌, ℕ, suc, List, ap, drop, map, sym, append_assoc, arith}
use Rattle.mail_read.specs.PartPlaces.{Place}
use Rattle.mail_read.specs.PlaceViews.{place_view}
use Rattle.mail_read.proofs.lemmas.InnerMails.{drop_next}
use Rattle.mail_check.specs.FindingViews.{finding_view}
use Rattle.mail_check.specs.Findings.{Finding, findings_from, message_findings}
use Rattle.mail_check.proofs.listing.push_messages.Goals as goal

pub loop-place-preserved : goal.loop-place-preserved
loop-place-preserved g c =
    let known = g.K.KnownCharsets.known c.args.known.now in
    let items = c.args.messages.now in
    let number = c.loop-place.number in
    let done = map finding_view c.loop-place.found.items in
    let own = message_findings known number (place_view c.place-item.result) in
    let later = map place_view (drop (c.loop-place.place-index + 1) items) in
    let next : number + 1 ≡ suc number = omega arith in
    let left = ap (map place_view) (drop_next items c.loop-place.place-index c.place-item.result (omega arith) c.place-item.is) in
    record {
      count = omega (arith, c.loop-place.invariant.count);
      all =
          ap (λ (found : List Finding). found ++ findings_from known (number + 1) later) c.in_ok-push_message.ensures.written
          ∙ append_assoc done own (findings_from known (number + 1) later)
          ∙ ap (λ (n : ℕ). done ++ (own ++ findings_from known n later)) next
          ∙ ap (λ (places : List Place). done ++ findings_from known number places) (sym left)
          ∙ c.loop-place.invariant.all;
    }
