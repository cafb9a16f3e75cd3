use Rattle.std.proofs.Common.{◌++◌, List, append-nil, map, option_map, sym, ap, ◌∙◌}
use Rattle.mailparse.specs.Mail.{root}
use Rattle.mail_data.specs.Bounce.{Delivery}
use Rattle.mail_data.specs.BounceViews.{delivery}
use Rattle.mail_read.specs.lenient.ContentViews.{content_view}
use Rattle.mail_parts.specs.DecodedViews.{decoded_tree}
use Rattle.mail_json.proofs.lemmas.Decoded.{added_in, deliveries_none}
use Rattle.mail_json.proofs.reports.add_recipients.Goals as goal

pub returns-then-not-has_status-clause-written : goal.returns-then-not-has_status-clause-written
returns-then-not-has_status-clause-written g c =
    let none = deliveries_none (g.K.KnownCharsets.known c.args.known.now) (root (decoded_tree c.args.part.now)) (sym c.has_status.ensures ∙ c.if-not-has_status.true) in
    sym (append-nil (map delivery c.args.found.now.items)) ∙ ap (λ (ds : List Delivery). map delivery c.args.found.now.items ++ ds) none

pub returns-in-Some-clause-written : goal.returns-in-Some-clause-written
returns-in-Some-clause-written g c =
    added_in (g.K.KnownCharsets.known c.args.known.now) (root (decoded_tree c.args.part.now)) (content_view c.in-Some.content) _ _ _ c.add_reported.result
    (sym c.has_status.ensures ∙ c.if-not-has_status.false) (ap (option_map content_view) (sym c.in-Some.is) ∙ c.requires.content) c.as_slice.ensures.value c.add_reported.ensures.written
