use Rattle.std.proofs.Common.{ℕ, List, ◌∙◌, ◌++◌, ap, map, append_assoc}
use Rattle.mailparse.specs.BodyViews.{content_of}
use Rattle.mailparse.specs.Mail.{body_kind, root}
use Rattle.mailparse.specs.Views.{tree_of}
use Rattle.mail_read.specs.PlaceViews.{place_view}
use Rattle.mail_check.specs.FindingViews.{finding_view}
use Rattle.mail_check.specs.Findings.{Finding, encoded_findings, text_findings}
use Rattle.mail_check.proofs.listing.push_body.Goals as goal

pub returns-clause-written : goal.returns-clause-written
returns-clause-written g c =
    let known = g.K.KnownCharsets.known c.args.known.now in
    let node = root (tree_of c.args.place.now.part.now) in
    let place = place_view c.args.place.now in
    let shown : List ℕ → List Finding = text_findings known place node in
    let encoded = c.in_ok-push_encoded.ensures (body_kind node) (content_of node) c.in_ok-body.ensures.read in
    let raw = c.get_raw.ensures.made (body_kind node) (content_of node) c.in_ok-body.ensures.read in
    c.in_ok-push_text.ensures.written
    ∙ ap (λ found. found ++ shown c.get_raw.result.now) encoded
    ∙ ap (λ body. (map finding_view c.args.found.now.items ++ encoded_findings place (body_kind node) node.body) ++ shown body) raw
    ∙ append_assoc (map finding_view c.args.found.now.items) (encoded_findings place (body_kind node) node.body) (shown node.body)
