use Rattle.std.proofs.Common.{◌∙◌, ap, length, map, sym}
use Rattle.mailparse.specs.declared.headers.Headers.{Headers}
use Rattle.mail_read.specs.PlaceViews.{place_view}
use Rattle.mail_check.specs.FindingViews.{finding_view, spot_view}
use Rattle.mail_check.specs.LineViews.{line_view}
use Rattle.mail_check.proofs.lemmas.Tested.{nothing_added}
use Rattle.mail_check.proofs.listing.push_header.Goals as goal

pub returns-then-not-has_tested_value : goal.returns-then-not-has_tested_value
returns-then-not-has_tested_value g c =
    let none = sym c.has_tested_value.ensures ∙ c.if-not-has_tested_value.true in
    nothing_added (g.K.KnownCharsets.known c.args.known.now) c.args.number (place_view c.args.place.now) (line_view c.args.line.now)
    (map finding_view c.args.found.now.items) (map finding_view c.push_line.new.found.items)
    (spot_view c.spot_in-spot.result) (length c.get_raw_bytes-size.result.now)
    none c.spot_in-spot.ensures (ap length (c.get_raw_bytes-size.ensures ∙ ap (λ (h : Headers). h.bytes) c.get_headers.ensures)) c.in_ok-push_line.ensures
