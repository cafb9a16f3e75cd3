use Rattle.std.proofs.Common.{List, ◌++◌, ◌∙◌, ap, map, sym}
use Rattle.std.proofs.lemmas.List.{append-nil}
use Rattle.mail_read.specs.PlaceViews.{place_view}
use Rattle.mail_check.specs.FindingViews.{finding_view}
use Rattle.mail_check.specs.Findings.{Finding}
use Rattle.mail_check.specs.LineViews.{line_view}
use Rattle.mail_check.proofs.lemmas.Singles.{none_repeated}
use Rattle.mail_check.proofs.listing.push_repeated.Goals as goal

pub returns-then-not-has_repeated : goal.returns-then-not-has_repeated
returns-then-not-has_repeated c =
    let old = map finding_view c.args.found.now.items in
    let none = none_repeated (place_view c.args.place.now) (map line_view c.args.lines.now) (sym c.has_repeated.ensures ∙ c.if-not-has_repeated.true) in
    sym (append-nil old) ∙ ap (λ (rest : List Finding). old ++ rest) (sym none)
