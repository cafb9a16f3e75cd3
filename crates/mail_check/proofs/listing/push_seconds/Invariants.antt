-- The findings so far, and then those of the names that are left, are the old ones and then those of all names.
use Rattle.std.proofs.Common.{◌≡◌, ◌++◌, drop, map}
use Rattle.mail_read.specs.PlaceViews.{place_view}
use Rattle.mail_check.specs.FindingViews.{finding_view}
use Rattle.mail_check.specs.Findings.{repeated_findings}
use Rattle.mail_check.specs.LineViews.{line_view}
use Rattle.mail_check.proofs.listing.push_seconds.Given as goal

abbrev pub invariant-loop-name : goal.invariant-loop-name
invariant-loop-name l =
    map finding_view l.found.items ++ repeated_findings (place_view l.place) (map line_view l.lines) (map (λ name. name.now) (drop l.name-index l.names))
    ≡ map finding_view l.fn.found.items ++ repeated_findings (place_view l.place) (map line_view l.lines) (map (λ name. name.now) l.names)
