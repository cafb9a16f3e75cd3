-- The findings so far, and then those of the headers that are left, are the old ones and then those of all headers.
use Rattle.std.proofs.Common.{◌≡◌, ◌++◌, drop, map}
use Rattle.std.specs.Prelude.{flat_map}
use Rattle.mail_read.specs.PlaceViews.{place_view}
use Rattle.mail_check.specs.FindingViews.{finding_view}
use Rattle.mail_check.specs.Findings.{header_findings}
use Rattle.mail_check.specs.LineViews.{line_view}
use Rattle.mail_check.proofs.listing.push_lines.Given as goal

abbrev pub invariant-loop-line : goal.invariant-loop-line
invariant-loop-line g l =
    map finding_view l.found.items ++ flat_map (header_findings (g.K.KnownCharsets.known l.known) l.number (place_view l.place)) (map line_view (drop l.line-index l.lines))
    ≡ map finding_view l.fn.found.items ++ flat_map (header_findings (g.K.KnownCharsets.known l.known) l.number (place_view l.place)) (map line_view l.lines)
