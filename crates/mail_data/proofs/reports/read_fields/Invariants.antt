-- The fields so far, and then those of the headers that are left, are all.
use Rattle.std.proofs.Common.{◌≡◌, ◌++◌, drop, map}
use Rattle.mail_data.specs.Reports.{field_pair}
use Rattle.mail_data.specs.ReportViews.{field_view}
use Rattle.mail_data.proofs.reports.read_fields.Given as goal

abbrev pub invariant-loop-header : goal.invariant-loop-header
invariant-loop-header g l =
    map field_view l.found.items ++ map (field_pair (g.K.KnownCharsets.known l.known)) (drop l.header-index l.header-items)
    ≡ map (field_pair (g.K.KnownCharsets.known l.known)) l.headers.items
