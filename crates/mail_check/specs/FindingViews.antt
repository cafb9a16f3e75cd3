-- What a contract sees of a finding.
use Rattle.std.specs.Prelude.{string_bytes}
use Rattle.mail_check.specs.Findings as words
use Rattle.mail_check.specs.declared.listing.Finding.{Finding}
use Rattle.mail_check.specs.declared.listing.Spot.{Spot}

-- a finding
abbrev pub finding_view : Finding → words.Finding
finding_view finding = record {
  name = finding.name;
  class = finding.class;
  range = record { start = finding.range.start; end = finding.range.end };
  path = string_bytes finding.path;
}

-- where findings may be
abbrev pub spot_view : Spot → words.Spot
spot_view spot = record { path = spot.path.now; start = spot.start; size = spot.size }
