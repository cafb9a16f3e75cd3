-- The text so far, and then the remaining marks, is the old text and then all marks.
use Rattle.std.proofs.Common.{◌≡◌, ◌++◌}
use Rattle.std.specs.Prelude.{replicate}
use Rattle.std.specs.String.{string_bytes}
use Rattle.mail_data.proofs.flowed.push_marks.Given as goal

abbrev pub invariant-marks : goal.invariant-marks
invariant-marks l = string_bytes l.joined ++ replicate l.left 62 ≡ string_bytes l.fn.joined ++ replicate l.line.depth 62

abbrev pub decreases-marks : goal.decreases-marks
decreases-marks l = l.left
