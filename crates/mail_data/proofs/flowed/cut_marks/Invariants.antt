-- The quote marks so far are counted, and the rest follows them.
use Rattle.std.proofs.Common.{◌≡◌, ◌+◌, drop, length}
use Rattle.std.specs.Str.{IsUtf8}
use Rattle.mail_data.specs.Flowed.{quote_depth}
use Rattle.mail_data.proofs.flowed.cut_marks.Given as goal

abbrev pub invariant-marks : goal.invariant-marks
invariant-marks l = record {
  utf8 : IsUtf8 l.rest;
  count : l.depth + quote_depth l.rest ≡ quote_depth l.text;
  left : l.rest ≡ drop l.depth l.text;
  within : l.depth + length l.rest ≡ length l.text;
}

abbrev pub decreases-marks : goal.decreases-marks
decreases-marks l = length l.rest
