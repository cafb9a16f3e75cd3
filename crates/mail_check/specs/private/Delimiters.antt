-- The first offsets at which a dash-boundary occurs.
use Rattle.std.specs.Prelude.{◌≡◌, ℕ, Bool, ◌&&◌, ◌==◌, not, List, ◌++◌, length, Option, Some, None, is_none, if◌then◌else◌}
use Rattle.mail_read.specs.Files.{is_leaf}
use Rattle.mail_read.specs.PartPlaces.{Place}
use Rattle.mail_check.specs.Bytes.{first_offset}
use Rattle.mail_check.specs.Findings.{Finding, listed_if, spot_in}
use Rattle.mail_check.specs.Multiparts.{is_close, is_inside, is_open, is_tailed}
use Rattle.mail_check.specs.declared.names.Name.TheVariants.{NoClose, NoDelimiter}
use Rattle.mail_check.specs.declared.multipart.FirstDelimiters.{FirstDelimiters}

-- a byte that is no dash
abbrev pub is_other : ℕ → Bool
is_other b = not (b == 45)

-- the offset that was found, or otherwise this one if it passes
abbrev pub found_or : Option ℕ → ℕ → Bool → Option ℕ
found_or (Some p) at passes = Some p
found_or None at passes = if passes then Some at else None

-- these are the first offsets in a text at which the dash-boundary occurs
pub record AreFirst (dash text : List ℕ) (found : FirstDelimiters) : Type 0 where
  pub inside : found.inside ≡ first_offset (is_inside dash text) text
  pub tailed : found.tailed ≡ first_offset (is_tailed dash text) text
  pub opening : found.opening ≡ first_offset (is_open dash text) text
  pub close : found.close ≡ first_offset (is_close dash text) text

-- the findings of whether a multipart has parts, and a close-delimiter after them, whose first offset is given
abbrev pub part_findings_with : Place → ℕ → List ℕ → Option ℕ → List Finding
part_findings_with place size text close =
    listed_if (spot_in place size 0) NoDelimiter (is_leaf place.part)
    ++ listed_if (spot_in place size (length text)) NoClose (not (is_leaf place.part) && is_none close)
