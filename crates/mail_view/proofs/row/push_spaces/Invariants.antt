-- The text so far, and then the remaining spaces, is the old text and then all spaces.
use Rattle.std.proofs.Common.{◌≡◌, ◌++◌}
use Rattle.std.specs.Prelude.{replicate}
use Rattle.std.specs.String.{string_bytes}
use Rattle.mail_codec.specs.Ascii.{space}
use Rattle.mail_view.proofs.row.push_spaces.Given as goal

abbrev pub invariant-spaces : goal.invariant-spaces
invariant-spaces l = string_bytes l.row ++ replicate l.left space ≡ string_bytes l.fn.row ++ replicate l.count space

abbrev pub decreases-spaces : goal.decreases-spaces
decreases-spaces l = l.left
