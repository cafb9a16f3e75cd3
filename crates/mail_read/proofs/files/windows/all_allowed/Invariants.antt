-- The characters so far, and then those of the rest, are all characters.
use Rattle.std.proofs.Common.{◌≡◌, ◌++◌, length}
use Rattle.mail_read.specs.WindowsNames.{all_allowed}
use Rattle.mail_read.proofs.files.windows.all_allowed.Given as goal

abbrev pub invariant-characters : goal.invariant-characters
invariant-characters l = l.made.items ++ all_allowed l.rest ≡ all_allowed l.characters

abbrev pub decreases-characters : goal.decreases-characters
decreases-characters l = length l.rest
