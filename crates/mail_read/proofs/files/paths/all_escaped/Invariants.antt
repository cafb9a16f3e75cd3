-- The characters so far, and then those of the rest, are all characters.
use Rattle.std.proofs.Common.{◌≡◌, ◌++◌, length}
use Rattle.mail_read.specs.RawPaths.{all_escaped}
use Rattle.mail_read.specs.declared.files.paths.Position.TheVariants.{Outside}
use Rattle.mail_read.proofs.files.paths.all_escaped.Given as goal

abbrev pub invariant-characters : goal.invariant-characters
invariant-characters l = l.made.items ++ all_escaped l.position l.rest ≡ all_escaped Outside l.characters

abbrev pub decreases-characters : goal.decreases-characters
decreases-characters l = length l.rest
