-- The rest decides as all characters do.
use Rattle.std.proofs.Common.{◌≡◌, length}
use Rattle.mail_read.specs.WindowsNames.{is_after_device}
use Rattle.mail_read.proofs.files.windows.is_after_device.Given as goal

abbrev pub invariant-characters : goal.invariant-characters
invariant-characters l = is_after_device l.rest ≡ is_after_device l.characters

abbrev pub decreases-characters : goal.decreases-characters
decreases-characters l = length l.rest
