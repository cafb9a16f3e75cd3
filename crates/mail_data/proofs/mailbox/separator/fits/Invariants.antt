-- The rest of the text fits the rest of the pattern where the text fits the pattern.
use Rattle.std.proofs.Common.{◌≡◌, drop}
use Rattle.mail_data.specs.Separator.{fits}
use Rattle.mail_data.proofs.mailbox.separator.fits.Given as goal

abbrev pub invariant-loop-sign : goal.invariant-loop-sign
invariant-loop-sign l = fits (drop l.sign-index l.pattern) l.rest ≡ fits l.pattern l.text
