-- The rest has a time where the line has one.
use Rattle.std.proofs.Common.{◌≡◌, ◌≤◌, length}
use Rattle.mail_data.specs.Separator.{has_time}
use Rattle.mail_data.proofs.mailbox.separator.has_time.Given as goal

abbrev pub invariant-spaces : goal.invariant-spaces
invariant-spaces l = record { within : length l.rest ≤ length l.line; same : has_time l.rest ≡ has_time l.line }

abbrev pub decreases-spaces : goal.decreases-spaces
decreases-spaces l = length l.rest
