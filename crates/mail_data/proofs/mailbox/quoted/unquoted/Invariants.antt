-- The text so far, and then the rest unquoted, is the whole mail unquoted; the rest begins a line.
use Rattle.std.proofs.Common.{◌≡◌, ◌++◌, length}
use Rattle.mail_data.specs.QuotedLines.{unquoted}
use Rattle.mail_data.proofs.mailbox.quoted.unquoted.Given as goal

abbrev pub invariant-lines : goal.invariant-lines
invariant-lines l = l.text.items ++ unquoted l.rest ≡ unquoted l.mail

abbrev pub decreases-lines : goal.decreases-lines
decreases-lines l = length l.rest
