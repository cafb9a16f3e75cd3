-- No mail ends at a line such that the bytes after its empty line begin up to the place that the
-- search has come to.
use Rattle.std.proofs.Common.{◌≤◌, ◌-◌, length}
use Rattle.mail_data.proofs.lemmas.MailboxSearch.{EndsPast}
use Rattle.mail_data.proofs.mailbox.mail_length.Given as goal

abbrev pub invariant-lines : goal.invariant-lines
invariant-lines l = record {
  within : l.at ≤ length l.bytes;
  past : EndsPast l.bytes l.at;
}

abbrev pub decreases-lines : goal.decreases-lines
decreases-lines l = length l.bytes - l.at
