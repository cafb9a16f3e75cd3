use Rattle.std.proofs.Common.{◌≡◌, ◌++◌, filter, map}
use Rattle.mailparse.specs.Views.{tree_of}
use Rattle.mail_data.specs.Bounce.{recipients}
use Rattle.mail_data.specs.BounceViews.{delivery}
use Rattle.mail_jobs.specs.Bounces.{has_failed}
use Rattle.mail_jobs.proofs.bounces.failed_recipients.Given as goal

-- the failed recipients so far, and those among the recipients that are left, are all
abbrev pub invariant-loop-recipient : goal.invariant-loop-recipient
invariant-loop-recipient g l =
    map delivery l.failed.items ++ filter has_failed (map delivery l.recipient-iterator.rest.items) ≡ filter has_failed (recipients (g.K.KnownCharsets.known l.known) (tree_of l.mail))
