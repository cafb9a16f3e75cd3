-- The findings so far, and then those of the mails in the messages that are left, are the old ones and then those of the
-- mails in all messages; how deep mails are read falls.
use Rattle.std.proofs.Common.{◌≡◌, ◌+◌, ◌*◌, ◌++◌, drop, map}
use Rattle.std.specs.Prelude.{flat_map}
use Rattle.mail_read.specs.PlaceViews.{place_view}
use Rattle.mail_check.specs.FindingViews.{finding_view}
use Rattle.mail_check.specs.Inside.{inside_findings}
use Rattle.mail_check.proofs.inside.«+inside».Given as goal

abbrev pub decreases-push_tree : goal.decreases-push_tree
decreases-push_tree g l = 3 * l.most + 3

abbrev pub decreases-push_inside : goal.decreases-push_inside
decreases-push_inside g l = 3 * l.most + 2

abbrev pub decreases-push_forwarded : goal.decreases-push_forwarded
decreases-push_forwarded g l = 3 * l.most + 1

abbrev pub invariant-push_inside-loop-place : goal.invariant-push_inside-loop-place
invariant-push_inside-loop-place g l =
    let inside = inside_findings (g.K.KnownCharsets.known l.known) l.most in
    map finding_view l.found.items ++ flat_map inside (map place_view (drop l.place-index l.messages)) ≡ map finding_view l.initial.found.items ++ flat_map inside (map place_view l.messages)
