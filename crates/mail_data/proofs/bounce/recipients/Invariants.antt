-- The recipients so far, and then those of the parts that are left, are those of all parts.
use Rattle.std.proofs.Common.{◌≡◌, ◌++◌, map}
use Rattle.mailparse.specs.Mail.{trees_within}
use Rattle.mailparse.specs.Views.{tree_of, trees_left}
use Rattle.mail_data.specs.Bounce.{reported}
use Rattle.mail_data.specs.BounceViews.{delivery}
use Rattle.mail_data.proofs.bounce.recipients.Given as goal

abbrev pub invariant-loop-part : goal.invariant-loop-part
invariant-loop-part g l =
    map delivery l.found.items ++ reported (g.K.KnownCharsets.known l.known) (trees_left l.part-iterator)
    ≡ reported (g.K.KnownCharsets.known l.known) (trees_within (tree_of l.mail))
