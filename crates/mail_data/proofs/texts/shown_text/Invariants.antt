-- The text of the first part of those that are left is that of the first of all.
use Rattle.std.proofs.Common.{◌≡◌}
use Rattle.mailparse.specs.Mail.{trees_within}
use Rattle.mailparse.specs.Views.{tree_of, trees_left}
use Rattle.mail_data.specs.Texts.{first_own_text}
use Rattle.mail_data.proofs.texts.shown_text.Given as goal

abbrev pub invariant-loop-part : goal.invariant-loop-part
invariant-loop-part g l =
    first_own_text (g.K.KnownCharsets.known l.known) l.may_have_name (trees_left l.part-iterator)
    ≡ first_own_text (g.K.KnownCharsets.known l.known) l.may_have_name (trees_within (tree_of l.mail))
