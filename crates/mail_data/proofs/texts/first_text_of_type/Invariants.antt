-- The first such part of those that are left is the first of all.
use Rattle.std.proofs.Common.{◌≡◌}
use Rattle.std.specs.Prelude.{find}
use Rattle.mailparse.specs.Mail.{trees_within}
use Rattle.mailparse.specs.Views.{tree_of, trees_left}
use Rattle.mail_data.specs.Texts.{is_text_of_type}
use Rattle.mail_data.proofs.texts.first_text_of_type.Given as goal

abbrev pub invariant-loop-part : goal.invariant-loop-part
invariant-loop-part g l = find (is_text_of_type (g.K.KnownCharsets.known l.known) l.may_have_name l.mimetype) (trees_left l.part-iterator) ≡ find (is_text_of_type (g.K.KnownCharsets.known l.known) l.may_have_name l.mimetype) (trees_within (tree_of l.mail))
