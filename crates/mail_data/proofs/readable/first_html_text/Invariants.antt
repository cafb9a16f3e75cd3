-- The text of the first HTML part of those that are left is that of the first of all.
use Rattle.std.proofs.Common.{◌≡◌}
use Rattle.mailparse.specs.Mail.{trees_within}
use Rattle.mailparse.specs.Views.{tree_of, trees_left}
use Rattle.mail_data.specs.Readable as read
use Rattle.mail_data.proofs.readable.first_html_text.Given as goal

abbrev pub invariant-loop-part : goal.invariant-loop-part
invariant-loop-part g l =
    read.first_html_text (g.K.KnownCharsets.known l.known) l.links l.references (trees_left l.part-iterator)
    ≡ read.first_html_text (g.K.KnownCharsets.known l.known) l.links l.references (trees_within (tree_of l.mail))
