-- Whether one of the parts that are left is such a text says whether one of all is.
use Rattle.std.proofs.Common.{◌≡◌}
use Rattle.std.specs.List.{list_any}
use Rattle.mailparse.specs.Mail.{trees_within}
use Rattle.mailparse.specs.Views.{tree_of, trees_left}
use Rattle.mail_parts.specs.Reading.{has_many_files}
use Rattle.mail_parts.proofs.reading.has_many_files.Given as goal

abbrev pub invariant-loop-part : goal.invariant-loop-part
invariant-loop-part l = list_any (has_many_files l.limit) (trees_left l.part-iterator) ≡ list_any (has_many_files l.limit) (trees_within (tree_of l.mail))
