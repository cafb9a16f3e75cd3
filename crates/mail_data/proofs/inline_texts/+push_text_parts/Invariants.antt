-- The parts so far, and then those of the remaining parts, are the old ones and then those of the message.
use Rattle.std.proofs.Common.{◌≡◌, ◌++◌, suc, map, drop}
use Rattle.mailparse.specs.Mail.{forest}
use Rattle.mailparse.specs.Views.{tree_of}
use Rattle.mail_data.specs.InlineTextViews.{text_part_view}
use Rattle.mail_data.specs.InlineTexts.{text_parts, text_parts_in}
use Rattle.mail_data.proofs.inline_texts.«+push_text_parts».Given as goal

abbrev pub invariant-loop-part : goal.invariant-loop-part
invariant-loop-part l = record {
  count : l.number ≡ l.part-index;
  paths : map text_part_view l.found.items ++ text_parts_in l.path (suc l.part-index) (forest (map tree_of (drop l.part-index l.part-items)))
      ≡ map text_part_view l.fn.found.items ++ text_parts l.path (tree_of l.mail);
}
