-- The lines of the texts so far.
use Rattle.std.proofs.Common.{◌≡◌, ◌++◌, map, take}
use Rattle.std.specs.List.{flat_map}
use Rattle.std.specs.String.{string_bytes}
use Rattle.mail_data.specs.InlineTextViews.{inline_view}
use Rattle.mail_view.specs.Line.{lines_text}
use Rattle.mail_view.specs.View.{headed_lines}
use Rattle.mail_view.proofs.text.push_others.Given as goal

abbrev pub invariant-loop-text : goal.invariant-loop-text
invariant-loop-text l =
    string_bytes l.shown ≡ string_bytes l.fn.shown ++ lines_text (flat_map headed_lines (map inline_view (take l.text-index l.texts)))
