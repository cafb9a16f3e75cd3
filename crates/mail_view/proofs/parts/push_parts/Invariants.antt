-- The lines of the parts so far, after the empty line.
use Rattle.std.proofs.Common.{◌≡◌, ◌++◌, map, take}
use Rattle.std.specs.List.{flat_map}
use Rattle.std.specs.String.{string_bytes}
use Rattle.mail_read.specs.PlaceViews.{place_view}
use Rattle.mail_view.specs.Line.{empty, line_text, lines_text}
use Rattle.mail_view.specs.View.{part_lines}
use Rattle.mail_view.proofs.parts.push_parts.Given as goal

abbrev pub invariant-loop-place : goal.invariant-loop-place
invariant-loop-place g l =
    string_bytes l.shown ≡ string_bytes l.fn.shown
    ++ (line_text empty ++ lines_text (flat_map (part_lines (g.K.KnownCharsets.known l.known)) (map place_view (take l.place-index l.place-items))))
