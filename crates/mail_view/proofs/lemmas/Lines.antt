-- The text of lines.
use Rattle.std.proofs.Common.{◌≡◌, ◌++◌, List}
use Rattle.std.proofs.lemmas.Grind.{flat_map-append}
use Rattle.mail_view.specs.Line.{Line, line_text, lines_text}

-- the text of lines one after another
pub lines_append : (a b : List Line) → lines_text (a ++ b) ≡ lines_text a ++ lines_text b
lines_append a b = flat_map-append line_text a b
