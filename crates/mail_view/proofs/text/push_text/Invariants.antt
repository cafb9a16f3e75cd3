-- The lines so far.
use Rattle.std.proofs.Common.{◌≡◌, ◌++◌, map}
use Rattle.std.specs.String.{string_bytes}
use Rattle.mail_view.specs.Line.{lines_text}
use Rattle.mail_view.specs.View.{text_line}
use Rattle.mail_view.proofs.text.push_text.Given as goal

abbrev pub invariant-loop-line : goal.invariant-loop-line
invariant-loop-line l = string_bytes l.shown ≡ string_bytes l.fn.shown ++ lines_text (map text_line (map (λ x. x.now) l.yielded))
