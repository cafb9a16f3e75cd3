-- The lines of the headers so far.
use Rattle.std.proofs.Common.{◌≡◌, ◌++◌, map, take}
use Rattle.std.specs.String.{string_bytes}
use Rattle.mail_read.specs.lenient.Values.{header_text}
use Rattle.mail_view.specs.Line.{line, lines_text}
use Rattle.mail_view.proofs.headers.push_values.Given as goal

abbrev pub invariant-loop-header : goal.invariant-loop-header
invariant-loop-header g l =
    string_bytes l.shown ≡ string_bytes l.fn.shown ++ lines_text
    (map (λ header. line l.prefix (header_text (g.K.KnownCharsets.known l.known) header.value)) (map (λ header. header.now) (take l.header-index l.headers)))
