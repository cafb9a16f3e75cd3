-- The text so far, and then that of the pieces of the rest, is that of all.
use Rattle.std.proofs.Common.{◌≡◌, ◌++◌, length}
use Rattle.std.specs.Prelude.{None, string_bytes}
use Rattle.mail_read.specs.lenient.Values.{pieces, shown}
use Rattle.mail_read.specs.lenient.ValueViews.{run_view}
use Rattle.mail_read.proofs.lenient.values.decoded_text.Given as goal

abbrev pub invariant-words : goal.invariant-words
invariant-words g l =
    let known = g.K.KnownCharsets.known l.known in
    string_bytes l.text ++ shown known (run_view l.run) (pieces known 0 l.left) ≡ shown known None (pieces known 0 l.bytes)

abbrev pub decreases-words : goal.decreases-words
decreases-words g l = length l.left
