-- What was written is completed by the lines of the mails that are left, in the bytes that were read and in further
-- ones.
use Rattle.std.proofs.Common.{◌≡◌, ℕ, List, option_map}
use Rattle.std.specs.Io.KnownBytes.{Appends, Consumes}
use Rattle.mail_walk.specs.Kind.{format_of}
use Rattle.mail_json.specs.Options.{options_of}
use Rattle.mail_json.specs.Selection.{is_range}
use Rattle.mail_json.specs.Written.{is_clean}
use Rattle.mail_json.proofs.lemmas.Stream.{Follows}
use Rattle.mail_json.proofs.stream.write_rest.Given as goal

abbrev pub invariant-loop-turn : goal.invariant-loop-turn
invariant-loop-turn g l =
    (more : List ℕ) × (done : List ℕ) × Consumes (g.R.Read.remaining l.fn.reader) (g.R.Read.remaining l.reader) more
    × Appends (g.W.Write.contents l.fn.out) (g.W.Write.contents l.out) done
    × Follows (options_of (g.K.KnownCharsets.known l.source.known.now) l.fn.source.options) (format_of l.source.kind) (option_map (λ name. name.now) l.fn.source.file) l.fn.first.selection l.fn.first.at l.read more l.next.selection l.next.at l.pending.items (is_clean l.written) done
    × (is_range l.next.selection ≡ is_range l.fn.first.selection)
