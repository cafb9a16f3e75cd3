-- What was saved is completed by the mails that are left, in the bytes that were read and in further ones.
use Rattle.std.proofs.Common.{ℕ, List, option_map}
use Rattle.std.specs.Io.KnownBytes.{Consumes}
use Rattle.mail_walk.specs.Kind.{format_of}
use Rattle.mail_extract.specs.ChoiceViews.{options_view}
use Rattle.mail_extract.specs.Input.{Saved}
use Rattle.mail_extract.proofs.lemmas.Input.{Follows}
use Rattle.mail_extract.proofs.input.extract_rest.Given as goal

abbrev pub invariant-loop-turn : goal.invariant-loop-turn
invariant-loop-turn g l =
    (more : List ℕ) × Consumes (g.R.Read.remaining l.fn.reader) (g.R.Read.remaining l.reader) more
    × Saved (g.D.Directory.held l.fn.target.directory) (g.D.Directory.held l.target.directory) (g.W.Write.contents l.fn.out) (g.W.Write.contents l.out) l.fn.target.number l.target.number l.outcome
    (Follows (option_map (λ name. name.now) l.fn.source.file) g.D.Directory.can_fail (options_view l.fn.source.options) (g.K.KnownCharsets.known l.source.known.now) (format_of l.fn.source.kind) l.read more
    l.pending.items l.number)
