-- With any further bytes, what was saved is completed by the mails that are left.
use Rattle.std.proofs.Common.{length, option_map}
use Rattle.mail_walk.specs.Kind.{format_of}
use Rattle.mail_extract.specs.ChoiceViews.{options_view}
use Rattle.mail_extract.specs.private.Blocks.{SavesFront}
use Rattle.mail_extract.proofs.input.extract_settled.Given as goal

abbrev pub invariant-mails : goal.invariant-mails
invariant-mails g l =
    SavesFront (g.D.Directory.held l.fn.target.directory) (g.D.Directory.held l.target.directory) (g.W.Write.contents l.fn.out) (g.W.Write.contents l.out)
    l.fn.target.number l.target.number (option_map (λ name. name.now) l.fn.source.file) g.D.Directory.can_fail (options_view l.fn.source.options)
    (g.K.KnownCharsets.known l.source.known.now) (format_of l.fn.source.kind) l.first l.bytes l.number l.rest l.outcome

abbrev pub decreases-mails : goal.decreases-mails
decreases-mails g l = length l.rest
