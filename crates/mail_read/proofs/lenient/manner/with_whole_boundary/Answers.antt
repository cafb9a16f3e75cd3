use Rattle.std.proofs.Common.{sym, ◌∙◌}
use Rattle.mailparse.specs.Pairs.{text_at}
use Rattle.mail_read.proofs.lemmas.lenient.Manner.{whole-broken, whole-kept}
use Rattle.mail_read.proofs.lenient.manner.with_whole_boundary.Goals as goal

pub returns-then-not-has_broken_boundary : goal.returns-then-not-has_broken_boundary
returns-then-not-has_broken_boundary c =
    λ q. whole-kept (text_at c.args.params) q (sym c.has_broken_boundary.ensures ∙ c.if-not-has_broken_boundary.true)

pub returns : goal.returns
returns c = λ q. c.without_boundary.ensures q ∙ whole-broken (text_at c.args.params) q (sym c.has_broken_boundary.ensures ∙ c.if-not-has_broken_boundary.false)
