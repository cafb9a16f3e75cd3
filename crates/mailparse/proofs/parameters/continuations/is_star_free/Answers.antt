use Rattle.std.proofs.Common.{String, not, ap, ◌∙◌}
use Rattle.std.proofs.lemmas.Iterator.Consumers.{YieldsList-end, YieldsList-from_rest}
use Rattle.std.specs.Borrow.{Bor}
use Rattle.std.specs.Global.{Global}
use Rattle.std.specs.List.{list_any}
use Rattle.mailparse.specs.private.Continuations.{has_star}
use Rattle.mailparse.proofs.lemmas.Sections.{names_shown}
use Rattle.mailparse.proofs.lemmas.StarFree.{star_more}
use Rattle.mailparse.proofs.parameters.continuations.is_star_free.Goals as goal

pub loop-name-preserved : goal.loop-name-preserved
loop-name-preserved c =
    let e : Bor (String Global) × Bor (String Global) = (c.in-Some.name, c.in-Some.field-0-1) in
    star_more c.loop-name.yielded e c.loop-name.starred c.has_star-starred.result c.loop-name.invariant (c.has_star-starred.ensures ∙ ap has_star c.as_str.ensures.value)

pub returns : goal.returns
returns c =
    let all = YieldsList-end (YieldsList-from_rest c.args.pairs.now.entries c.into_iter-name-iterator.ensures.into_iter_gives.0) c.loop-name.yielded _ c.loop-name.yielded_by _ _ c.in-None.is c.next.ensures.steps in
    ap not (c.loop-name.invariant ∙ ap (list_any has_star) (names_shown c.loop-name.yielded c.args.pairs.now.entries all.0))
