use Rattle.std.proofs.Common.{◌++◌, map, ap, ◌∙◌}
use Rattle.std.proofs.lemmas.Iterator.Consumers.{YieldsList-end, YieldsList-from_rest}
use Rattle.std.specs.String.{string_bytes}
use Rattle.mailparse.specs.private.Continuations.{bases_of_sections_0}
use Rattle.mailparse.specs.private.Sections.{stored_section}
use Rattle.mailparse.proofs.lemmas.Sections.{names_shown}
use Rattle.mailparse.proofs.parameters.continuations.add_bases.Goals as goal

pub returns : goal.returns
returns g c =
    let gives = c.into_iter-name-iterator.ensures.into_iter_gives in
    let all = YieldsList-end (YieldsList-from_rest c.args.named.now.entries gives.0) c.loop-name.yielded _ c.loop-name.yielded_by _ _ c.in-None.is c.next.ensures.steps in
    c.loop-name.invariant
    ∙ ap (λ ns. map string_bytes c.args.bases.now.items ++ bases_of_sections_0 (stored_section g.C.Decode.text c.args.sections.now) ns) (names_shown c.loop-name.yielded c.args.named.now.entries all.0)
