use Rattle.std.proofs.Common.{rules}
use Rattle.std.proofs.lemmas.Iterator.{YieldsList-from_map, YieldsList-from_slice, YieldsList-from_zip}
use Rattle.std.proofs.lemmas.Iterator.Adapters.{YieldsList-from_skip, items_from_extend}
use Rattle.mailparse.specs.private.CharsetSources.{shared_len}
use Rattle.mailparse.proofs.parameters.extended_values.charset_sources.shared_lens.Goals as goal

pub returns : goal.returns
returns g c =
    let h = items_from_extend c.extend.result c.extend.ensures.ran
    (YieldsList-from_map _ (λ pair. shared_len pair.0.name.now pair.1.name.now)
    (YieldsList-from_zip (YieldsList-from_slice c.args.extended.now cc) (YieldsList-from_skip 1 (YieldsList-from_slice c.args.extended.now cc) cc))
    c.map.ensures.closure (λ x r q k. search rules)) in
    search rules
