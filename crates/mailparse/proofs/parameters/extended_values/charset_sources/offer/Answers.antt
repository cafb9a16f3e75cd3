use Rattle.std.proofs.Common.{◌≡◌, ◌+◌, ap, sym, ◌∙◌, true, arith}
use Rattle.mailparse.specs.private.CharsetSources.{is_initial_section, name_at}
use Rattle.mailparse.specs.private.ExtendedValues.{names_of}
use Rattle.mailparse.proofs.lemmas.CharsetSourcesRanges.{long_names, name_of_place, range_found, offered}
use Rattle.mailparse.proofs.parameters.extended_values.charset_sources.offer.Goals as goal

pub returns-clause-offered : goal.returns-clause-offered
returns-clause-offered g c = λ order k below.
    let name = c.as_bytes-name.ensures.value ∙ name_of_place c.args.extended.now c.args.place c.index-extended-place.result c.requires.within in
    let long = long_names c.args.extended.now in
    let yes : is_initial_section (name_at (names_of c.args.extended.now) c.args.place) ≡ true = ap is_initial_section (sym name) ∙ sym c.if-not-ends_with.ensures.value in
    let first = c.first_with-first.ensures in
    let last = c.last_with-last.ensures in
    let range = range_found c.args.extended.now c.args.shared.now c.requires.shared c.as_bytes-name.result.now c.args.place c.first_with-first.result c.last_with-last.result name c.requires.within
    first.bounds last.bounds.0 last.bounds.1 first.all last.all first.first last.last in
    let write = c.write_range.ensures in
    offered (names_of c.args.extended.now) c.args.place c.first_with-first.result (c.last_with-last.result + 1) order (omega (arith, c.requires.within)) yes range
    _ _ write.before write.inside write.after k (omega arith)
