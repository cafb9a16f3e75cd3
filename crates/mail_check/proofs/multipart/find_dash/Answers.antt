use Rattle.std.proofs.Common.{◌∙◌, ◌+◌, sym, arith}
use Rattle.std.proofs.lemmas.List.{take_rest}
use Rattle.mail_check.specs.Multiparts.{has_dash}
use Rattle.mail_check.proofs.lemmas.Bytes.{one_more}
use Rattle.mail_check.proofs.lemmas.Delimiters.{pair_found, pair_none, text_here, text_nowhere}
use Rattle.mail_check.proofs.multipart.find_dash.Goals as goal

pub returns-then-starts_with : goal.returns-then-starts_with
returns-then-starts_with c =
    let next = pair_found c.args.dash.now c.args.text.now c.from_offset-rest.result.now c.args.lead c.pairs.from c.requires.lead c.from_offset-rest.ensures c.pairs.invariant.within c.pairs.invariant.none c.in-Some.next (sym c.in-Some.is ∙ c.find_pair.ensures) in
    text_here c.args.text.now c.args.dash.now (c.pairs.from + c.in-Some.next) (omega (arith, c.requires.lead)) next.0 next.1.1 (rw take_rest at (sym c.starts_with.ensures.value ∙ c.if-starts_with.true))

pub pairs-preserved : goal.pairs-preserved
pairs-preserved c =
    let next = pair_found c.args.dash.now c.args.text.now c.from_offset-rest.result.now c.args.lead c.pairs.from c.requires.lead c.from_offset-rest.ensures c.pairs.invariant.within c.pairs.invariant.none c.in-Some.next (sym c.in-Some.is ∙ c.find_pair.ensures) in
    let low = next.1.0 in
    record {
      within = omega (arith, low);
      none = one_more (has_dash c.args.dash.now c.args.text.now) (c.pairs.from + c.in-Some.next) next.1.1 (rw take_rest at (sym c.starts_with.ensures.value ∙ c.if-starts_with.false));
    }

pub returns : goal.returns
returns c =
    text_nowhere c.args.text.now c.args.dash.now (omega (arith, c.requires.lead))
    (pair_none c.args.dash.now c.args.text.now c.from_offset-rest.result.now c.args.lead c.pairs.from c.requires.lead c.from_offset-rest.ensures c.pairs.invariant.within c.pairs.invariant.none (sym c.in_default.is ∙ c.find_pair.ensures))
