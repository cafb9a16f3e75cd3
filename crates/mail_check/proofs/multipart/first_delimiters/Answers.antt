use Rattle.std.proofs.Common.{◌∙◌, ◌+◌, sym, arith}
use Rattle.mail_check.proofs.lemmas.Delimiters.{are_first, next_below, next_dash, no_dash}
use Rattle.mail_check.proofs.multipart.first_delimiters.Goals as goal

pub with_next-found-requires-clause-occurs : goal.with_next-found-requires-clause-occurs
with_next-found-requires-clause-occurs c =
    let next = next_dash c.args.dash.now c.args.text.now c.places.from (omega (arith, c.requires.some)) c.places.invariant.within c.in-Some.next (sym c.in-Some.is ∙ c.find_dash.ensures) in
    next.1.0

pub places-preserved : goal.places-preserved
places-preserved c =
    let next = next_dash c.args.dash.now c.args.text.now c.places.from (omega (arith, c.requires.some)) c.places.invariant.within c.in-Some.next (sym c.in-Some.is ∙ c.find_dash.ensures) in
    let low = next.0 in
    let found = c.with_next-found.ensures in
    record {
      within = omega (arith, low);
      below =
          next_below c.args.dash.now c.args.text.now c.places.found c.with_next-found.result c.places.from (c.places.from + c.in-Some.next) (omega arith) next.1.1
          c.places.invariant.below found.inside found.tailed found.opening found.close;
    }

pub returns : goal.returns
returns c =
    are_first c.args.dash.now c.args.text.now c.places.found c.places.from c.places.invariant.within c.places.invariant.below
    (no_dash c.args.dash.now c.args.text.now c.places.from (omega (arith, c.requires.some)) c.places.invariant.within (sym c.in_default.is ∙ c.find_dash.ensures))
