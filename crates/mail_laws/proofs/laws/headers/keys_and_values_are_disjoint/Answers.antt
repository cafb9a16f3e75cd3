use Rattle.std.proofs.Common.{false, arith}
use Rattle.mail_laws.proofs.lemmas.Spans.{headers-at_ranges, ranges-in_order, place-within}
use Rattle.mail_laws.proofs.laws.headers.keys_and_values_are_disjoint.Goals as goal

pub returns : goal.returns
returns c = record {
  bytes = headers-at_ranges;
  apart = ranges-in_order false;
  bounds = λ raw block j e low.
      let order = ranges-in_order false raw j in
      let within = place-within raw block j e low in
      omega (arith, order.ends);
}
