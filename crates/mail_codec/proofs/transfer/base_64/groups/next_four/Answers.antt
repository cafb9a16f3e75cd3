use Rattle.std.proofs.Common.{◌++◌, ◌+◌, drop, get_or, refl, ap, sym, ◌∙◌, arith}
use Rattle.std.proofs.lemmas.List.{length-set, take_all}
use Rattle.mail_codec.specs.private.Runs.{without_ends}
use Rattle.mail_codec.proofs.lemmas.Base64Parts.{gathered_one}
use Rattle.mail_codec.proofs.transfer.base_64.groups.next_four.Goals as goal

pub returns-then-found-eq4-clause-four : goal.returns-then-found-eq4-clause-four
returns-then-found-eq4-clause-four c =
    let text = c.args.text.now in
    c.bytes.invariant.so_far
    ∙ gathered_one c.args.absent text c.bytes.four c.bytes.found c.bytes.place _ (omega (arith, c.bytes.invariant.few, c.bytes.invariant.long)) (omega arith) refl (sym c.is_met_by.ensures ∙ c.if-is_met_by.false)
    ∙ ap (λ xs. xs ++ without_ends c.args.absent (drop (c.bytes.place + 1) text)) (take_all (c.bytes.found + 1) _ (omega (arith, c.bytes.invariant.long, c.if-found-eq4.true, length-set c.bytes.four c.bytes.found (get_or text c.bytes.place 0))))

pub bytes-preserved : goal.bytes-preserved
bytes-preserved c = record {
  long = length-set c.bytes.four c.bytes.found _ ∙ c.bytes.invariant.long;
  few = omega (arith, c.bytes.invariant.few, c.if-found-eq4.false);
  before = omega (arith, c.bytes.invariant.before);
  so_far = c.bytes.invariant.so_far
      ∙ gathered_one c.args.absent c.args.text.now c.bytes.four c.bytes.found c.bytes.place _ (omega (arith, c.bytes.invariant.few, c.bytes.invariant.long)) (omega arith) refl (sym c.is_met_by.ensures ∙ c.if-is_met_by.false);
}
