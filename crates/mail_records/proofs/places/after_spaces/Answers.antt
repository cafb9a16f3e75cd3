use Rattle.std.proofs.Common.{not, eqb, refl, sym, ◌∙◌}
use Rattle.mail_records.proofs.lemmas.HeaderLengths.{not-skipped, skipped}
use Rattle.mail_records.proofs.places.after_spaces.Goals as goal

pub loop-at-preserved : goal.loop-at-preserved
loop-at-preserved c =
    let next = skipped (λ b. eqb b 32) (λ b. not (eqb b 32)) (λ b. refl) c.args.raw.now c.loop-at.at _ (sym c.is_at.ensures ∙ c.loop-at-test.true) c.loop-at.invariant.same in
    record { within = next.0; same = next.1 }

pub returns : goal.returns
returns c =
    not-skipped (λ b. eqb b 32) (λ b. not (eqb b 32)) (λ b. refl) c.args.raw.now c.loop-at.at _ (sym c.is_at.ensures ∙ c.loop-at-test.false) c.loop-at.invariant.within c.loop-at.invariant.same
