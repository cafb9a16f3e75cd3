use Rattle.std.proofs.Common.{not, eqb, sym, ◌∙◌}
use Rattle.mailparse.specs.Header.{is_line_feed}
use Rattle.mail_records.proofs.lemmas.HeaderLengths.{not-skipped, not_not, skipped}
use Rattle.mail_records.proofs.places.line_feed_from.Goals as goal

pub loop-at-preserved : goal.loop-at-preserved
loop-at-preserved c =
    let next = skipped (λ b. not (eqb b 10)) is_line_feed (λ b. not_not (eqb b 10)) c.args.raw.now c.loop-at.at _ (sym c.is_other_at.ensures ∙ c.loop-at-test.true) c.loop-at.invariant.same in
    record { within = next.0; same = next.1 }

pub returns-clause-least : goal.returns-clause-least
returns-clause-least c =
    not-skipped (λ b. not (eqb b 10)) is_line_feed (λ b. not_not (eqb b 10)) c.args.raw.now c.loop-at.at _ (sym c.is_other_at.ensures ∙ c.loop-at-test.false) c.loop-at.invariant.within c.loop-at.invariant.same
