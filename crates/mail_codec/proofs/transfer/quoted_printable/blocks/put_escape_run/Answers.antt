use Rattle.std.proofs.Common.{ℕ, ◌+◌, ◌-◌, ◌∙◌, take, drop, refl, ap, arith}
use Rattle.mail_codec.specs.private.QuotedPrintable.{is_special}
use Rattle.mail_codec.specs.private.Vectors.{lane_mask}
use Rattle.mail_codec.proofs.lemmas.QuotedPrintableSpecials.{in_block, matches_later}
use Rattle.mail_codec.proofs.transfer.quoted_printable.blocks.put_escape_run.Goals as goal

pub returns-then-text-next-ne61-clause-block : goal.returns-then-text-next-ne61-clause-block
returns-then-text-next-ne61-clause-block c =
    let h = c.requires.block in
    let escape = c.put_escape-read.ensures in
    in_block h escape.after.0 (omega arith) c.put_escape-read.auto.output (omega (arith, escape.fits, escape.after.1)) escape.reading
    (matches_later c.args.text.now c.args.found.next c.args.end 3 _ _ _ refl c.matches_after-rest.ensures h.left)

pub returns-then-after-end-clause-block : goal.returns-then-after-end-clause-block
returns-then-after-end-clause-block c =
    let escape = c.put_escape-read.ensures in
    let more = c.put_more_escapes-read.ensures in
    let after = c.put_more_escapes-read.result.at in
    in_block c.requires.block refl (omega (arith, escape.after.0, more.after)) (c.put_more_escapes-read.auto.output ∙ c.put_escape-read.auto.output)
    (omega (arith, more.fits, escape.fits, escape.after.1)) more.reading
    (ap (λ (n : ℕ). lane_mask is_special (take n (drop after c.args.text.now))) {x = 0} {y = c.args.end - after} (omega (arith, c.if-after-end.true)))

pub returns-clause-block : goal.returns-clause-block
returns-clause-block c =
    let text = c.args.text.now in
    let end = c.args.end in
    let h = c.requires.block in
    let escape = c.put_escape-read.ensures in
    let more = c.put_more_escapes-read.ensures in
    let after = c.put_more_escapes-read.result.at in
    let third : ℕ = c.args.found.next + 3 in
    let low = more.after in
    let start = escape.after.0 in
    in_block h refl (omega arith) (c.put_more_escapes-read.auto.output ∙ c.put_escape-read.auto.output)
    (omega (arith, more.fits, escape.fits, escape.after.1)) more.reading
    (matches_later text third end (after - third) after _ _ (omega arith) c.matches_after-left.ensures
    (matches_later text c.args.found.next end 3 third _ _ refl c.matches_after-rest.ensures h.left))
