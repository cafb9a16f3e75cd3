use Rattle.std.proofs.Common.{◌+◌, ◌*◌, ◌/◌, drop, ap, sym, refl, ◌∙◌, arith}
use Rattle.mail_codec.specs.Base64.{groups_from, prepend}
use Rattle.mail_codec.specs.private.Runs.{without_ends}
use Rattle.mail_codec.proofs.lemmas.Base64Parts.{blocks_read, group_more, absent_passed}
use Rattle.mail_codec.proofs.transfer.base_64.groups.put_groups.Goals as goal

pub parts-preserved-then-len-eq-LANES : goal.parts-preserved-then-len-eq-LANES
parts-preserved-then-len-eq-LANES c =
    let w = c.put_wide-wide.ensures in
    let e = c.put_block-len.ensures in
    let full = c.if-len-eq-LANES.true in
    record {
      within = omega (arith, e.bounds, full);
      counted = omega (arith, c.parts.invariant.counted);
      fits = omega (arith, c.parts.invariant.fits, c.put_wide-wide.auto.output, w.fits, c.put_block-len.auto.output);
      read = blocks_read c.args.absent c.args.text.now _ c.requires.letters c.parts.output c.put_wide-wide.new.output c.put_block-len.new.output c.parts.count c.parts.at c.put_wide-wide.result _ c.parts.invariant.read w.bounds w.letters w.kept w.read e.bounds e.letters e.kept e.read 4 (omega (arith, full)) _ _ refl refl;
    }

pub parts-preserved-then-next-at : goal.parts-preserved-then-next-at
parts-preserved-then-next-at c =
    let w = c.put_wide-wide.ensures in
    let e = c.put_block-len.ensures in
    let k = c.put_block-len.result / 4 in
    let block = blocks_read c.args.absent c.args.text.now _ c.requires.letters c.parts.output c.put_wide-wide.new.output c.put_block-len.new.output c.parts.count c.parts.at c.put_wide-wide.result _ c.parts.invariant.read w.bounds w.letters w.kept w.read e.bounds e.letters e.kept e.read k (omega arith) (c.parts.count + c.put_wide-wide.result / 4 + k) (c.parts.at + c.put_wide-wide.result / 4 * 4 + c.put_block-len.result / 4 * 4) refl (omega arith) in
    record {
      within = c.after_line_end-next.ensures.bounds;
      counted = omega (arith, c.parts.invariant.counted, c.after_line_end-next.ensures.after);
      fits = omega (arith, c.parts.invariant.fits, c.put_wide-wide.auto.output, w.fits, c.put_block-len.auto.output, e.fits);
      read = absent_passed c.args.absent c.args.text.now _ _ _ _ _ block c.after_line_end-next.ensures.passed;
    }

pub returns-then-text-at-le4-clause-read : goal.returns-then-text-at-le4-clause-read
returns-then-text-at-le4-clause-read c =
    let w = c.put_wide-wide.ensures in
    let e = c.put_block-len.ensures in
    blocks_read c.args.absent c.args.text.now _ c.requires.letters c.parts.output c.put_wide-wide.new.output c.put_block-len.new.output c.parts.count c.parts.at c.put_wide-wide.result _ c.parts.invariant.read w.bounds w.letters w.kept w.read e.bounds e.letters e.kept e.read (c.put_block-len.result / 4) (omega arith) _ _ refl (omega arith)

pub returns-in_default-clause-read : goal.returns-in_default-clause-read
returns-in_default-clause-read c n =
    let w = c.put_wide-wide.ensures in
    let e = c.put_block-len.ensures in
    let k = c.put_block-len.result / 4 in
    let block = blocks_read c.args.absent c.args.text.now _ c.requires.letters c.parts.output c.put_wide-wide.new.output c.put_block-len.new.output c.parts.count c.parts.at c.put_wide-wide.result _ c.parts.invariant.read w.bounds w.letters w.kept w.read e.bounds e.letters e.kept e.read k (omega arith) (c.parts.count + c.put_wide-wide.result / 4 + k) (c.parts.at + c.put_wide-wide.result / 4 * 4 + c.put_block-len.result / 4 * 4) refl (omega arith) in
    block n
    ∙ ap (λ bs. prepend bs (groups_from (n + (c.parts.count + c.put_wide-wide.result / 4 + k)) (without_ends c.args.absent (drop (c.parts.at + c.put_wide-wide.result / 4 * 4 + c.put_block-len.result / 4 * 4) c.args.text.now)))) (sym c.put_next_group.ensures.kept)

pub parts-preserved : goal.parts-preserved
parts-preserved c =
    let w = c.put_wide-wide.ensures in
    let e = c.put_block-len.ensures in
    let k = c.put_block-len.result / 4 in
    let block = blocks_read c.args.absent c.args.text.now _ c.requires.letters c.parts.output c.put_wide-wide.new.output c.put_block-len.new.output c.parts.count c.parts.at c.put_wide-wide.result _ c.parts.invariant.read w.bounds w.letters w.kept w.read e.bounds e.letters e.kept e.read k (omega arith) (c.parts.count + c.put_wide-wide.result / 4 + k) (c.parts.at + c.put_wide-wide.result / 4 * 4 + c.put_block-len.result / 4 * 4) refl (omega arith) in
    record {
      within = c.in-Some.ensures.bounds;
      counted = omega (arith, c.parts.invariant.counted, c.in-Some.ensures.later);
      fits = omega (arith, c.parts.invariant.fits, c.put_wide-wide.auto.output, w.fits, c.put_block-len.auto.output, c.put_next_group.auto.output, e.fits);
      read = group_more c.args.absent c.args.text.now _ c.put_block-len.new.output c.put_next_group.new.output _ _ _ block c.put_next_group.ensures.kept c.in-Some.ensures.read;
    }
