use Rattle.std.proofs.Common.{◌+◌, ◌∙◌, length, refl, sym, ap, arith, length-drop}
use Rattle.std.proofs.lemmas.List.{take_rest}
use Rattle.mail_check.proofs.lemmas.Words.{gap_within, pieces_last, pieces_pushed}
use Rattle.mail_check.proofs.words.pieces.Goals as goal

pub overflow_add-rest : goal.overflow_add-rest
overflow_add-rest c =
    let low = gap_within c.gaps.rest.now c.in-Some.at (sym c.in-Some.is ∙ c.gap_offset.ensures) in
    omega (arith, low, c.gaps.invariant.shorter)

pub gaps-preserved : goal.gaps-preserved
gaps-preserved c =
    let found = sym c.in-Some.is ∙ c.gap_offset.ensures in
    let low = gap_within c.gaps.rest.now c.in-Some.at found in
    let cut = length-drop (c.in-Some.at + 1) c.gaps.rest.now in
    let whole = take_rest c.gaps.rest.now (c.in-Some.at + 1) in
    record {
      shorter = omega (arith, low, cut, ap length whole, c.gaps.invariant.shorter);
      all = pieces_pushed _ _ _ c.gaps.rest.now _ c.args.value.now c.in-Some.at c.in_ok-push.ensures.items refl whole found c.gaps.invariant.all;
    }

pub returns : goal.returns
returns c = pieces_last _ _ c.gaps.rest c.args.value.now c.in_ok-push-2.ensures.items (sym c.in_default.is ∙ c.gap_offset.ensures) c.gaps.invariant.all
