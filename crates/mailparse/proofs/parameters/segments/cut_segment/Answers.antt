use Rattle.std.proofs.Common.{◌≡◌, ◌+◌, ◌-◌, ℕ, List, length, take, drop, get_or, sym, ap, subst, ◌∙◌, arith, length-drop}
use Rattle.std.proofs.lemmas.List.{take_rest}
use Rattle.mailparse.specs.Segments.{segments_from, with_front}
use Rattle.mailparse.specs.private.Segments.{quote_state}
use Rattle.mailparse.proofs.lemmas.Segments.{reaches_after}
use Rattle.mailparse.proofs.parameters.segments.cut_segment.Goals as goal

pub loop-at-preserved : goal.loop-at-preserved
loop-at-preserved c =
    let text = c.args.text.now in
    let bytes = c.as_bytes-bytes.result.now in
    let at = c.loop-at.at in
    let n = c.kept_len.result in
    let next = quote_state c.after-state.result in
    let same : bytes ≡ text = c.as_bytes-bytes.ensures.value in
    let size : length bytes ≡ length text = ap length same in
    let low = c.loop-at-test.true in
    let bounds = c.kept_len.ensures.bounds in
    let rest : take (length bytes - (at + 1)) (drop (at + 1) bytes) ≡ drop (at + 1) text = take_rest bytes (at + 1) ∙ ap (drop (at + 1)) same in
    let few : length (take (length bytes - (at + 1)) (drop (at + 1) bytes)) ≡ length (drop (at + 1) text) = ap length rest in
    let left = length-drop (at + 1) text in
    let kept = subst (λ (x : List ℕ). segments_from next x ≡ with_front (take n x) (segments_from next (drop n x))) rest c.kept_len.ensures.kept in
    record {
      in_text = omega (arith, bounds, few, left, size, low);
      reaches = reaches_after text at n (at + (1 + n)) (quote_state c.loop-at.state) next (get_or bytes at 0) (omega arith) (omega (arith, size, low))
          (ap (λ (x : List ℕ). get_or x at 0) same) (sym c.if-ends.false ∙ c.ends.ensures) c.after-state.ensures kept c.loop-at.invariant.reaches;
    }
