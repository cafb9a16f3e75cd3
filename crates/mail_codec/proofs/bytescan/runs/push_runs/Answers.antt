use Rattle.std.proofs.Common.{◌≡◌, ◌+◌, ◌-◌, ◌++◌, take, drop, take-append-drop, sym, ap, ◌∙◌, arith}
use Rattle.std.proofs.lemmas.List.{append_assoc, drop-drop}
use Rattle.mail_codec.specs.private.Runs.{without_ends}
use Rattle.mail_codec.proofs.lemmas.Base64Groups.{without_ends-append}
use Rattle.mail_codec.proofs.bytescan.runs.push_runs.Goals as goal

pub buffers-preserved : goal.buffers-preserved
buffers-preserved c =
    let bytes = c.args.bytes.now in
    let at = c.buffers.at in
    let next = at + c.min.result in
    let kept = without_ends c.args.end in
    let m = next - at in
    let more = take c.put_runs-len.result c.put_runs-len.new.output in
    let small = c.min.ensures in
    let low = c.buffers.invariant.within in
    let there : drop m (drop at bytes) ≡ drop next bytes = drop-drop m at bytes ∙ ap (λ k. drop k bytes) {x = at + m} {y = next} (omega arith) in
    record {
      within = omega arith;
      so_far =
          ap (λ xs. xs ++ kept (drop next bytes)) c.in_ok-extend_from_slice.ensures.items
          ∙ append_assoc c.buffers.kept.items more (kept (drop next bytes))
          ∙ ap (λ xs. c.buffers.kept.items ++ (xs ++ kept (drop next bytes))) c.put_runs-len.ensures.written
          ∙ ap (λ xs. c.buffers.kept.items ++ (kept (take m (drop at bytes)) ++ kept xs)) (sym there)
          ∙ ap (λ xs. c.buffers.kept.items ++ xs) (sym (without_ends-append c.args.end (take m (drop at bytes)) (drop m (drop at bytes))))
          ∙ ap (λ xs. c.buffers.kept.items ++ kept xs) (take-append-drop m (drop at bytes))
          ∙ c.buffers.invariant.so_far;
    }
