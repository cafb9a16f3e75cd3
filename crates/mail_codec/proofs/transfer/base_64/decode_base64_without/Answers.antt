use Rattle.std.proofs.Common.{sym, ◌∙◌, arith}
use Rattle.mail_codec.proofs.lemmas.Base64Groups.{prepend-nil}
use Rattle.mail_codec.proofs.lemmas.Base64Parts.{read_whole, buffer_read}
use Rattle.mail_codec.proofs.transfer.base_64.decode_base64_without.Goals as goal

pub buffers-init : goal.buffers-init
buffers-init c = record {
  within = omega arith;
  counted = omega arith;
  so_far = rw c.in_ok-bytes.ensures.items (sym (prepend-nil _));
}

pub returns-then-next-at : goal.returns-then-next-at
returns-then-next-at c =
    let e = c.put_groups-count.ensures in
    let more = buffer_read _ c.buffers.bytes.items _ _ c.buffers.groups c.put_groups-count.result.0 _ _ c.buffers.invariant.so_far e.read
    (c.in_ok-push_one_group.ensures.kept c.if-branch.false ∙ c.in_ok-extend_from_slice.ensures.items) in
    rw more c.decode_windows.ensures

pub buffers-preserved : goal.buffers-preserved
buffers-preserved c =
    let e = c.put_groups-count.ensures in
    record {
      within = e.bounds;
      counted = omega (arith, c.buffers.invariant.counted, e.counted);
      so_far = buffer_read _ c.buffers.bytes.items _ _ c.buffers.groups c.put_groups-count.result.0 _ _ c.buffers.invariant.so_far e.read
          (c.in_ok-push_one_group.ensures.kept c.if-branch.false ∙ c.in_ok-extend_from_slice.ensures.items);
    }

pub returns : goal.returns
returns c = read_whole c.args.absent c.args.text.now c.buffers.bytes.items c.buffers.groups c.buffers.at c.buffers.invariant.so_far (omega arith)
