use Rattle.std.proofs.Common.{◌++◌, take, drop, ap, sym, ◌∙◌, arith}
use Rattle.std.proofs.lemmas.List.{append_assoc, take_rest}
use Rattle.mail_codec.specs.QuotedPrintable.{quoted_printable}
use Rattle.mail_codec.proofs.lemmas.QuotedPrintableLines.{nothing_left}
use Rattle.mail_codec.proofs.transfer.quoted_printable.decode_by_buffers.Goals as goal

pub returns-then-next-at : goal.returns-then-next-at
returns-then-next-at c =
    c.in_ok-push_at_once.ensures
    ∙ ap (λ x. c.buffers.bytes.items ++ quoted_printable x) (take_rest c.args.text.now c.buffers.at)
    ∙ c.buffers.invariant.so_far

pub buffers-preserved : goal.buffers-preserved
buffers-preserved c =
    let text = c.args.text.now in
    let e = c.put_lines-len.ensures in
    let more = take c.put_lines-len.result.0 c.put_lines-len.new.output in
    record {
      within = e.bounds;
      so_far =
          ap (λ xs. xs ++ quoted_printable (drop c.put_lines-len.result.1 text)) c.in_ok-extend_from_slice.ensures.items
          ∙ append_assoc c.buffers.bytes.items more (quoted_printable (drop c.put_lines-len.result.1 text))
          ∙ ap (λ r. c.buffers.bytes.items ++ r) e.read
          ∙ c.buffers.invariant.so_far;
    }

pub returns : goal.returns
returns c =
    sym (nothing_left c.args.text.now c.buffers.bytes.items c.buffers.at (omega arith)) ∙ c.buffers.invariant.so_far
