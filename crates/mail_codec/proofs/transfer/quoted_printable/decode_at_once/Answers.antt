use Rattle.std.proofs.Common.{◌≡◌, length, take, ap, sym, ◌∙◌, arith}
use Rattle.std.proofs.lemmas.List.{take_at}
use Rattle.mail_codec.proofs.lemmas.QuotedPrintableLines.{nothing_left}
use Rattle.mail_codec.proofs.transfer.quoted_printable.decode_at_once.Goals as goal

pub returns : goal.returns
returns c =
    let written = c.put_lines-len.new.output in
    let e = c.put_lines-len.ensures in
    let len : length written ≡ c.in_ok-bytes.bytes.len = omega (arith, c.as_mut_slice.ensures.len, c.put_lines-len.auto.output) in
    let end = e.whole (omega (arith, c.as_mut_slice.ensures.len, c.in_ok-bytes.ensures)) in
    c.truncate.ensures.items
    ∙ ap (take c.put_lines-len.result.0) (take_at written _ c.in_ok-bytes.bytes.len len)
    ∙ sym (nothing_left c.args.text.now (take c.put_lines-len.result.0 written) c.put_lines-len.result.1 (omega (arith, end)))
    ∙ e.read
