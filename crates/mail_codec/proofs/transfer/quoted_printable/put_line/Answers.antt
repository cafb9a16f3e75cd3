use Rattle.std.proofs.Common.{◌+◌, ◌-◌, ◌++◌, ◌≡◌, ap, sym, ◌∙◌, take, length, arith}
use Rattle.std.proofs.lemmas.List.{length-take-le, take-take}
use Rattle.std.proofs.lemmas.Slice.{take-put_mid}
use Rattle.mail_codec.specs.QuotedPrintable.{unescaped}
use Rattle.mail_codec.proofs.lemmas.QuotedPrintableLines.{line_bytes-soft, line_bytes-hard}
use Rattle.mail_codec.proofs.lemmas.QuotedPrintableSpecials.{no_escape-take, stays_whole, front_copied}
use Rattle.mail_codec.proofs.transfer.quoted_printable.put_line.Goals as goal

pub returns-in-Some-clause-written : goal.returns-in-Some-clause-written
returns-in-Some-clause-written c =
    let content = c.args.content.now in
    let kept = take c.trimmed_len.result content in
    let joined = c.in-Some.joined.now in
    let is : joined ≡ take (length kept - 1) kept = c.in-Some.ensures.cases.1 in
    front_copied c.args.output.now content joined c.requires.copied c.trimmed_len.result (length kept - 1) is
    ∙ sym (stays_whole joined (rw is (no_escape-take kept (length kept - 1) (no_escape-take content c.trimmed_len.result c.requires.plain))))
    ∙ sym (line_bytes-soft content c.args.ending.now c.trimmed_len.result c.trimmed_len.ensures.len joined c.in-Some.ensures.cases.0 is)

pub returns-in-None-clause-written : goal.returns-in-None-clause-written
returns-in-None-clause-written c =
    let content = c.args.content.now in
    let len = c.trimmed_len.result in
    let kept = take len content in
    let long : length kept ≡ len = length-take-le len content c.trimmed_len.ensures.bounds in
    let ending = c.copy_from_slice.ensures.after in
    take-put_mid (length kept) _ c.args.output.now c.copy_from_slice.new.self (length kept + length c.args.ending.now) (ap (λ xs. length kept + length xs) (sym ending)) (omega (arith, long, c.trimmed_len.ensures.bounds, c.requires.capacity))
    ∙ ap (λ xs. xs ++ c.copy_from_slice.new.self) (front_copied c.args.output.now content kept c.requires.copied len len (sym (take-take len len content (omega arith))) ∙ sym (stays_whole kept (no_escape-take content len c.requires.plain)))
    ∙ ap (λ xs. unescaped kept ++ xs) ending
    ∙ sym (line_bytes-hard content c.args.ending.now len c.trimmed_len.ensures.len c.in-None.ensures.cases)
