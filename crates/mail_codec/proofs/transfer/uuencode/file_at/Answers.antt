use Rattle.std.proofs.Common.{arith}
use Rattle.mail_codec.proofs.lemmas.Uuencode.{file_is, name_within}
use Rattle.mail_codec.proofs.transfer.uuencode.file_at.Goals as goal

pub returns-clause-read : goal.returns-clause-read
returns-clause-read c =
    file_is c.args.text.now c.args.begin _ _ _ _ _ _ _ _ _
    c.line_at-line.ensures.value c.name_start.ensures.value c.name_end.ensures.value c.after_line-start.ensures.value c.after.ensures c.data_length-len.ensures.value
    c.line_at-last.ensures.value c.ends_file-is_ended.ensures c.block_end-stop.ensures.value

pub returns-clause-name : goal.returns-clause-name
returns-clause-name c =
    let some = name_within c.args.text.now _ c.args.begin _ _ c.line_at-line.ensures.value c.requires.begins c.name_start.ensures.value c.name_end.ensures.value in
    (omega (arith, some), omega (arith, c.name_end.ensures.bounds, c.line_at-line.ensures.bounds))
