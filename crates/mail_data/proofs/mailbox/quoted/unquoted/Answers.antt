use Rattle.mail_data.proofs.lemmas.QuotedLines.{line-passed, line-shorter}
use Rattle.mail_data.proofs.mailbox.quoted.unquoted.Goals as goal

pub lines-smaller : goal.lines-smaller
lines-smaller c = line-shorter c.lines.rest.now c.line_length.result c.is_empty.result c.is_empty.ensures c.lines-test.true c.line_length.ensures.value

pub lines-preserved : goal.lines-preserved
lines-preserved c =
    line-passed c.lines.rest.now c.unquoted_line.result.now c.lines.text.items c.extend_from_slice.new.self.items _ c.line_length.result c.line_length.ensures.value
    c.unquoted_line.ensures c.in_ok-extend_from_slice.ensures.items c.lines.invariant
