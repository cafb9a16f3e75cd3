use Rattle.mail_data.proofs.lemmas.CountedMails.{short-all, short-part}
use Rattle.mail_data.proofs.mailbox.counted.has_short_line.Goals as goal

pub returns-then-bytes-le-MOST_SEPARATOR : goal.returns-then-bytes-le-MOST_SEPARATOR
returns-then-bytes-le-MOST_SEPARATOR c = short-all c.args.bytes.now c.if-bytes-le-MOST_SEPARATOR.true

pub returns : goal.returns
returns c = short-part c.args.bytes.now c.line_length.result c.if-bytes-le-MOST_SEPARATOR.false c.line_length.ensures.value
