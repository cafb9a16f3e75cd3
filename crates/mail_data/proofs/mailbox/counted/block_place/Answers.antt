use Rattle.mail_data.specs.CountedMails.{block_place}
use Rattle.mail_data.specs.LineEnds.{is_empty_line}
use Rattle.mail_data.proofs.mailbox.counted.block_place.Goals as goal

pub returns-clause-value : goal.returns-clause-value
unfolding block_place
returns-clause-value c = c.line_place.ensures.value is_empty_line (λ text is said. said)
