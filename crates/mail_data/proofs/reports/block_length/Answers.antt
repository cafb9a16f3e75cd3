use Rattle.mail_data.specs.Reports.{block_length}
use Rattle.mail_data.specs.LineEnds.{is_empty_line}
use Rattle.mail_data.proofs.reports.block_length.Goals as goal

pub returns-clause-value : goal.returns-clause-value
unfolding block_length
returns-clause-value c = c.line_place.ensures.value is_empty_line (λ text is said. said)
