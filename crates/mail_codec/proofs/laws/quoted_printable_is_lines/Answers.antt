use Rattle.mail_codec.proofs.lemmas.QuotedPrintableLaw.{lines_once, quoted_printable_reads}
use Rattle.mail_codec.proofs.laws.quoted_printable_is_lines.Goals as goal

pub returns-clause-once : goal.returns-clause-once
returns-clause-once c = lines_once

pub returns-clause-read : goal.returns-clause-read
returns-clause-read c = quoted_printable_reads
