use Rattle.std.proofs.Common.{arith}
use Rattle.mail_codec.proofs.lemmas.QuotedPrintableDigits.{table_is, value_small}
use Rattle.mail_codec.proofs.transfer.quoted_printable.digit_value.Goals as goal

pub returns-clause-read : goal.returns-clause-read
returns-clause-read c = table_is c.args.digit (omega arith)

pub returns-clause-bounds : goal.returns-clause-bounds
returns-clause-bounds c = omega (arith, table_is c.args.digit (omega arith), value_small c.args.digit (omega arith))
