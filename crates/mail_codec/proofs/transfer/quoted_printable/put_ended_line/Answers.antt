use Rattle.std.proofs.Common.{◌-◌, length}
use Rattle.mail_codec.proofs.lemmas.QuotedPrintableLines.{ended_line-cr, ended_line-lf}
use Rattle.mail_codec.proofs.lemmas.QuotedPrintableSpecials.{no_escape-take}
use Rattle.mail_codec.proofs.transfer.quoted_printable.put_ended_line.Goals as goal

pub put_line-requires-clause-plain : goal.put_line-requires-clause-plain
put_line-requires-clause-plain c =
    rw c.in-Some.ensures.cases.1 (no_escape-take c.args.piece.now (length c.args.piece.now - 1) c.requires.plain)

pub returns-in-Some-clause-written : goal.returns-in-Some-clause-written
returns-in-Some-clause-written c =
    rw (ended_line-cr c.args.piece.now c.in-Some.content.now c.in-Some.ensures.cases.0 c.in-Some.ensures.cases.1) c.put_line.ensures.written

pub returns-clause-written : goal.returns-clause-written
returns-clause-written c = rw (ended_line-lf c.args.piece.now c.in_default.ensures.cases) c.put_line-2.ensures.written
