use Rattle.std.proofs.Common.{sym, arith}
use Rattle.mailparse.proofs.lemmas.Cuts.{closing_cut}
use Rattle.mailparse.proofs.header.tokens.find_closing_or_keep.Goals as goal

pub returns-then-kept-from-clause-cut : goal.returns-then-kept-from-clause-cut
returns-then-kept-from-clause-cut c =
    closing_cut c.args.line.now c.args.from c.find_closing.result c.utf8.line c.requires.within (sym c.find_closing.ensures)

pub returns-else-kept-from-clause-cut : goal.returns-else-kept-from-clause-cut
returns-else-kept-from-clause-cut c =
    closing_cut c.args.line.now c.args.from c.args.kept c.utf8.line c.requires.within (c.requires.keeps c.args.from (omega arith) (omega arith))
