use Rattle.mailparse.proofs.lemmas.Header.{TrimmedTo-last, is_line_end-false}
use Rattle.mailparse.proofs.header.parse.trim_line_ends.Goals as goal

pub returns-then-last-ne10 : goal.returns-then-last-ne10
returns-then-last-ne10 c =
    TrimmedTo-last c.args.bytes.now c.loop-last.rest.now c.in-Some.front.now c.in-Some.last.now c.loop-last.invariant c.in-Some.ensures.cases.0
    (is_line_end-false c.in-Some.last.now c.if-last-ne13.true c.if-last-ne10.true)
