use Rattle.std.proofs.Common.{arith}
use Rattle.mail_codec.proofs.lemmas.QuotedPrintableSpecials.{after_run, after_both, after_sign, after_line, after_all, copy-no_escape, copy-written}
use Rattle.mail_codec.proofs.transfer.quoted_printable.put_lines.Goals as goal

pub specials-preserved-then-at-end : goal.specials-preserved-then-at-end
specials-preserved-then-at-end c =
    let run = after_run _ _ _ _ _ _ c.specials.invariant _ _ c.put_run-at.auto.output _ (omega arith) (omega (arith, c.min.ensures)) (omega (arith, c.min.ensures)) c.put_run-at.ensures.bounds c.put_run-at.ensures.least c.put_run-at.ensures.written in
    run.reading

pub put_ended_line-len-requires-clause-copied : goal.put_ended_line-len-requires-clause-copied
put_ended_line-len-requires-clause-copied c =
    let run = after_run _ _ _ _ _ _ c.specials.invariant _ _ c.put_run-at.auto.output _ (omega arith) (omega (arith, c.min.ensures)) (omega (arith, c.min.ensures)) c.put_run-at.ensures.bounds c.put_run-at.ensures.least c.put_run-at.ensures.written in
    copy-written _ _ _ _ _ _ run.reading

pub put_ended_line-len-requires-clause-plain : goal.put_ended_line-len-requires-clause-plain
put_ended_line-len-requires-clause-plain c =
    let run = after_run _ _ _ _ _ _ c.specials.invariant _ _ c.put_run-at.auto.output _ (omega arith) (omega (arith, c.min.ensures)) (omega (arith, c.min.ensures)) c.put_run-at.ensures.bounds c.put_run-at.ensures.least c.put_run-at.ensures.written in
    copy-no_escape _ _ _ _ _ _ run.reading

pub specials-preserved-then-text-at-eq10 : goal.specials-preserved-then-text-at-eq10
specials-preserved-then-text-at-eq10 c =
    let run = after_run _ _ _ _ _ _ c.specials.invariant _ _ c.put_run-at.auto.output _ (omega arith) (omega (arith, c.min.ensures)) (omega (arith, c.min.ensures)) c.put_run-at.ensures.bounds c.put_run-at.ensures.least c.put_run-at.ensures.written in
    let special = run.stopped c.if-at-end.false in
    after_line _ _ _ _ _ _ run.reading _ _ c.put_ended_line-len.auto.output special.0 special.1 c.if-text-at-eq10.true c.put_ended_line-len.ensures.bounds c.put_ended_line-len.ensures.written

pub put_escapes-count-requires-clause-sign : goal.put_escapes-count-requires-clause-sign
put_escapes-count-requires-clause-sign c =
    let run = after_run _ _ _ _ _ _ c.specials.invariant _ _ c.put_run-at.auto.output _ (omega arith) (omega (arith, c.min.ensures)) (omega (arith, c.min.ensures)) c.put_run-at.ensures.bounds c.put_run-at.ensures.least c.put_run-at.ensures.written in
    let special = run.stopped c.if-at-end.false in
    special.2 c.if-text-at-eq10.false

pub specials-preserved-then-next-at : goal.specials-preserved-then-next-at
specials-preserved-then-next-at c =
    let run = after_run _ _ _ _ _ _ c.specials.invariant _ _ c.put_run-at.auto.output _ (omega arith) (omega (arith, c.min.ensures)) (omega (arith, c.min.ensures)) c.put_run-at.ensures.bounds c.put_run-at.ensures.least c.put_run-at.ensures.written in
    let special = run.stopped c.if-at-end.false in
    after_sign _ _ _ _ _ _ run.reading _ c.put_escapes-count.auto.output special.0 special.1 (special.2 c.if-text-at-eq10.false) (c.put_escapes-count.ensures.first.0 (omega (arith, c.after_soft_break-next.ensures.bounds, c.if-next-at.true)))

pub specials-preserved : goal.specials-preserved
specials-preserved c =
    let run = after_run _ _ _ _ _ _ c.specials.invariant _ _ c.put_run-at.auto.output _ (omega arith) (omega (arith, c.min.ensures)) (omega (arith, c.min.ensures)) c.put_run-at.ensures.bounds c.put_run-at.ensures.least c.put_run-at.ensures.written in
    after_both _ _ _ _ _ _ run.reading _ _ c.put_escapes-count.auto.output c.put_escapes-count.ensures.fits c.put_escapes-count.ensures.first c.put_escapes-count.ensures.bounds c.put_escapes-count.ensures.read
    _ c.if-next-at.false c.after_soft_break-next.ensures.bounds.1 c.after_soft_break-next.ensures.soft

pub put_line-len-requires-clause-plain : goal.put_line-len-requires-clause-plain
put_line-len-requires-clause-plain c = copy-no_escape _ _ _ _ _ _ c.specials.invariant

pub returns-clause-read : goal.returns-clause-read
returns-clause-read c =
    after_all _ _ _ _ _ _ c.specials.invariant _ _ c.put_line-len.auto.output c.put_line-len.ensures.bounds (omega (arith, c.specials.invariant.within, c.specials-test.false)) c.put_line-len.ensures.written
