use Rattle.std.proofs.Common.{ap, length, arith}
use Rattle.mail_extract.proofs.lemmas.Fits.{none_first, none_more, row_more, row_none}
use Rattle.mail_extract.proofs.pattern.empty_row.Goals as goal

pub loop-byte-init : goal.loop-byte-init
loop-byte-init c =
    row_more _ c.args.text.now 0 c.new-row.result.items _ _ c.in_ok-push.ensures.items (none_first c.args.text.now)
    (row_none _ c.args.text.now _ (ap length c.new-row.ensures.items))

pub loop-byte-preserved : goal.loop-byte-preserved
loop-byte-preserved c =
    row_more _ c.args.text.now _ c.loop-byte.row.items _ _ c.in_ok-push-2.ensures.items (none_more c.args.text.now _ (omega arith) (omega arith)) c.loop-byte.invariant
