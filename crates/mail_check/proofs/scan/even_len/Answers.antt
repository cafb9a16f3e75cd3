use Rattle.std.proofs.Common.{◌∙◌, sym, arith}
use Rattle.mail_check.proofs.lemmas.LineEnds.{even_lanes}
use Rattle.mail_check.proofs.scan.even_len.Goals as goal

pub vectors-preserved : goal.vectors-preserved
vectors-preserved c = record {
  within = omega arith;
  none = even_lanes c.args.bytes.now c.vectors.at (omega arith) (sym c.byte_lanes-returns.ensures ∙ c.if-returns-feeds.false ∙ c.byte_lanes-feeds.ensures) c.vectors.invariant.none;
}
