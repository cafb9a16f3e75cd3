use Rattle.std.proofs.Common.{◌∙◌, sym, ap, arith}
use Rattle.std.specs.Prelude.{is_some}
use Rattle.mail_check.specs.private.Patterns.{is_odd_end}
use Rattle.mail_check.proofs.lemmas.Bytes.{offset-found, offset-none, one_more}
use Rattle.mail_check.proofs.scan.has_odd_end.Goals as goal

pub returns-then-is_odd_end : goal.returns-then-is_odd_end
returns-then-is_odd_end c = ap is_some (offset-found (is_odd_end c.args.bytes.now) c.args.bytes.now c.bytes.at (omega arith) c.bytes.invariant.none (sym c.is_odd_end.ensures ∙ c.if-is_odd_end.true))

pub bytes-preserved : goal.bytes-preserved
bytes-preserved c = record {
  within = omega arith;
  none = one_more (is_odd_end c.args.bytes.now) c.bytes.at c.bytes.invariant.none (sym c.is_odd_end.ensures ∙ c.if-is_odd_end.false);
}

pub returns : goal.returns
returns c = ap is_some (offset-none (is_odd_end c.args.bytes.now) c.args.bytes.now (λ k low. c.bytes.invariant.none k (omega (arith, low))))
