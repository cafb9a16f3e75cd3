use Rattle.std.proofs.Common.{sym, ◌∙◌, arith}
use Rattle.mail_read.proofs.lemmas.lenient.Usual.{usual-parameter}
use Rattle.mail_read.proofs.lemmas.lenient.UsualTypes.{parameter-means, run-slice}
use Rattle.mail_read.proofs.lenient.usual.parameter_at.Goals as goal

pub returns : goal.returns
returns c =
    let bytes = c.args.bytes.now in
    let at = c.args.at in
    let name = c.name_start-name.ensures in
    let equals = c.run_end-equals.ensures in
    let equal = sym c.is_at-2.ensures ∙ c.if-not-is_at-2.false in
    let text = c.in_ok-text.ensures in
    record {
      order = (omega (arith, name.bounds.0), omega (arith, equals.end), omega (arith, text.order.0), text.order.1, text.order.2, text.order.3);
      ends = λ ends. usual-parameter bytes at c.name_start-name.result c.run_end-equals.result (sym c.is_at.ensures ∙ c.if-not-is_at.false) name.same equals.end
          equal (text.ends ends);
      named = run-slice bytes c.name_start-name.result c.run_end-equals.result equals.end;
      means = λ ascii ends. parameter-means bytes at c.name_start-name.result c.run_end-equals.result _ _ name.cut equals.end equal (text.means ascii) ends;
    }
