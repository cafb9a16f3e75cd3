use Rattle.std.proofs.Common.{◌∙◌, sym, arith}
use Rattle.std.proofs.lemmas.List.{length-drop, take_rest}
use Rattle.mail_html.proofs.lemmas.Tags.{named_later}
use Rattle.mail_html.proofs.tags.value_named.Goals as goal

pub pieces-preserved : goal.pieces-preserved
pieces-preserved c = record {
  within = omega (arith, length-drop c.pieces.at c.args.bytes.now, rw take_rest at c.piece-piece.ensures.bounds);
  same = named_later c.args.name.now c.args.bytes.now _ c.pieces.at c.pieces.invariant.same _ c.pieces-test.true c.if-bytes-at-eq62.false c.piece-piece.ensures.some
      (rw take_rest at c.piece-piece.ensures.value) (sym c.is_same_name.ensures ∙ c.if-is_same_name.false);
}
