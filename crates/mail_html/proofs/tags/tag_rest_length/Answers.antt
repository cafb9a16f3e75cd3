use Rattle.std.proofs.Common.{ap}
use Rattle.std.proofs.lemmas.List.{take_rest}
use Rattle.mail_html.specs.Tags.{Attribute}
use Rattle.mail_html.proofs.lemmas.Tags.{rest_goes_on}
use Rattle.mail_html.proofs.tags.tag_rest_length.Goals as goal

pub pieces-preserved : goal.pieces-preserved
pieces-preserved c =
    rest_goes_on c.args.bytes.now c.pieces.at _ c.pieces.invariant c.pieces-test.true c.if-bytes-at-eq62.false c.piece.ensures.some (rw take_rest at c.piece.ensures.bounds)
    (ap (λ (a : Attribute). a.2) (rw take_rest at c.piece.ensures.value))
