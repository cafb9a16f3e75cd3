use Rattle.std.proofs.Common.{sym, ◌∙◌}
use Rattle.std.proofs.lemmas.Bool.{cond-false}
use Rattle.mailparse.specs.Body.{kind_named}
use Rattle.mailparse.specs.BodyViews.{name_of}
use Rattle.mail_read.specs.lenient.Encoding.{lenient_kind_named}
use Rattle.mail_read.proofs.lenient.encoding.LenientBody.new.Goals as goal

pub returns : goal.returns
unfolding lenient_kind_named
returns c =
    (kind_named (name_of c.args.transfer_encoding.now), cond-false _ _ _ (sym c.names_uuencode.ensures ∙ c.if-names_uuencode.false), c.new.ensures)
