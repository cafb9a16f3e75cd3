use Rattle.std.proofs.Common.{◌∙◌}
use Rattle.mail_codec.proofs.lemmas.Uuencode.{is_data-is}
use Rattle.mail_codec.proofs.transfer.uuencode.is_data.Goals as goal

pub returns : goal.returns
returns c = c.are_letters.ensures ∙ is_data-is c.args.line.now _ _ c.front.ensures c.needed.ensures
