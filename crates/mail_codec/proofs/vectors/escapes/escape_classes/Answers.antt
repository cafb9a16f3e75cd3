use Rattle.std.proofs.Common.{bit_and}
use Rattle.std.proofs.lemmas.Simd.{zip2_of_maps}
use Rattle.mail_codec.proofs.vectors.escapes.escape_classes.Goals as goal

pub returns : goal.returns
returns c = zip2_of_maps bit_and _ _ c.args.bytes c.upper_escapes_of.ensures c.lower_escapes_of.ensures
