use Rattle.mail_codec.proofs.lemmas.Vectors.{from_mask}
use Rattle.mail_codec.proofs.vectors.masks.lanes_from.Goals as goal

pub returns : goal.returns
returns c = from_mask c.args.bound c.args.bytes c.fits-bytes.0
