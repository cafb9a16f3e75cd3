use Rattle.mail_codec.proofs.lemmas.Vectors.{either_mask}
use Rattle.mail_codec.proofs.vectors.masks.either_lanes.Goals as goal

pub returns : goal.returns
returns g c = either_mask g.row.N c.args.first c.args.second c.args.bytes c.requires c.fits-bytes.0
