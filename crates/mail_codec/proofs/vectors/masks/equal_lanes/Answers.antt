use Rattle.mail_codec.proofs.lemmas.Vectors.{equal_mask}
use Rattle.mail_codec.proofs.vectors.masks.equal_lanes.Goals as goal

pub returns : goal.returns
returns g c = equal_mask g.row.N c.args.wanted c.args.bytes c.requires c.fits-bytes.0
