use Rattle.mail_codec.proofs.lemmas.Vectors.{whitespace_mask}
use Rattle.mail_codec.proofs.vectors.masks.whitespace_lanes.Goals as goal

pub returns : goal.returns
returns c = whitespace_mask c.args.bytes _ c.fits-bytes c.whitespace_like.ensures
