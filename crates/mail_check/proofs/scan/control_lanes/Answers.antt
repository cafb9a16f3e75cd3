use Rattle.mail_check.proofs.lemmas.Controls.{control_mask}
use Rattle.mail_check.proofs.scan.control_lanes.Goals as goal

pub returns : goal.returns
returns c = control_mask c.args.bytes c.fits-bytes
