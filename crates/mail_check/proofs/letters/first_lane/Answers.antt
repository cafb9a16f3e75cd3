use Rattle.std.proofs.Common.{arith}
use Rattle.mail_codec.proofs.lemmas.Vectors.{first_lane_none, lowest_match}
use Rattle.mail_check.proofs.letters.first_lane.Goals as goal

pub returns-then-mask-eq0 : goal.returns-then-mask-eq0
returns-then-mask-eq0 c test bytes long is = first_lane_none test bytes c.args.mask long is c.if-mask-eq0.true

pub returns-else-mask-eq0 : goal.returns-else-mask-eq0
returns-else-mask-eq0 c test bytes long is = lowest_match test bytes c.args.mask (omega (arith, long)) is c.if-mask-eq0.false
