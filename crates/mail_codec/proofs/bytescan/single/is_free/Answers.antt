use Rattle.std.proofs.Common.{◌==◌}
use Rattle.mail_codec.proofs.lemmas.Blocks.{free_block}
use Rattle.mail_codec.proofs.bytescan.single.is_free.Goals as goal

pub returns : goal.returns
returns c = free_block (λ b. b == c.args.wanted) c.args.bytes.now c.args.at c.requires.within _ _ c.equal_lanes-first.ensures c.equal_lanes-second.ensures
