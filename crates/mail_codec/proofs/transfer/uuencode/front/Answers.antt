use Rattle.std.proofs.Common.{ℕ, take, ap, ◌∙◌}
use Rattle.std.proofs.lemmas.List.{take_min}
use Rattle.mail_codec.proofs.transfer.uuencode.front.Goals as goal

pub returns : goal.returns
returns c = ap (λ (k : ℕ). take k c.args.bytes.now) c.min.ensures ∙ take_min c.args.len c.args.bytes.now
