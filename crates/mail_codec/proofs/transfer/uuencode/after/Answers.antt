use Rattle.std.proofs.Common.{ℕ, drop, ap, ◌∙◌}
use Rattle.std.proofs.lemmas.List.{drop_min, take_rest}
use Rattle.mail_codec.proofs.transfer.uuencode.after.Goals as goal

pub returns : goal.returns
returns c = take_rest c.args.bytes.now c.min.result ∙ ap (λ (k : ℕ). drop k c.args.bytes.now) c.min.ensures ∙ drop_min c.args.len c.args.bytes.now
