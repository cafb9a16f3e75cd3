use Rattle.std.proofs.Common.{List, ℕ, ◌++◌, ap, ◌∙◌}
use Rattle.mail_codec.proofs.lemmas.Uuencode.{line_bytes-is}
use Rattle.mail_codec.proofs.transfer.uuencode.push_line.Goals as goal

pub returns : goal.returns
returns c =
    c.in_ok-push_bytes.ensures
    ∙ ap (λ (x : List ℕ). c.args.bytes.now.items ++ x) (line_bytes-is c.args.line.now _ _ c.after.ensures c.value_at-count.ensures.value)
