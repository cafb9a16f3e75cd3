use Rattle.std.proofs.Common.{ap, length}
use Rattle.mail_html.specs.Layout.{Written}
use Rattle.mail_html.proofs.html.push_literal.Goals as goal

pub returns : goal.returns
returns c = ap (λ (w : Written). ((w.0, w.1, c.args.layout.is_kept), length c.args.bytes.now)) c.in_ok-gap.ensures
