use Rattle.std.proofs.Common.{ap}
use Rattle.std.proofs.lemmas.Result.{IfOk-weaker}
use Rattle.mailparse.specs.BodyViews.{content_of}
use Rattle.mailparse.specs.Mail.{root}
use Rattle.mailparse.specs.Views.{tree_of}
use Rattle.mail_read.specs.lenient.Content.{Content}
use Rattle.mail_read.specs.lenient.Encoding.{lenient_body_kind}
use Rattle.mail_check.proofs.texts.part_content.Goals as goal

pub returns-clause-read : goal.returns-clause-read
returns-clause-read c =
    let node = root (tree_of c.args.part.now) in
    IfOk-weaker c.lenient_content.result _ _ (λ content read. ap (λ (r : Content). r.bytes) read)
    (c.lenient_content.ensures.read (lenient_body_kind node) (content_of node) c.in_ok-body.ensures.read)
