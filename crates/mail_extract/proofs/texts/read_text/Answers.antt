use Rattle.mailparse.specs.BodyViews.{content_of}
use Rattle.mailparse.specs.Mail.{root}
use Rattle.mailparse.specs.Views.{tree_of}
use Rattle.mail_read.specs.lenient.Encoding.{lenient_body_kind}
use Rattle.mail_extract.proofs.texts.read_text.Goals as goal

pub returns-clause-read : goal.returns-clause-read
returns-clause-read c =
    let node = root (tree_of c.args.part.now) in
    c.lenient_content.ensures.read (lenient_body_kind node) (content_of node) c.in_ok-body.ensures.read
