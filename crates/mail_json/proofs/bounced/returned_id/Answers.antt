use Rattle.mailparse.specs.BodyViews.{content_of}
use Rattle.mailparse.specs.Mail.{root}
use Rattle.mail_read.specs.lenient.Content.{message_content}
use Rattle.mail_read.specs.lenient.ContentViews.{content_view}
use Rattle.mail_read.specs.lenient.Encoding.{lenient_body_kind}
use Rattle.mail_parts.specs.DecodedViews.{decoded_tree}
use Rattle.mail_json.proofs.lemmas.Bounced.{id_read}
use Rattle.mail_json.proofs.bounced.returned_id.Goals as goal

pub returns-clause-read : goal.returns-clause-read
returns-clause-read c = λ decodes is.
    let node = root (decoded_tree c.args.part.now) in
    id_read c.id_in-2.result _ (content_view c.in_ok-content.content) (message_content node) c.id_in-2.ensures.read c.as_slice-2.ensures.value
    (c.in_ok-content.ensures.read (lenient_body_kind node) (content_of node) is.body)
