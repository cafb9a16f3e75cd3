use Rattle.std.proofs.Common.{Some, sym, ap, ◌∙◌}
use Rattle.mailparse.specs.BodyViews.{content_of}
use Rattle.mailparse.specs.Mail.{root}
use Rattle.mail_read.specs.lenient.Encoding.{lenient_body_kind}
use Rattle.mail_parts.specs.Part.{content_if}
use Rattle.mail_parts.proofs.decoded.content_if.Goals as goal

pub returns-clause-read : goal.returns-clause-read
returns-clause-read c = λ part is.
    ap Some (c.in_ok-lenient_content.ensures.read (lenient_body_kind (root part)) (content_of (root part)) is)
    ∙ ap (λ decodes. content_if decodes (root part)) (sym c.if-not-decodes_bodies.false)
