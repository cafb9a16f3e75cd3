use Rattle.std.proofs.Common.{sym, ◌∙◌}
use Rattle.mailparse.specs.BodyViews.{content_of}
use Rattle.mailparse.specs.Mail.{root}
use Rattle.mailparse.specs.Views.{tree_of}
use Rattle.mail_read.specs.PlaceViews.{place_view}
use Rattle.mail_read.specs.lenient.Encoding.{lenient_body_kind}
use Rattle.mail_parts.proofs.lemmas.Decoded.{mail_wanted_if}
use Rattle.mail_parts.proofs.decoded.mail_if.Goals as goal

pub returns-clause-read : goal.returns-clause-read
returns-clause-read c = λ is.
    let node = root (tree_of c.args.place.now.part.now) in
    mail_wanted_if c.args.decodes_bodies (place_view c.args.place.now) _ (sym c.holds_mail.ensures ∙ c.if-not-holds_mail.false) c.if-decodes_bodies.false
    (c.in_ok-lenient_content.ensures.read (lenient_body_kind node) (content_of node) is)
