use Rattle.std.proofs.Common.{◌∙◌, sym}
use Rattle.std.proofs.lemmas.Bool.{cond-true}
use Rattle.mailparse.specs.BodyViews.{content_of}
use Rattle.mailparse.specs.Mail.{root}
use Rattle.mail_read.specs.InnerMails.{holds_mail}
use Rattle.mail_read.specs.PlaceViews.{place_view}
use Rattle.mail_read.specs.lenient.Encoding.{lenient_body_kind}
use Rattle.mail_check.proofs.inside.mail_in.Goals as goal

pub returns-clause-read : goal.returns-clause-read
returns-clause-read c =
    let place = place_view c.args.place.now in
    let node = root place.part in
    c.plain_bytes.ensures (lenient_body_kind node) (content_of node) c.in_ok-body.ensures.read
    ∙ sym (cond-true (holds_mail place) _ _ (sym c.holds_mail.ensures ∙ c.if-not-holds_mail.false))
