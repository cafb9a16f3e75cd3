use Rattle.std.proofs.Common.{Option, ℕ, sym, ap, ◌∙◌}
use Rattle.mailparse.specs.BodyViews.{content_of}
use Rattle.mailparse.specs.Mail.{root}
use Rattle.mailparse.specs.Views.{tree_of}
use Rattle.mail_read.specs.InnerMails.{mail_start}
use Rattle.mail_read.specs.PlaceViews.{place_view}
use Rattle.mail_read.specs.lenient.Encoding.{lenient_body_kind}
use Rattle.mail_read.proofs.lemmas.InnerMails.{start-encoded, start-plain}
use Rattle.mail_read.proofs.inner_mails.mail_start.Goals as goal

pub returns-then-not-is_plain : goal.returns-then-not-is_plain
returns-then-not-is_plain c = λ is.
    let node = root (tree_of c.args.place.now.part.now) in
    let place = place_view c.args.place.now in
    start-encoded c.in-Some.start place c.is_plain.result (c.is_plain.ensures (lenient_body_kind node) (content_of node) is) c.if-not-is_plain.true
    ∙ ap (λ (s : Option ℕ). mail_start s place) (sym c.in-Some.is)

pub returns : goal.returns
returns c = λ is.
    let node = root (tree_of c.args.place.now.part.now) in
    let place = place_view c.args.place.now in
    start-plain c.in-Some.start c.saturating_add.result place c.is_plain.result (c.is_plain.ensures (lenient_body_kind node) (content_of node) is)
    c.if-not-is_plain.false c.saturating_add.ensures
    ∙ ap (λ (s : Option ℕ). mail_start s place) (sym c.in-Some.is)
