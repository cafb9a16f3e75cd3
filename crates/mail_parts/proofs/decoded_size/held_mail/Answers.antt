use Rattle.std.proofs.Common.{length, sym, ap, ◌∙◌}
use Rattle.std.proofs.lemmas.Bool.{cond-true, cond-false}
use Rattle.mailparse.specs.BodyViews.{content_of}
use Rattle.mailparse.specs.Mail.{root}
use Rattle.mailparse.specs.Views.{tree_of}
use Rattle.mail_read.specs.InnerMails.{is_plain}
use Rattle.mail_read.specs.lenient.Content.{Content}
use Rattle.mail_read.specs.lenient.Encoding.{lenient_body_kind}
use Rattle.mail_parts.proofs.decoded_size.held_mail.Goals.{then-is_plain, else-is_plain}
use Rattle.mail_parts.proofs.decoded_size.held_mail.Goals as goal

pub returns-clause-bytes : goal.returns-clause-bytes
returns-clause-bytes c =
    let node = root (tree_of c.args.part.now) in
    ap (λ (content : Content). content.bytes) (c.in_ok-content.ensures.read (lenient_body_kind node) (content_of node) c.in_ok-body.ensures.read)

pub returns-clause-size : goal.returns-clause-size
returns-clause-size c =
    let node = root (tree_of c.args.part.now) in
    let kind = lenient_body_kind node in
    let plain = c.is_plain.ensures kind (content_of node) c.in_ok-body.ensures.read in
    let bytes = ap (λ (content : Content). content.bytes) (c.in_ok-content.ensures.read kind (content_of node) c.in_ok-body.ensures.read) in
    elim c.if-is_plain.branch [
      | then-is_plain w ↦ w.size-is ∙ sym (cond-true (is_plain kind) _ _ (sym plain ∙ w.if-is_plain.true))
      | else-is_plain w ↦ w.size-is ∙ ap length (w.as_slice.ensures.value ∙ bytes) ∙ sym (cond-false (is_plain kind) _ _ (sym plain ∙ w.if-is_plain.false))
    ]
