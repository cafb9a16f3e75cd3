use Rattle.std.proofs.Common.{◌≡◌, false, sym, ap, ◌∙◌}
use Rattle.std.specs.Option.{is_some}
use Rattle.mail_codec.specs.Places.{byte_place}
use Rattle.mail_read.proofs.lemmas.lenient.Comments.{without_opening}
use Rattle.mail_read.proofs.lenient.comments.without_comments.Goals as goal

pub returns : goal.returns
returns c =
    let absent : is_some (byte_place c.args.text.now 40) ≡ false =
    ap (λ bytes. is_some (byte_place bytes 40)) (sym c.as_bytes.ensures.value) ∙ ap is_some (sym c.find_byte.ensures)
    ∙ sym c.is_some.ensures ∙ c.if-is_some.false in
    without_opening c.args.text.now c.utf8.text absent
