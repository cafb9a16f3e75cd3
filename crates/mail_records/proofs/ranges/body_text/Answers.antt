use Rattle.std.proofs.Common.{◌≡◌, Ok, rules, sym, ap, ◌∙◌}
use Rattle.std.specs.String.{string_bytes}
use Rattle.mailparse.specs.ContentType.{ContentType}
use Rattle.mailparse.specs.Views.{content_type}
use Rattle.mail_read.specs.lenient.Content.{lenient_content}
use Rattle.mail_read.specs.lenient.ContentViews.{content_view, fault_view}
use Rattle.mail_read.specs.lenient.Encoding.{LenientKind}
use Rattle.mail_read.specs.lenient.Texts.{lenient_text}
use Rattle.mail_read.proofs.lemmas.lenient.Texts.{ok-same, some-mapped}
use Rattle.mail_records.proofs.lemmas.Ranges.{body_text-is}
use Rattle.mail_records.proofs.ranges.body_text.Goals as goal

pub returns : goal.returns
returns g c =
    let known = g.K.KnownCharsets.known c.args.known.now in
    let raw = c.args.raw.now in
    let content = content_view c.in_ok-content.content in
    let label = (content_type c.in_ok-ctype.ctype).charset in
    let read = c.in_ok-content.ensures.read _ _ c.new-body.ensures ∙ ap (λ (k : LenientKind). lenient_content k raw) c.in_ok-name.ensures in
    let typed = ap (λ (t : ContentType). t.charset) (sym (ok-same _ _ c.in_ok-ctype.ensures)) in
    let text = sym (ok-same _ _ c.in_ok-text.ensures) ∙ ap (lenient_text known label) c.as_slice.ensures.value in
    let bytes : c.into_bytes-bytes.result.items ≡ string_bytes c.in_ok-text.text = search rules in
    let damaged = c.is_some-is_damaged.ensures ∙ some-mapped fault_view c.in_ok-content.content.fault in
    ap (λ d. Ok d) (body_text-is known c.args.encoding raw c.args.raw_type.now content label _ _ read typed (bytes ∙ text) damaged)
