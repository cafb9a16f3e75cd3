use Rattle.std.proofs.Common.{◌≡◌, rules, sym, ap, ◌∙◌}
use Rattle.mailparse.specs.ContentType.{ContentType}
use Rattle.mailparse.specs.Views.{content_type}
use Rattle.mail_read.specs.lenient.Content.{lenient_content}
use Rattle.mail_read.specs.lenient.ContentViews.{content_view}
use Rattle.mail_read.specs.lenient.Encoding.{LenientKind}
use Rattle.mail_read.specs.lenient.Texts.{charset_used}
use Rattle.mail_read.proofs.lemmas.lenient.Texts.{ok-same}
use Rattle.mail_records.proofs.lemmas.Ranges.{body_charset-is}
use Rattle.mail_records.proofs.ranges.body_charset.Goals as goal

pub returns : goal.returns
returns g c =
    let known = g.K.KnownCharsets.known c.args.known.now in
    let raw = c.args.raw.now in
    let content = content_view c.in_ok-content.content in
    let label = (content_type c.in_ok-ctype.ctype).charset in
    let read = c.in_ok-content.ensures.read _ _ c.new-body.ensures ∙ ap (λ (k : LenientKind). lenient_content k raw) c.in_ok-name.ensures in
    let typed = ap (λ (t : ContentType). t.charset) (sym (ok-same _ _ c.in_ok-ctype.ensures)) in
    let used : c.charset_used-charset.result.now ≡ charset_used known label content.bytes = c.charset_used-charset.ensures ∙ ap (charset_used known label) c.as_slice.ensures.value in
    let bytes : c.in_ok-to_vec.field-0.items ≡ c.charset_used-charset.result.now = search rules in
    body_charset-is known c.args.encoding raw c.args.raw_type.now content label _ read typed (bytes ∙ used)
