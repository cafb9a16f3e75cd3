use Rattle.std.proofs.Common.{Ok, sym, ap, ◌∙◌}
use Rattle.std.specs.String.{string_bytes}
use Rattle.mailparse.specs.BodyViews.{content_of}
use Rattle.mailparse.specs.ContentType.{ContentType}
use Rattle.mailparse.specs.Mail.{root}
use Rattle.mailparse.specs.Views.{tree_of}
use Rattle.mail_read.specs.lenient.ContentViews.{content_view, fault_view}
use Rattle.mail_read.specs.lenient.Encoding.{lenient_body_kind}
use Rattle.mail_read.specs.lenient.Texts.{charset_used, lenient_text}
use Rattle.mail_read.proofs.lemmas.Files.{ctype-out}
use Rattle.mail_read.proofs.lemmas.lenient.Texts.{body_text-is, ok-same, some-mapped}
use Rattle.mail_read.proofs.lenient.texts.body_text.Goals as goal

pub returns : goal.returns
returns g c =
    let known = g.K.KnownCharsets.known c.args.known.now in
    let m = c.args.part.now in
    let node = root (tree_of m) in
    let content = content_view c.in_ok-content.content in
    let text =
    ap (λ (t : ContentType). lenient_text known t.charset content.bytes) (sym (ctype-out m))
    ∙ ap (lenient_text known _) (sym c.as_slice-bytes.ensures.value) ∙ ok-same _ _ c.in_ok-text.ensures in
    let used =
    c.in_ok-from_str.ensures.ok ∙ c.charset_used-charset.ensures ∙ ap (charset_used known _) c.as_slice-bytes.ensures.value
    ∙ ap (λ (t : ContentType). charset_used known t.charset content.bytes) (ctype-out m) in
    let damaged = c.is_some.ensures ∙ some-mapped fault_view c.in_ok-content.content.fault in
    ap Ok (body_text-is known node content (string_bytes c.in_ok-text.text) (string_bytes c.in_ok-from_str.field-0) c.is_some.result
    (sym (c.in_ok-content.ensures.read (lenient_body_kind node) (content_of node) c.in_ok-body.ensures.read)) text used damaged)
