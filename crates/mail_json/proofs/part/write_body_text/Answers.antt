use Rattle.std.proofs.Common.{Bool, List, ℕ, sym, ap, ◌∙◌, true}
use Rattle.json.specs.Json.{string}
use Rattle.mailparse.specs.Views.{content_type}
use Rattle.mail_read.specs.lenient.ContentViews.{content_view, fault_view}
use Rattle.mail_read.specs.lenient.Texts.{charset_used, lenient_text}
use Rattle.mail_read.proofs.lemmas.lenient.Texts.{some-mapped}
use Rattle.mail_json.specs.Options.{options_of}
use Rattle.mail_json.specs.Part.{html_shown, text_shown}
use Rattle.mail_json_text.specs.Printed.{Member, string_or_null}
use Rattle.mail_json.specs.Values.{text_members}
use Rattle.mail_json_text.specs.declared.json_text.Position.TheVariants.{Later}
use Rattle.mail_json.proofs.lemmas.Fields.{ok_same}
use Rattle.mail_json_text.proofs.lemmas.Members.{◌⨾◌, adds_as, renamed, value_renamed}
use Rattle.mail_json.proofs.lemmas.Part.{text-hidden, text-shown}
use Rattle.mail_json.proofs.part.write_body_text.Goals as goal

pub returns-then-not-is_read : goal.returns-then-not-is_read
returns-then-not-is_read g c =
    let options = options_of (g.K.KnownCharsets.known c.args.known.now) c.args.options in
    adds_as Later _ _ c.write_no_text.result _ _
    (text-hidden options.known options.joins_flowed options.html c.args.is_read (content_type c.args.ctype.now) (content_view c.args.content.now) c.if-not-is_read.true)
    c.write_no_text.ensures

pub returns : goal.returns
returns g c =
    let options = options_of (g.K.KnownCharsets.known c.args.known.now) c.args.options in
    let known = options.known in
    let joins = options.joins_flowed in
    let html = options.html in
    let ctype = content_type c.args.ctype.now in
    let content = content_view c.args.content.now in
    let read = c.in_ok-shown.ensures ∙ ap (text_shown joins ctype) (sym (ok_same _ _ c.in_ok-text.ensures)) in
    let text = value_renamed (λ t. string t) _ _ c.in_ok-add_text.ensures (c.as_str.ensures.value ∙ read) in
    let html-is = value_renamed string_or_null _ _ c.in_ok-add_optional.ensures (c.as_deref.ensures.value ∙ c.in_ok-html.ensures ∙ ap (html_shown html ctype) (c.as_str-2.ensures.value ∙ read)) in
    let charset = value_renamed (λ t. string t) _ _ c.in_ok-add_text-2.ensures c.charset_used.ensures in
    let shown : List ℕ → Bool → List Member =
    λ b is_damaged.
    let text = text_shown joins ctype (lenient_text known ctype.charset b) in
    text_members true text (html_shown html ctype text) (charset_used known ctype.charset b) is_damaged in
    renamed (text ⨾ html-is ⨾ charset ⨾ c.in_ok-write_damaged.ensures)
    (ap (λ (b : List ℕ). shown b c.is_some.result) c.as_slice-bytes.ensures.value
    ∙ ap (λ d. shown content.bytes d) (c.is_some.ensures ∙ some-mapped fault_view c.args.content.now.fault)
    ∙ text-shown known joins html c.args.is_read ctype content c.if-not-is_read.false)
