use Rattle.std.proofs.Common.{◌≡◌, string_bytes, subst, sym, ap, ◌∙◌}
use Rattle.std.proofs.lemmas.Str.{IsUtf8-string_bytes, utf8_lossy-IsUtf8}
use Rattle.std.specs.Str.{IsUtf8}
use Rattle.mail_codec.specs.Charset.{text_of}
use Rattle.mail_codec.proofs.charset.known.CharsetDecode.into_text_without_bom_handling.Goals as goal

pub returns-in-Ok : goal.returns-in-Ok
unfolding text_of
returns-in-Ok c =
    let same : string_bytes c.in-Ok.text ≡ c.args.bytes.items = ap (λ v. v.items) c.in-Ok.ensures.ok in
    let utf8 : IsUtf8 c.args.bytes.items = subst IsUtf8 same (IsUtf8-string_bytes c.in-Ok.text) in
    same ∙ sym (ap (λ k. text_of k c.args.bytes.items) c.in-Utf8.is ∙ utf8_lossy-IsUtf8 c.args.bytes.items utf8)
