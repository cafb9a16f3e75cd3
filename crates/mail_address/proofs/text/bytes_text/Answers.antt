use Rattle.std.proofs.Common.{◌≡◌, string_bytes, subst, sym, ap, ◌∙◌}
use Rattle.std.proofs.lemmas.Bool.{false≢true}
use Rattle.std.proofs.lemmas.Str.{IsUtf8-string_bytes}
use Rattle.std.specs.Str.{IsUtf8}
use Rattle.mail_codec.specs.Latin1.{latin1_text}
use Rattle.mail_address.proofs.lemmas.Text.{text-latin1, text-utf8}
use Rattle.mail_address.proofs.text.bytes_text.Goals as goal

pub returns-in-Ok : goal.returns-in-Ok
returns-in-Ok c =
    let same : string_bytes c.in-Ok.text ≡ c.args.bytes.items = ap (λ v. v.items) c.in-Ok.ensures.ok in
    let utf8 : IsUtf8 c.args.bytes.items = subst IsUtf8 same (IsUtf8-string_bytes c.in-Ok.text) in
    same ∙ sym (text-utf8 c.args.bytes.items utf8)

pub returns-in_ok-into_owned-in-Err : goal.returns-in_ok-into_owned-in-Err
returns-in_ok-into_owned-in-Err c =
    let same = c.as_bytes.ensures ∙ ap (λ v. v.items) c.in-Err.ensures.err in
    c.in_ok-into_owned-in-Err.ensures.ok ∙ c.in_ok-decode_latin1-in-Err.ensures.read ∙ ap latin1_text same
    ∙ sym (text-latin1 c.args.bytes.items (λ some. false≢true (c.in-Err.ensures.succeeds some)))
