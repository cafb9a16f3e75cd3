use Rattle.std.proofs.Common.{List, ℕ, ap, ap₂, ◌∙◌}
use Rattle.mail_codec.specs.Latin1.{latin1_text}
use Rattle.mail_read.specs.lenient.Values.{header_text}
use Rattle.mail_json_text.specs.Printed.{text_of}
use Rattle.mail_json_text.specs.Printed.{pair_value}
use Rattle.mail_json_text.proofs.lemmas.Written.{writes_as}
use Rattle.mail_json.proofs.part.MailHeaderListItem.write_item.Goals as goal

pub returns : goal.returns
returns g c =
    let name = c.as_str.ensures.value ∙ c.in_ok-key.ensures.read ∙ ap latin1_text c.get_key_raw.ensures in
    let value = c.as_str-2.ensures.value ∙ c.in_ok-value.ensures.read ∙ ap (header_text (g.K.KnownCharsets.known c.args.known.now)) c.get_value_raw.ensures in
    writes_as _ _ c.write_pair.result _ _ (ap₂ (λ (a b : List ℕ). text_of (pair_value (a, b))) name value) c.write_pair.ensures
