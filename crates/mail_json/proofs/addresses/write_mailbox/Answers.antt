use Rattle.std.proofs.Common.{refl, sym, ap, ◌∙◌}
use Rattle.json.specs.Json.{string}
use Rattle.mail_json.specs.Addresses.{unless_empty}
use Rattle.mail_json_text.specs.Printed.{string_or_null}
use Rattle.mail_json_text.proofs.lemmas.Members.{◌⨾◌, closed, value_renamed}
use Rattle.mail_json.proofs.lemmas.Fields.{ok_same}
use Rattle.mail_json.proofs.addresses.write_mailbox.Goals as goal

pub returns : goal.returns
returns g c =
    let name = value_renamed string_or_null _ _ c.in_ok-add_optional.ensures (c.as_deref.ensures.value ∙ c.unless_empty-name.ensures ∙ ap unless_empty (sym (ok_same _ _ c.in_ok-get_shown_name.ensures))) in
    let address = value_renamed (λ t. string t) _ _ c.in_ok-add_text.ensures (c.as_str.ensures.value ∙ c.in_ok-address.ensures) in
    closed _ c.write_word.result _ (name ⨾ address) c.write_word.ensures refl
