use Rattle.std.proofs.Common.{refl}
use Rattle.mail_json_text.specs.Printed.{string_or_null}
use Rattle.mail_json_text.proofs.lemmas.Members.{◌⨾◌, closed, value_renamed}
use Rattle.mail_json.proofs.reports.RecipientListItem.write_item.Goals as goal

pub returns : goal.returns
returns g c =
    let final = value_renamed string_or_null _ _ c.in_ok-add_optional.ensures c.as_deref-final_recipient.ensures.value in
    let original = value_renamed string_or_null _ _ c.in_ok-add_optional-2.ensures c.as_deref-original_recipient.ensures.value in
    let action = value_renamed string_or_null _ _ c.in_ok-add_optional-3.ensures c.as_deref.ensures.value in
    let status = value_renamed string_or_null _ _ c.in_ok-add_optional-4.ensures c.as_deref-2.ensures.value in
    let code = value_renamed string_or_null _ _ c.in_ok-add_optional-5.ensures c.as_deref-3.ensures.value in
    closed _ c.write_word.result _ (final ⨾ original ⨾ action ⨾ status ⨾ code) c.write_word.ensures refl
