use Rattle.std.proofs.Common.{sym, ◌∙◌}
use Rattle.mail_json_text.specs.Printed.{string_or_null}
use Rattle.mail_json.proofs.lemmas.Fields.{ok_same}
use Rattle.mail_json_text.proofs.lemmas.Members.{◌⨾◌, value_renamed}
use Rattle.mail_json.proofs.part.write_disposition.Goals as goal

pub returns : goal.returns
returns g c =
    let kind = value_renamed string_or_null _ _ c.in_ok-add_optional.ensures c.disposition_name.ensures in
    let name = value_renamed string_or_null _ _ c.in_ok-add_optional-2.ensures c.as_deref.ensures.value in
    let id = value_renamed string_or_null _ _ c.in_ok-add_optional-3.ensures (c.as_deref-2.ensures.value ∙ sym (ok_same _ _ c.in_ok-id.ensures)) in
    kind ⨾ name ⨾ id
