use Rattle.std.proofs.Common.{refl}
use Rattle.json.specs.Json.{string}
use Rattle.mail_json_text.specs.Printed.{number_or_null}
use Rattle.mail_json_text.proofs.lemmas.Members.{◌⨾◌, closed, value_renamed}
use Rattle.mail_json.proofs.inside.write_inner.Goals as goal

pub returns : goal.returns
returns g c =
    let path = value_renamed (λ t. string t) _ _ c.in_ok-add_text.ensures c.as_str.ensures.value in
    let start = value_renamed number_or_null _ _ c.in_ok-add_number_or_null.ensures c.place_in.ensures in
    closed _ c.write_word.result _ (path ⨾ start ⨾ c.in_ok-add_refusal.ensures) c.write_word.ensures refl
