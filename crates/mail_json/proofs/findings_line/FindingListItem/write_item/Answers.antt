use Rattle.std.proofs.Common.{refl}
use Rattle.json.specs.Json.{string}
use Rattle.mail_json_text.proofs.lemmas.Members.{◌⨾◌, closed, value_renamed}
use Rattle.mail_json.proofs.findings_line.FindingListItem.write_item.Goals as goal

pub returns : goal.returns
returns g c =
    let name = value_renamed (λ t. string t) _ _ c.in_ok-add_text.ensures c.text.ensures in
    let kind = value_renamed (λ t. string t) _ _ c.in_ok-add_text-2.ensures c.text-2.ensures in
    let path = value_renamed (λ t. string t) _ _ c.in_ok-add_text-3.ensures c.as_str.ensures.value in
    let sentence = value_renamed (λ t. string t) _ _ c.in_ok-add_text-4.ensures c.sentence.ensures in
    closed _ c.write_word.result _ (name ⨾ kind ⨾ path ⨾ c.in_ok-add_number.ensures ⨾ c.in_ok-add_number-2.ensures ⨾ sentence) c.write_word.ensures refl
