use Rattle.std.proofs.Common.{refl, ◌∙◌}
use Rattle.json.specs.Json.{string}
use Rattle.mail_json_text.proofs.lemmas.Members.{closed, value_renamed}
use Rattle.mail_json.proofs.addresses.write_unknown.Goals as goal

pub returns : goal.returns
returns g c =
    closed _ c.write_word.result _ (value_renamed (λ t. string t) _ _ c.in_ok-add_text.ensures (c.as_str.ensures.value ∙ c.in_ok-text.ensures.read)) c.write_word.ensures refl
