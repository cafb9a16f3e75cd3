use Rattle.std.proofs.Common.{◌∙◌}
use Rattle.mail_json_text.specs.Printed.{string_or_null}
use Rattle.mail_json_text.proofs.lemmas.Members.{value_renamed}
use Rattle.mail_json.proofs.part.write_refusal.Goals as goal

pub returns : goal.returns
returns g c = value_renamed string_or_null _ _ c.in_ok-add_optional.ensures (c.as_deref.ensures.value ∙ c.in_ok-text.ensures)
