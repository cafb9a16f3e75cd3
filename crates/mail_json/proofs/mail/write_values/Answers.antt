use Rattle.mail_json_text.proofs.lemmas.Members.{◌⨾◌}
use Rattle.mail_json.proofs.mail.write_values.Goals as goal

pub returns : goal.returns
returns g c = c.in_ok-add_value.ensures ⨾ c.in_ok-write_addresses.ensures
