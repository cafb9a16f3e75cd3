use Rattle.mail_json_text.proofs.lemmas.Members.{◌⨾◌}
use Rattle.mail_json.proofs.origin.write_origin.Goals as goal

pub returns : goal.returns
returns g c = c.in_ok-write_file.ensures ⨾ c.in_ok-add_number_or_null.ensures ⨾ c.in_ok-add_number.ensures ⨾ c.in_ok-add_number-2.ensures
