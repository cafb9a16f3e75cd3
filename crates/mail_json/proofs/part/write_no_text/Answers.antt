use Rattle.mail_json_text.proofs.lemmas.Members.{◌⨾◌}
use Rattle.mail_json.proofs.part.write_no_text.Goals as goal

pub returns : goal.returns
returns g c = c.in_ok-add_null.ensures ⨾ c.in_ok-add_null-2.ensures
