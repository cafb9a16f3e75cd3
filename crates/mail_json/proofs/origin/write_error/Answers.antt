use Rattle.std.proofs.Common.{refl}
use Rattle.mail_json_text.proofs.lemmas.Members.{◌⨾◌, line_closed}
use Rattle.mail_json.proofs.origin.write_error.Goals as goal

pub returns : goal.returns
returns g c = line_closed _ c.write_word.result _ (c.in_ok-write_origin.ensures ⨾ c.in_ok-add_text.ensures) c.write_word.ensures refl
