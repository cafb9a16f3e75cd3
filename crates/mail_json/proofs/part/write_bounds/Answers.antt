use Rattle.mail_json_text.specs.Printed.{number_or_null}
use Rattle.mail_json_text.proofs.lemmas.Members.{◌⨾◌, value_renamed}
use Rattle.mail_json.proofs.part.write_bounds.Goals as goal

pub returns : goal.returns
returns g c =
    value_renamed number_or_null _ _ c.in_ok-add_number_or_null.ensures c.place_in.ensures
    ⨾ value_renamed number_or_null _ _ c.in_ok-add_number_or_null-2.ensures c.place_in-2.ensures
