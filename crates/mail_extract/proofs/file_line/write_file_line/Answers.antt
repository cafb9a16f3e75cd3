use Rattle.std.proofs.Common.{refl}
use Rattle.mail_json_text.proofs.lemmas.Members.{◌⨾◌, line_closed}
use Rattle.mail_extract.proofs.file_line.write_file_line.Goals as goal

pub returns : goal.returns
returns g c =
    let place = c.in_ok-add_optional.ensures ⨾ c.in_ok-add_number_or_null.ensures ⨾ c.in_ok-add_optional-2.ensures in
    let saved = place ⨾ c.in_ok-add_optional-3.ensures ⨾ c.in_ok-add_number_or_null-2.ensures ⨾ c.in_ok-add_optional-4.ensures in
    line_closed _ c.write_word.result _ (saved ⨾ c.in_ok-add_optional-5.ensures) c.write_word.ensures refl
