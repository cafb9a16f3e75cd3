use Rattle.std.proofs.Common.{refl}
use Rattle.mail_json_text.proofs.lemmas.Members.{◌⨾◌, line_closed}
use Rattle.mail_json.proofs.origin.write_unread.Goals as goal

pub returns : goal.returns
returns g c =
    let nulls = c.in_ok-write_file.ensures ⨾ c.in_ok-add_null.ensures ⨾ c.in_ok-add_null-2.ensures ⨾ c.in_ok-add_null-3.ensures in
    line_closed _ c.write_word.result _ (nulls ⨾ c.in_ok-add_text.ensures) c.write_word.ensures refl
