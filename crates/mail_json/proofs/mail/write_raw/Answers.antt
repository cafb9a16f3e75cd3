use Rattle.std.proofs.Common.{refl}
use Rattle.mail_json_text.proofs.lemmas.Members.{◌⨾◌, closed}
use Rattle.mail_json.proofs.mail.write_raw.Goals as goal

pub returns : goal.returns
returns g c =
    closed _ c.write_word.result _
    (c.in_ok-add_raw.ensures ⨾ c.in_ok-add_raw-2.ensures ⨾ c.in_ok-add_raw-3.ensures ⨾ c.in_ok-add_raw-4.ensures
    ⨾ c.in_ok-add_raw-5.ensures ⨾ c.in_ok-add_raw-6.ensures) c.write_word.ensures refl
