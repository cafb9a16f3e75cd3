use Rattle.mail_json_text.proofs.lemmas.Members.{◌⨾◌}
use Rattle.mail_json.proofs.addresses.write_addresses.Goals as goal

pub returns : goal.returns
returns g c =
    c.in_ok-add_addresses.ensures ⨾ c.in_ok-add_addresses-2.ensures ⨾ c.in_ok-add_addresses-3.ensures ⨾ c.in_ok-add_addresses-4.ensures
    ⨾ c.in_ok-add_addresses-5.ensures ⨾ c.in_ok-add_addresses-6.ensures
