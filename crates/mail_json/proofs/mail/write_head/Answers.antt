use Rattle.std.proofs.Common.{refl, ◌∙◌}
use Rattle.mail_json_text.specs.Printed.{string_or_null}
use Rattle.mail_json_text.proofs.lemmas.Members.{◌⨾◌, value_renamed, valued}
use Rattle.mail_json.proofs.mail.write_head.Goals as goal

pub returns : goal.returns
returns g c =
    let bounced = value_renamed string_or_null _ _ c.in_ok-add_optional.ensures (c.as_deref.ensures.value ∙ c.in_ok-bounced.ensures.read c.args.options.decodes_bodies c.requires.decoded) in
    let own = c.in_ok-write_origin.ensures ⨾ c.in_ok-write_values.ensures ⨾ valued _ _ _ _ _ refl c.in_ok-write_word.ensures c.in_ok-write_raw.ensures in
    own ⨾ c.in_ok-write_date.ensures ⨾ c.in_ok-write_ids.ensures ⨾ bounced ⨾ valued _ _ _ _ _ refl c.in_ok-write_word-2.ensures c.in_ok-write_reported.ensures
