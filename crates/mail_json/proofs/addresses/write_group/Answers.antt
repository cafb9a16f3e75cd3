use Rattle.std.proofs.Common.{map, refl, sym, ap, ◌∙◌}
use Rattle.json.specs.Json.{string}
use Rattle.mail_address.specs.AddressViews.{member_view}
use Rattle.mail_json_text.specs.Printed.{list_of, text_of}
use Rattle.mail_json.specs.Values.{single_value}
use Rattle.mail_json.proofs.lemmas.Fields.{ok_same}
use Rattle.mail_json_text.proofs.lemmas.JsonText.{map_twice}
use Rattle.mail_json_text.proofs.lemmas.Members.{◌⨾◌, closed, value_renamed, valued}
use Rattle.mail_json_text.proofs.lemmas.Written.{appends_as}
use Rattle.mail_json.proofs.addresses.write_group.Goals as goal

pub returns : goal.returns
returns g c =
    let known = g.K.KnownCharsets.known c.args.known.now in
    let name = value_renamed (λ t. string t) _ _ c.in_ok-add_text.ensures (c.as_str.ensures.value ∙ sym (ok_same _ _ c.in_ok-name.ensures)) in
    let same =
    map_twice (single_value known) member_view c.as_slice.result.now ∙ ap (λ ms. map (single_value known) (map member_view ms)) c.as_slice.ensures.value in
    let members = appends_as _ _ _ _ (ap (λ js. text_of (list_of js)) same) c.in_ok-write_list.ensures in
    closed _ c.write_word-2.result _ (name ⨾ valued _ _ _ _ _ refl c.in_ok-write_word.ensures members) c.write_word-2.ensures refl
