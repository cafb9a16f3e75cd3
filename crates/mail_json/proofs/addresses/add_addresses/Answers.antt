use Rattle.std.proofs.Common.{map, sym, ap, ◌∙◌}
use Rattle.mail_address.specs.AddressViews.{element_view}
use Rattle.mail_address.specs.Lenient.{lenient_addresses_of}
use Rattle.mail_json_text.specs.Printed.{list_of, text_of}
use Rattle.mail_json.specs.Values.{element_value}
use Rattle.mail_json.proofs.lemmas.Fields.{ok_same}
use Rattle.mail_json_text.proofs.lemmas.JsonText.{map_twice}
use Rattle.mail_json_text.proofs.lemmas.Members.{member}
use Rattle.mail_json.proofs.lemmas.Part.{headers-out}
use Rattle.mail_json_text.proofs.lemmas.Written.{writes_as}
use Rattle.mail_json.proofs.addresses.add_addresses.Goals as goal

pub returns : goal.returns
returns g c =
    let known = g.K.KnownCharsets.known c.args.known.now in
    let found =
    ap (map element_view) c.as_slice.ensures.value ∙ sym (ok_same _ _ c.in_ok-list.ensures)
    ∙ ap (lenient_addresses_of c.args.header.now) (headers-out c.args.mail.now) in
    let same = ap list_of (map_twice (element_value known) element_view c.as_slice.result.now ∙ ap (map (element_value known)) found) in
    member _ _ _ c.write_list.result _ _ c.requires c.in_ok-write_word.ensures (writes_as _ _ c.write_list.result _ _ (ap text_of same) c.write_list.ensures)
