use Rattle.std.proofs.Common.{Some, length, refl, ap, ◌∙◌}
use Rattle.json.specs.Json.{string}
use Rattle.mail_read.specs.lenient.Content.{Content}
use Rattle.mail_json.specs.Part.{hash_of}
use Rattle.mail_json_text.specs.Printed.{string_or_null}
use Rattle.mail_json.specs.Values.{size_members}
use Rattle.mail_json_text.proofs.lemmas.Members.{◌⨾◌, closed, renamed, value_renamed}
use Rattle.mail_json.proofs.text_files.ListedFileListItem.write_item.Goals as goal

pub returns : goal.returns
returns g c =
    let content = c.in_ok-content.ensures in
    let path = value_renamed (λ t. string t) _ _ c.in_ok-add_text.ensures (c.as_str.ensures.value ∙ c.in_ok-path.ensures) in
    let name = value_renamed (λ t. string t) _ _ c.in_ok-add_text-2.ensures (c.as_str-2.ensures.value ∙ c.in_ok-name.ensures) in
    let size = renamed c.in_ok-write_size.ensures (ap (λ (x : Content). size_members x.fault (length x.bytes)) content) in
    let hash =
    value_renamed string_or_null _ _ c.in_ok-add_optional.ensures
    (c.as_deref.ensures.value ∙ c.in_ok-sha256.ensures ∙ ap (λ (x : Content). hash_of c.args.self.now.hashes (Some x)) content) in
    closed _ c.write_word.result _ (path ⨾ name ⨾ c.in_ok-add_number.ensures ⨾ c.in_ok-add_number-2.ensures ⨾ size ⨾ hash) c.write_word.ensures refl
