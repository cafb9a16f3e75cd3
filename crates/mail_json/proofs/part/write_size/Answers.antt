use Rattle.std.proofs.Common.{Option, length, option_map, sym, ap, ◌∙◌}
use Rattle.std.specs.Prelude.{codes}
use Rattle.std.specs.Cow.{cow_slice_items}
use Rattle.mail_read.specs.declared.lenient.content.ContentFault.{ContentFault}
use Rattle.mail_read.specs.lenient.ContentViews.{fault_view}
use Rattle.mail_program.specs.Refusal.{refusal_text}
use Rattle.mail_json_text.specs.Printed.{number_value, one, string_or_null}
use Rattle.mail_json.specs.Values.{size_members}
use Rattle.mail_json_text.specs.declared.json_text.Position.TheVariants.{Later}
use Rattle.mail_json_text.proofs.lemmas.Members.{◌⨾◌, adds_as, renamed, value_renamed}
use Rattle.mail_json.proofs.part.write_size.Goals as goal

pub returns-in-None : goal.returns-in-None
returns-in-None g c =
    let size = length (cow_slice_items c.args.content.now.bytes) in
    adds_as Later _ _ c.add_number.result _ _
    (ap (λ n. one (codes "decoded_size") (number_value n)) c.len.ensures ∙ ap (λ (f : Option ContentFault). size_members (option_map fault_view f) size) (sym c.in-None.is))
    c.add_number.ensures

pub returns-in_ok-add_optional-in-Some : goal.returns-in_ok-add_optional-in-Some
returns-in_ok-add_optional-in-Some g c =
    let size = length (cow_slice_items c.args.content.now.bytes) in
    let fault = c.in-Some.fault in
    let why = c.as_deref.ensures.value ∙ c.in_ok-text-in-Some.ensures.read ∙ ap (option_map refusal_text) c.from.ensures in
    renamed (c.in_ok-add_null-in-Some.ensures ⨾ value_renamed string_or_null _ _ c.in_ok-add_optional-in-Some.ensures why)
    (ap (λ (f : Option ContentFault). size_members (option_map fault_view f) size) (sym c.in-Some.is))
