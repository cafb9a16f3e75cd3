use Rattle.std.proofs.Common.{ℕ, List, SFits, rules, w64, Option, Some, option_map, sym, ap, ◌∙◌}
use Rattle.std.proofs.lemmas.Int.{to_z-of_z}
use Rattle.json.specs.Json.{string}
use Rattle.mail_read.specs.lenient.Date.{zoned_date_of}
use Rattle.mailparse.specs.Map.{text_found}
use Rattle.mail_json_text.specs.Printed.{seconds_value}
use Rattle.mail_json.specs.Values.{date_members}
use Rattle.mail_json_text.specs.declared.json_text.Position.TheVariants.{Later}
use Rattle.mail_json.proofs.lemmas.Fields.{ok_same}
use Rattle.mail_json.proofs.lemmas.Mail.{date_read, date_refused}
use Rattle.mail_json_text.proofs.lemmas.Members.{◌⨾◌, adds_as, renamed, value_renamed}
use Rattle.mail_json.proofs.mail.write_date.Goals as goal

pub returns-in_default : goal.returns-in_default
returns-in_default g c =
    let none = ok_same _ _ c.in_ok-date.ensures ∙ ap text_found c.in_default.is in
    adds_as Later _ _ c.add_null.result _ _ (ap (λ (o : Option (List ℕ)). date_members (option_map zoned_date_of o)) (sym none)) c.add_null.ensures

pub returns-in-Ok : goal.returns-in-Ok
returns-in-Ok g c =
    let value = ok_same _ _ c.in_ok-date.ensures ∙ ap text_found c.in-Some.is ∙ ap Some (sym c.as_str.ensures.value) in
    let read = sym c.zoned_date_of.ensures ∙ c.in-Ok.is in
    let fits : SFits w64 c.in-Ok.seconds = search rules in
    let seconds = value_renamed seconds_value _ _ c.in_ok-add_seconds-in-Ok.ensures (to_z-of_z w64 c.in-Ok.seconds fits) in
    renamed (seconds ⨾ c.in_ok-write_zone-in-Ok.ensures) (sym (date_read _ c.as_str.result.now (c.in-Ok.seconds, c.in-Ok.is_zone_known) value read))

pub returns : goal.returns
returns g c =
    let value = ok_same _ _ c.in_ok-date.ensures ∙ ap text_found c.in-Some.is ∙ ap Some (sym c.as_str.ensures.value) in
    let fault = sym c.zoned_date_of.ensures ∙ c.in-Err.is in
    let why = value_renamed (λ t. string t) _ _ c.in_ok-add_text-in-Err.ensures c.date_fault.ensures in
    renamed (c.in_ok-add_null-in-Err.ensures ⨾ why) (sym (date_refused _ c.as_str.result.now c.in-Err.error value fault))
