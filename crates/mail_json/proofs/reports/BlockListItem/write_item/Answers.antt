use Rattle.std.proofs.Common.{map, ap, ◌∙◌}
use Rattle.mail_data.specs.ReportViews.{field_view}
use Rattle.mail_json_text.specs.Printed.{list_of, text_of}
use Rattle.mail_json_text.specs.Printed.{pair_value}
use Rattle.mail_json_text.proofs.lemmas.JsonText.{map_twice}
use Rattle.mail_json_text.proofs.lemmas.Written.{writes_as}
use Rattle.mail_json.proofs.reports.BlockListItem.write_item.Goals as goal

pub returns : goal.returns
returns g c =
    let same = map_twice pair_value field_view c.as_slice.result.now ∙ ap (λ fs. map pair_value (map field_view fs)) c.as_slice.ensures.value in
    writes_as _ _ c.write_list.result _ _ (ap (λ js. text_of (list_of js)) same) c.write_list.ensures
