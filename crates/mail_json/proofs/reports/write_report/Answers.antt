use Rattle.std.proofs.Common.{map, option_map, sym, ap, ◌∙◌}
use Rattle.mail_data.specs.ReportViews.{block_view}
use Rattle.mail_json_text.specs.Printed.{list_of, text_of}
use Rattle.mail_json.specs.Values.{block_value, report_value}
use Rattle.mail_json_text.proofs.lemmas.JsonText.{map_twice}
use Rattle.mail_json_text.proofs.lemmas.Written.{writes_as}
use Rattle.mail_json.proofs.reports.write_report.Goals as goal

pub returns-in-Some : goal.returns-in-Some
returns-in-Some g c =
    let same = map_twice block_value block_view c.as_slice.result.now ∙ ap (λ bs. map block_value (map block_view bs)) c.as_slice.ensures.value in
    writes_as _ _ c.write_list.result _ _
    (ap (λ js. text_of (list_of js)) same ∙ ap (λ report. text_of (report_value (option_map (λ blocks. map block_view blocks.items) report))) (sym c.in-Some.is)) c.write_list.ensures
