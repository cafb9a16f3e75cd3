use Rattle.std.proofs.Common.{refl, ap}
use Rattle.mail_check.specs.FindingViews.{finding_view}
use Rattle.mail_json_text.specs.Printed.{list_of, text_of}
use Rattle.mail_json.specs.Values.{finding_value}
use Rattle.mail_json_text.proofs.lemmas.JsonText.{map_twice}
use Rattle.mail_json_text.proofs.lemmas.Members.{member}
use Rattle.mail_json_text.proofs.lemmas.Written.{writes_as}
use Rattle.mail_json.proofs.findings_line.add_found.Goals as goal

pub returns : goal.returns
returns g c =
    let listed = writes_as _ _ c.write_list.result _ _ (ap (λ js. text_of (list_of js)) (map_twice finding_value finding_view c.args.found.now)) c.write_list.ensures in
    member _ _ _ c.write_list.result _ _ refl c.in_ok-write_word.ensures listed
