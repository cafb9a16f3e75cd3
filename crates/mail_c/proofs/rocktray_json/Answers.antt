use Rattle.mail_charsets.specs.All.{all_known}
use Rattle.mail_c.specs.Json.{IsJson}
use Rattle.mail_records.proofs.lemmas.Buffer.{ends}
use Rattle.mail_c.proofs.rocktray_json.Goals as goal

pub returns : goal.returns
returns c =
    let known = all_known c.charsets.result in
    (c.charsets.result, ends (IsJson known c.args.mail.now) c.json.result _ _ _ _ _ c.json.ensures c.write_result.ensures)
