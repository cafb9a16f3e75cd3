use Rattle.std.proofs.Common.{◌∙◌}
use Rattle.mail_json_text.proofs.lemmas.Written.{appends_as}
use Rattle.mail_json.proofs.part.write_part.Goals as goal

pub returns : goal.returns
returns g c =
    let object = c.in_ok-object.ensures.written in
    (object.0, object.1, appends_as _ _ _ _ (c.as_slice.ensures ∙ object.2) c.in_ok-write_all.ensures.bytes)
