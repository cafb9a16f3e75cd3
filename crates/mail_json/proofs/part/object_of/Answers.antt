use Rattle.std.proofs.Common.{◌++◌, List, ℕ, ap, ◌∙◌}
use Rattle.mail_json_text.specs.Printed.{text_of}
use Rattle.mail_json.proofs.part.object_of.Goals as goal

pub returns-in-Ok-clause-written : goal.returns-in-Ok-clause-written
returns-in-Ok-clause-written g c =
    let object = c.in-Ok.ensures in
    (object.0, object.1, object.2 ∙ ap (λ (bytes : List ℕ). bytes ++ text_of object.0) c.in_ok-line.ensures)
