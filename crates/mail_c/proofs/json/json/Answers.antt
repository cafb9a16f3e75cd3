use Rattle.std.proofs.Common.{ℕ, List, ◌++◌, length, None, true, refl, sym, ap, subst, ◌∙◌}
use Rattle.std.specs.Prelude.{codes}
use Rattle.mailparse.specs.Mail.{Tree}
use Rattle.mailparse.specs.Refusal.{Reads}
use Rattle.mail_json.specs.JsonLines.{IsLineOf}
use Rattle.mail_json.specs.Origin.{Origin}
use Rattle.mail_json_text.specs.Printed.{text_of}
use Rattle.mail_c.specs.Json.{plain_options}
use Rattle.mail_c.proofs.json.json.Goals as goal

pub returns-in-Ok : goal.returns-in-Ok
returns-in-Ok g c =
    let options = plain_options (g.K.KnownCharsets.known c.args.known.now) in
    let origin : Origin = record { file = None; number = None; start = 0; end = length c.args.raw.now } in
    let object = c.in-Ok.ensures in
    let whole = object.2 ∙ ap (λ (bytes : List ℕ). bytes ++ text_of object.0) c.new-line.ensures.items in
    let line = c.in_ok-push-in-Ok.ensures.items ∙ ap (λ (bytes : List ℕ). bytes ++ codes "\n") whole in
    subst (λ (r : Reads Tree). IsLineOf options origin r true c.push.new.self.items) (sym c.in_ok-mail.ensures.read) (refl, object.0, object.1, line)
