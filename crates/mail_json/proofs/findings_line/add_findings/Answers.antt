use Rattle.std.proofs.Common.{Bool, List, ℕ, Some, None, ◌++◌, sym, ap, ◌∙◌}
use Rattle.std.specs.Prelude.{codes, string_bytes, if◌then◌else◌}
use Rattle.json.specs.Json.{null, string}
use Rattle.mailparse.specs.Map.{text_found}
use Rattle.mailparse.specs.Refusal.{Reads}
use Rattle.mail_check.specs.Findings.{Finding}
use Rattle.mail_check.specs.Reading.{mail_findings}
use Rattle.mail_json_text.specs.Printed.{one}
use Rattle.mail_json.specs.Values.{found_members}
use Rattle.mail_json_text.specs.declared.json_text.Position.TheVariants.{Later}
use Rattle.mail_json.proofs.lemmas.Fields.{refused_text}
use Rattle.mail_json_text.proofs.lemmas.Members.{adds_as, none_added, renamed, then_added}
use Rattle.mail_json.proofs.findings_line.add_findings.Goals as goal

pub returns-then-not-options : goal.returns-then-not-options
returns-then-not-options g c =
    let given = mail_findings (g.K.KnownCharsets.known c.args.known.now) c.args.options.limit c.args.raw.now in
    renamed (none_added _) (ap (λ (lists : Bool). found_members (if lists then Some given else None)) (sym c.if-not-options.true))

pub returns-in_ok-add_null-in-Err : goal.returns-in_ok-add_null-in-Err
returns-in_ok-add_null-in-Err g c =
    let given = mail_findings (g.K.KnownCharsets.known c.args.known.now) c.args.options.limit c.args.raw.now in
    let found = ap text_found (sym c.in-Some.is) ∙ c.in_ok-text-in-Err.ensures.read in
    let refused = refused_text c.in-Err.error given (string_bytes c.in-Some.text) found c.in-Err.ensures in
    let said = c.as_str.ensures.value ∙ refused.2 in
    adds_as Later _ _ c.add_text.result _ _
    (ap (λ (t : List ℕ). one (codes "findings") null ++ one (codes "findings_error") (string t)) said
    ∙ ap (λ (r : Reads (List Finding)). found_members (Some r)) (sym refused.1)
    ∙ ap (λ (lists : Bool). found_members (if lists then Some given else None)) (sym c.if-not-options.false))
    (then_added Later _ c.add_text.result _ c.in_ok-add_null-in-Err.ensures c.add_text.ensures)
