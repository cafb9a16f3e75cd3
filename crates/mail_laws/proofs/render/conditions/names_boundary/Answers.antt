use Rattle.std.proofs.Common.{ℕ, false, List, ap, sym, ◌∙◌}
use Rattle.std.specs.Prelude.{codes, option_map}
use Rattle.std.specs.Option.{option_map_or}
use Rattle.std.specs.Str.{bytes_eq}
use Rattle.mail_laws.specs.Boundaries.{boundary_type}
use Rattle.mail_laws.specs.Render.{type_header}
use Rattle.mail_laws.specs.RenderViews.{headers_seen}
use Rattle.mail_laws.proofs.lemmas.RenderConditions.{by_value, prefixed, not_prefixed}
use Rattle.mail_laws.proofs.render.conditions.names_boundary.Goals as goal

pub returns-in_default-strip_prefix : goal.returns-in_default-strip_prefix
returns-in_default-strip_prefix c =
    let test = λ (v : List ℕ). bytes_eq v (boundary_type c.args.boundary.now) in
    not_prefixed (codes "multipart/mixed; boundary=") c.in-Some.value.now c.args.boundary.now c.in_default-strip_prefix.ensures.cases
    ∙ ap (λ o. option_map_or test o false) (ap (option_map (λ v. v.now)) (sym c.in-Some.is) ∙ c.type_value.ensures)
    ∙ sym (by_value test false (type_header (headers_seen c.args.headers.now)))

pub returns : goal.returns
returns c =
    let test = λ (v : List ℕ). bytes_eq v (boundary_type c.args.boundary.now) in
    let cases = c.in-Some-strip_prefix.ensures.cases in
    c.eq.ensures
    ∙ ap (λ v. bytes_eq v c.args.boundary.now) cases.1
    ∙ prefixed (codes "multipart/mixed; boundary=") c.in-Some.value.now c.args.boundary.now cases.0
    ∙ ap (λ o. option_map_or test o false) (ap (option_map (λ v. v.now)) (sym c.in-Some.is) ∙ c.type_value.ensures)
    ∙ sym (by_value test false (type_header (headers_seen c.args.headers.now)))
