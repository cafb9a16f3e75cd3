use Rattle.std.proofs.Common.{◌≡◌, ℕ, List, subst, sym, ap, ◌∙◌}
use Rattle.std.specs.Str.{trim}
use Rattle.mailparse.proofs.lemmas.Trims.{trim-visible}
use Rattle.mailparse.proofs.parameters.trimmed.trimmed.Goals as goal

pub returns-then-ends_visibly : goal.returns-then-ends_visibly
returns-then-ends_visibly c =
    let same = c.as_bytes-bytes.ensures.value in
    let last = c.ends_visibly.ensures c.if-ends_visibly.true in
    subst (λ (text : List ℕ). text ≡ trim c.args.text.now) same
    (sym (trim-visible c.as_bytes-bytes.result.now c.as_bytes-bytes.ensures.utf8 last.0 (sym c.begins_visibly.ensures ∙ c.if-begins_visibly.true) last.1)
    ∙ ap trim same ∙ c.after_space-rest.ensures)
