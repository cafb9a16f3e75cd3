use Rattle.std.proofs.Common.{◌≡◌, ◌-◌, ℕ, List, true, sym, subst, ◌∙◌}
use Rattle.mail_read.proofs.lemmas.lenient.Manner.{is_trimmed, trimmed-visible}
use Rattle.mail_read.proofs.lenient.manner.is_trimmed.Goals as goal

pub returns-then-is_ascii_graphic : goal.returns-then-is_ascii_graphic
returns-then-is_ascii_graphic c = λ last.
    subst (λ (text : List ℕ). is_trimmed text ≡ true) c.as_bytes-bytes.ensures.value
    (trimmed-visible c.as_bytes-bytes.result.now c.as_bytes-bytes.ensures.utf8 (sym c.is_empty.ensures ∙ c.if-is_empty.false)
    (sym c.is_ascii_graphic.ensures.value ∙ c.if-is_ascii_graphic.true)
    (sym c.is_ascii_graphic-then-is_ascii_graphic.ensures.value ∙ last))
