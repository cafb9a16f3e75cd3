use Rattle.std.proofs.Common.{◌≡◌, List, ℕ, IfOk, sym, subst, ◌∙◌}
use Rattle.std.specs.Cow.{cow_str_bytes}
use Rattle.mail_read.specs.lenient.Quoting.{with_quotes}
use Rattle.mail_read.proofs.lemmas.lenient.Repairs.{whole-text}
use Rattle.mail_read.proofs.lenient.repairs.repaired.Goals as goal

pub returns-then-lacks_nothing : goal.returns-then-lacks_nothing
returns-then-lacks_nothing c =
    subst (λ (text : List ℕ). IfOk c.with_quotes.result (λ made. cow_str_bytes made ≡ with_quotes text))
    (whole-text c.args.text.now c.utf8.text (sym c.lacks_nothing.ensures ∙ c.if-lacks_nothing.true)) c.with_quotes.ensures
