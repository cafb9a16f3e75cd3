use Rattle.std.proofs.Common.{List, ℕ, sym, ap, ◌∙◌}
use Rattle.std.specs.Str.{chars}
use Rattle.mail_read.specs.lenient.Repairs.{ends_name}
use Rattle.mail_read.proofs.lemmas.lenient.Repairs.{begins-letter}
use Rattle.mail_read.proofs.lenient.repairs.begins_parameter.Goals as goal

pub returns-then-is_ascii_alphabetic : goal.returns-then-is_ascii_alphabetic
returns-then-is_ascii_alphabetic c =
    c.ends_name.ensures ∙ ap (λ (t : List ℕ). ends_name (chars t)) c.as_str.ensures
    ∙ begins-letter c.args.text.now c.chars-chars.result.rest.now c.next.new.self.rest.now c.in-Some.c c.utf8.text c.chars-chars.ensures.rest
    c.in-Some.ensures.steps.0 (sym c.is_ascii_alphabetic.ensures.value ∙ c.if-is_ascii_alphabetic.true)
