-- What a contract sees of the rule for ids.
use Rattle.std.specs.Prelude.{Bool, true, false}
use Rattle.mail_read.specs.declared.lenient.ids.IdRule.{IdRule}
use Rattle.mail_read.specs.declared.lenient.ids.IdRule.TheVariants.{WithAt, Any}

-- an id needs an `@`
abbrev pub needs_at : IdRule → Bool
needs_at WithAt = true
needs_at Any = false
