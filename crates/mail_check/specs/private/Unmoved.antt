-- Bytes of a value that change nothing of what was read of it.
use Rattle.std.specs.Prelude.{ℕ, Bool, false}
use Rattle.mail_check.specs.Parameters.{is_restricted}
use Rattle.mail_check.specs.declared.parameters.ValueState.{ValueState}
use Rattle.mail_check.specs.declared.parameters.ValueState.TheVariants.{Token, Text, Quoted}

-- a byte of a subtype, a disposition or a value after another one
unfoldable pub is_unmoved : ValueState → ℕ → Bool
is_unmoved Token b = is_restricted b
is_unmoved Text b = is_restricted b
is_unmoved Quoted b = is_restricted b
is_unmoved _ b = false
