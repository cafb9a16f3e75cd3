-- The row of the vector that a list of message ids lends: what the prover knows of the type `Vec<String>`.
use Rattle.std.specs.Borrow.{RattleType}
use Rattle.std.specs.contracts.alloc.Global as global
use Rattle.std.specs.contracts.string.String as text
use Rattle.std.specs.contracts.vec.Vec as vec
use Rattle.std.specs.contracts.impls.GlobalAllocator.TheImpl.{ghosts}

-- a `String`
abbrev pub text_row : RattleType
text_row = text.the_row global.the_row ghosts

-- a `Vec<String>`
abbrev pub ids_row : RattleType
ids_row = vec.the_row text_row global.the_row ghosts
