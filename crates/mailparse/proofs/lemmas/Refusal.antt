-- The result of a reading, seen through a function.
use Rattle.std.proofs.Common.{Ok}
use Rattle.mailparse.specs.Refusal.{◌>>=◌, Reads}

-- the same, unless it was refused
abbrev pub read_map : {A B : Type 0} → (A → B) → Reads A → Reads B
read_map f read = read >>= λ x. Ok (f x)
