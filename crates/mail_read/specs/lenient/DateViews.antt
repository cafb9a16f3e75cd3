-- What a contract sees of a part of a date and of the text after it.
use Rattle.std.specs.Prelude.{List, ℕ, Ok, Err}
use Rattle.std.specs.Borrow.{Bor}
use Rattle.mail_read.specs.lenient.Date.{Dated}

-- the part, and the text after it
abbrev pub part_and_rest : {A : Type 0} → A × Bor (List ℕ) → A × List ℕ
part_and_rest p = (p.0, p.1.now)

-- the part that was read, and the text after it
abbrev pub part_read : {A : Type 0} → Dated (A × Bor (List ℕ)) → Dated (A × List ℕ)
part_read (Ok p) = Ok (part_and_rest p)
part_read (Err fault) = Err fault
