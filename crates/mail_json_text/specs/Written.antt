-- What a call wrote to a writer whose bytes are known; the program's own words.
use Rattle.std.specs.Prelude.{ℕ, List, Option, Result, Ok, Err}
use Rattle.std.specs.Io.KnownBytes.{Appends}
use Rattle.mail_program.specs.Fault.{IsEnd}
use Rattle.mail_program.specs.declared.fault.Fault.{Fault}

-- the text of one of these things was written and nothing else; otherwise memory ran out or a write failed
abbrev pub WritesOne : {T A : Type 0} → Option (List ℕ) → Option (List ℕ) → Result T Fault → (A → List ℕ) → (A → Type 0) → Type 0
WritesOne {A = A} old new (Ok done) text Is = (x : A) × Is x × Appends old new (text x)
WritesOne {A = A} old new (Err fault) text Is = IsEnd fault

-- the same if it succeeded
abbrev pub WroteOne : {T E A : Type 0} → Option (List ℕ) → Option (List ℕ) → Result T E → (A → List ℕ) → (A → Type 0) → Type 0
WroteOne {A = A} old new (Ok done) text Is = (x : A) × Is x × Appends old new (text x)
WroteOne {A = A} old new (Err fault) text Is = Unit {0}
