-- What reading does to a reader whose bytes are known, and what writing does to such a writer.
use Rattle.std.specs.Prelude.{◌≡◌, ℕ, Bool, true, List, ◌++◌, Option, Result, Ok, Err, IfSome}
use Rattle.std.specs.Global.{Vec}
use Rattle.std.specs.Io.KnownBytes.{Appends, Consumes, IsAtEnd}
use Rattle.mailparse.specs.declared.error.MailParseError.TheVariants.{Memory}
use Rattle.mail_program.specs.Fault.{IsEnd}
use Rattle.mail_program.specs.declared.fault.Fault.{Fault}
use Rattle.mail_program.specs.declared.fault.Fault.TheVariants.{Mail, Input, Output}

-- memory ran out, or the fault is one of the input
abbrev pub IsReadFault : Fault → Type 0
IsReadFault (Mail (Memory e)) = Unit {0}
IsReadFault (Mail e) = ⊥
IsReadFault (Input e) = Unit {0}
IsReadFault (Output e) = ⊥

-- what reading to the end gives: all that the reader had left; a fault is that memory ran out, or
-- one of the input
abbrev pub IsRead : (left_before left : Option (List ℕ)) → Result (Vec ℕ) Fault → Type 0
IsRead left_before left (Ok input) = IsAtEnd left × IfSome left_before (λ all. input.items ≡ all)
IsRead left_before left (Err fault) = IsReadFault fault

-- reading took bytes off the reader and appended them to those that were read before, and the
-- reader may be at its end; a fault is that memory ran out, or one of the input
abbrev pub ReadsOn : (left_before left : Option (List ℕ)) → (before after : List ℕ)
    → Result Bool Fault → Type 0
ReadsOn left_before left before after (Ok has_ended) =
    (more : List ℕ) × Consumes left_before left more × (after ≡ before ++ more)
    × (has_ended ≡ true → IsAtEnd left)
ReadsOn left_before left before after (Err fault) = IsReadFault fault

-- the text was written and nothing else; otherwise memory ran out or a write failed
abbrev pub Writes : {T : Type 0} → (old new : Option (List ℕ)) → Result T Fault → List ℕ → Type 0
Writes old new (Ok done) text = Appends old new text
Writes old new (Err fault) text = IsEnd fault
