-- Lemmas on what was written.
use Rattle.std.proofs.Common.{◌≡◌, ℕ, List, ◌++◌, Option, Result, Ok, Err, subst}
use Rattle.std.proofs.KnownBytes.{Appends-trans}
use Rattle.std.specs.Io.KnownBytes.{Appends}
use Rattle.mail_program.specs.declared.fault.Fault.{Fault}
use Rattle.mail_program.specs.declared.fault.Fault.TheVariants.{Input, Mail, Output}
use Rattle.mail_program.specs.Fault.{IsEnd, IsFault}
use Rattle.mail_program.specs.Streams.{Writes}
use Rattle.mail_json_text.specs.Written.{WritesOne}

pub writes_then : {T : Type 0} (old mid new : Option (List ℕ)) (r : Result T Fault) (a b : List ℕ) → Appends old mid a → Writes mid new r b
    → Writes old new r (a ++ b)
writes_then old mid new (Ok done) a b p q = Appends-trans old mid new a b p q
writes_then old mid new (Err fault) a b p q = q

-- the text of one of these things was written
pub writes_one : {T A : Type 0} (text : A → List ℕ) (Is : A → Type 0) (old new : Option (List ℕ)) (r : Result T Fault) (x : A) → Is x → Writes old new r (text x)
    → WritesOne old new r text Is
writes_one text Is old new (Ok done) x h p = (x, h, p)
writes_one text Is old new (Err fault) x h p = p

-- the same text by another name
pub writes_as : {T : Type 0} (old new : Option (List ℕ)) (r : Result T Fault) (a b : List ℕ) → a ≡ b → Writes old new r a → Writes old new r b
writes_as old new r a b e p = subst (λ t. Writes old new r t) e p

pub appends_as : (old new : Option (List ℕ)) (a b : List ℕ) → a ≡ b → Appends old new a → Appends old new b
appends_as old new a b e p = subst (λ t. Appends old new t) e p

pub end_is_fault : (fault : Fault) → IsEnd fault → IsFault fault
end_is_fault (Mail e) h = h
end_is_fault (Input e) h = tt
end_is_fault (Output e) h = tt
