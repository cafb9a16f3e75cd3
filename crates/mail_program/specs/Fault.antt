-- Which fault it is.
use Rattle.mailparse.specs.Outcome.{IsMemory}
use Rattle.mailparse.specs.declared.error.MailParseError.{MailParseError}
use Rattle.mail_program.specs.declared.fault.Fault.{Fault}
use Rattle.mail_program.specs.declared.fault.Fault.TheVariants.{Mail, Input, Output}

-- if the fault is one of the mail, this holds of its error
abbrev pub IfMail : (MailParseError → Type 0) → Fault → Type 0
IfMail P (Mail e) = P e
IfMail P (Input e) = Unit {0}
IfMail P (Output e) = Unit {0}

-- if the fault is one of the input, this holds
abbrev pub IfInput : Type 0 → Fault → Type 0
IfInput P (Mail e) = Unit {0}
IfInput P (Input e) = P
IfInput P (Output e) = Unit {0}

-- the fault is one of the output
abbrev pub IsOutput : Fault → Type 0
IsOutput (Mail e) = ⊥
IsOutput (Input e) = ⊥
IsOutput (Output e) = Unit {0}

-- memory ran out, or a write failed
abbrev pub IsEnd : Fault → Type 0
IsEnd (Mail e) = IsMemory e
IsEnd (Input e) = ⊥
IsEnd (Output e) = Unit {0}

-- memory ran out, or a read or a write failed
abbrev pub IsFault : Fault → Type 0
IsFault (Mail e) = IsMemory e
IsFault (Input e) = Unit {0}
IsFault (Output e) = Unit {0}
