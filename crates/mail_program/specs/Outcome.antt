-- The outcome of two parts of a run together, and the exit statuses of programs.
use Rattle.std.specs.Prelude.{ℕ, Result, Ok, Err}
use Rattle.std.specs.Process.{exit_status}
use Rattle.std.specs.declared.process.ExitCode.{ExitCode}
use Rattle.mail_program.specs.declared.fault.Fault.{Fault}
use Rattle.mail_program.specs.declared.outcome.Outcome.{Outcome}
use Rattle.mail_program.specs.declared.outcome.Outcome.TheVariants.{Clean, Refused, Failed}

-- the worse of two outcomes: one that failed, then one where mails were refused
abbrev pub worse : Outcome → Outcome → Outcome
worse Clean other = other
worse Refused Clean = Refused
worse Refused Refused = Refused
worse Refused Failed = Failed
worse Failed other = Failed

-- the exit status for an outcome
abbrev pub status : Outcome → ℕ
status Clean = 0
status Refused = 3
status Failed = 1

-- the exit status of a program that ended with this status, or by a fault
abbrev pub ended_status : Result ExitCode Fault → ℕ
ended_status (Ok code) = exit_status code
ended_status (Err fault) = 1
