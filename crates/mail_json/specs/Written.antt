-- Whether an error is among the lines that were written; the program's own words.
use Rattle.std.specs.Prelude.{Bool, true, false}
use Rattle.mail_json.specs.declared.written.Written.{Written}
use Rattle.mail_json.specs.declared.written.Written.TheVariants.{Clean, WithErrors}

-- no error is among the lines that were written
abbrev pub is_clean : Written → Bool
is_clean Clean = true
is_clean WithErrors = false
