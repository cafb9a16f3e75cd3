-- The lines that report what was saved; the program's own form.
use Rattle.std.specs.Prelude.{◌≡◌, ℕ, not, ◌&&◌, List, [], ◌∷◌, flat_map, Option, is_some, Result, Ok, Err, if◌then◌else◌}
use Rattle.std.specs.Io.KnownBytes.{Appends}
use Rattle.mail_extract.specs.FileLine.{FileLine, file_line_value}
use Rattle.mail_json_text.specs.Printed.{line_of}
use Rattle.mail_program.specs.Fault.{IsEnd}
use Rattle.mail_program.specs.Outcome.{worse}
use Rattle.mail_program.specs.declared.fault.Fault.{Fault}
use Rattle.mail_program.specs.declared.outcome.Outcome.{Outcome}
use Rattle.mail_program.specs.declared.outcome.Outcome.TheVariants.{Clean, Refused, Failed}

-- the text of a line
abbrev pub line_text : FileLine → List ℕ
line_text line = line_of (file_line_value line)

-- the text of lines
abbrev pub lines_text : List FileLine → List ℕ
lines_text lines = flat_map line_text lines

-- the outcome that a line reports: no error; something could not be saved; or it was refused or is damaged
abbrev pub judged : FileLine → Outcome
judged line = if is_some line.error then (if is_some line.size && not (is_some line.saved) then Failed else Refused) else Clean

-- the worst outcome that lines report
abbrev pub worst : List FileLine → Outcome
worst [] = Clean
worst (line ∷ lines) = worse (judged line) (worst lines)

-- lines were written and nothing else, and the outcome is the worst of theirs; otherwise memory ran out or a write failed
abbrev pub WritesAll : Option (List ℕ) → Option (List ℕ) → Result Outcome Fault → List FileLine → Type 0
WritesAll old new (Ok outcome) lines = Appends old new (lines_text lines) × (outcome ≡ worst lines)
WritesAll old new (Err fault) lines = IsEnd fault
