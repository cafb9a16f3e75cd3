-- The second of some headers, given whether the first was seen.
use Rattle.std.specs.Prelude.{Bool, true, false, List, [], ◌∷◌, Option, Some, None}
use Rattle.mail_check.specs.Lines.{HeaderLine, second_of}

abbrev pub second_after : Bool → List HeaderLine → Option HeaderLine
second_after false lines = second_of lines
second_after true [] = None
second_after true (line ∷ lines) = Some line
