-- What a contract sees of the parameter `delsp`, and of a line of a text whose paragraphs flow.
use Rattle.std.specs.Prelude.{Bool, true, false}
use Rattle.mail_data.specs.Flowed as words
use Rattle.mail_data.specs.declared.flowed.DelSp.{DelSp}
use Rattle.mail_data.specs.declared.flowed.DelSp.TheVariants.{Yes, No}
use Rattle.mail_data.specs.declared.flowed.Line.{Line}

-- the space at the end of a line that continues is deleted
abbrev pub deletes : DelSp → Bool
deletes Yes = true
deletes No = false

-- a line
abbrev pub line_view : Line → words.Line
line_view line = record { depth = line.depth; content = line.content.now; ending = line.ending.now }
