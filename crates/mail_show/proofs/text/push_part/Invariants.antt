use Rattle.std.proofs.Common.{◌≡◌, ℕ, List, ◌++◌, take}
use Rattle.std.specs.List.{flat_map}
use Rattle.std.specs.String.{string_bytes}
use Rattle.std.proofs.Common.{length}
use Rattle.mailparse.specs.Mail.{Node, root}
use Rattle.mailparse.specs.Views.{tree_of}
use Rattle.mail_show.specs.Text.{header_line, part_line}
use Rattle.mail_show.proofs.text.push_part.Given as goal

-- the line of a part
abbrev line : ℕ → Node → List ℕ
line number node = part_line number node.ctype.mimetype (length node.headers) (length node.body)

-- the line of the part, and those of the headers so far
abbrev pub invariant-loop-field : goal.invariant-loop-field
invariant-loop-field l = string_bytes l.text ≡ string_bytes l.fn.text ++ (line l.number (root (tree_of l.part)) ++ flat_map header_line (take l.field-index l.field-items))
