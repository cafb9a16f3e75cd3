-- What a contract sees of the blocks of a report.
use Rattle.std.specs.Prelude.{ℕ, List, map, string_bytes}
use Rattle.mail_data.specs.declared.reports.Block.{Block}
use Rattle.mail_data.specs.declared.reports.Field.{Field}

-- a field: its name and its value
abbrev pub field_view : Field → List ℕ × List ℕ
field_view field = (string_bytes field.name, string_bytes field.value)

-- the fields of a block
abbrev pub block_view : Block → List (List ℕ × List ℕ)
block_view block = map field_view block.fields.items
