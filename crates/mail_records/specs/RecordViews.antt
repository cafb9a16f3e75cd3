-- What a contract sees of records.
use Rattle.std.specs.Prelude.{ℕ, List, Result}
use Rattle.std.specs.Global.{Vec}
use Rattle.mailparse.specs.Views.{placement_of, tree_of}
use Rattle.mail_records.specs.Buffer.{seen}
use Rattle.mail_records.specs.Records.{Family, Item}
use Rattle.mail_records.specs.declared.records.HeaderRecord.{HeaderRecord}
use Rattle.mail_records.specs.declared.records.Node.{Node}
use Rattle.mail_records.specs.declared.records.Part.{Part}
use Rattle.mail_records.specs.declared.records.Records.{Records}

-- the family of a message
abbrev pub family_view : Node → Family
family_view node = record { parent = node.parent; level = node.level }

-- a message
abbrev pub item_view : Node → Item
item_view node = record { part = tree_of node.part.now; placement = placement_of node.part.now; family = family_view node }

-- the records of a mail and of its headers
abbrev pub lists : Records → List Part × List HeaderRecord
lists records = (records.parts.items, records.headers.items)

abbrev pub lists_found : Result Records ℕ → Result (List Part × List HeaderRecord) ℕ
lists_found found = seen lists found

-- the records of headers alone
abbrev pub items_found : {A : Type 0} → Result (Vec A) ℕ → Result (List A) ℕ
items_found found = seen (λ items. items.items) found
