-- Records whose texts are one after another in a buffer of strings; the crate's own form.
use Rattle.std.specs.Prelude.{◌≡◌, ℕ, ◌+◌, List, [], ◌∷◌, ◌++◌, length, flat_map}
use Rattle.mail_records.specs.declared.rows.Rows.{Rows}

-- the records and the strings that were found
abbrev pub rows_view : {R : Type 0} → Rows R → List R × List ℕ
rows_view rows = (rows.records.items, rows.strings.items)

-- Entries, of which each has a record, made from the offset at which its text begins, and a text.
module _ {A R : Type 0} (row : ℕ → A → R) (text : A → List ℕ) where
  -- the records of entries, if the text of the first begins at this offset
  abbrev pub rows_from : ℕ → List A → List R
  rows_from at [] = []
  rows_from at (entry ∷ entries) = row at entry ∷ rows_from (at + length (text entry)) entries

  -- the records of entries, and their strings
  abbrev pub listed : List A → List R × List ℕ
  listed entries = (rows_from 0 entries, flat_map text entries)

  -- rows are those of these entries
  abbrev pub AreRows : List A → Rows R → Type 0
  AreRows entries rows = (rows.records.items ≡ rows_from 0 entries) × (rows.strings.items ≡ flat_map text entries)

  -- rows that had no entries have these
  abbrev pub ListsRows : List A → Rows R → Rows R → Type 0
  ListsRows entries old new = AreRows [] old → AreRows entries new

  -- entries were appended to rows
  abbrev pub AppendsRows : List A → Rows R → Rows R → Type 0
  AppendsRows more old new = (entries : List A) → AreRows entries old → AreRows (entries ++ more) new
