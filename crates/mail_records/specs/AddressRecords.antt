-- The records of a list of addresses, and their strings; the crate's own form.
use Rattle.std.specs.Prelude.{ℕ, ◌+◌, List, [], ◌∷◌, ◌++◌, length, map, Option, Some, None}
use Rattle.mail_codec.specs.Charset.{Charsets}
use Rattle.mail_address.specs.Addresses.{Element, Single, group, single}
use Rattle.mail_address.specs.Lenient.{lenient_addresses}
use Rattle.mail_address.specs.Mailbox.{Parts}
use Rattle.mail_address.specs.ShownNames.{shown_display_name}
use Rattle.mail_address.specs.Text.{address_bytes}
use Rattle.mailparse.specs.Value.{value_text}
use Rattle.mail_records.specs.Records.{none}
use Rattle.mail_records.specs.Rows.{AppendsRows, AreRows, listed}
use Rattle.mail_records.specs.declared.addresses.AddressRecord.{AddressRecord}
use Rattle.mail_records.specs.declared.rows.Rows.{Rows}

-- an element or a member of a group: what it is, the index of its group, its name and its address
pub record Entry : Type 0 where
  pub kind : ℕ
  pub group : ℕ
  pub name : List ℕ
  pub address : List ℕ

-- its record, if its strings begin at this offset
abbrev pub entry_record : ℕ → Entry → AddressRecord
entry_record at entry = record {
  kind = entry.kind;
  group = entry.group;
  name_start = at;
  name_end = at + length entry.name;
  address_start = at + length entry.name;
  address_end = at + length entry.name + length entry.address;
}

-- its strings: its name and its address
abbrev pub entry_text : Entry → List ℕ
entry_text entry = entry.name ++ entry.address

-- records are those of these entries
abbrev pub AreRecords : List Entry → Rows AddressRecord → Type 0
AreRecords entries found = AreRows entry_record entry_text entries found

-- the records of these entries were appended
abbrev pub AppendsRecords : List Entry → Rows AddressRecord → Rows AddressRecord → Type 0
AppendsRecords more old new = AppendsRows entry_record entry_text more old new

-- Under the charsets that are known.
module _ (known : Charsets) where
  -- the entry of a mailbox, or of text that is not one
  abbrev pub found_entry : ℕ → Option Parts → List ℕ → Entry
  found_entry index (Some parts) text = record { kind = 0; group = index; name = shown_display_name known parts.display_name; address = value_text (address_bytes parts.local_part parts.domain) }
  found_entry index None text = record { kind = 2; group = index; name = []; address = text }

  -- the entry of an element in the group with this index, or in none
  abbrev pub single_entry : ℕ → Single → Entry
  single_entry index s = found_entry index s.mailbox s.text

  -- the entry of a group with this name
  abbrev pub group_entry : List ℕ → Entry
  group_entry name = record { kind = 1; group = none; name = shown_display_name known name; address = [] }

  -- the entries of an element, the first of which has this index: of a group also those of its members
  abbrev pub element_entries : ℕ → Element → List Entry
  element_entries index (single s) = single_entry none s ∷ []
  element_entries index (group g) = group_entry g.display_name ∷ map (single_entry index) g.members

  -- the entries of elements, the first of which has this index
  abbrev pub entries_from : ℕ → List Element → List Entry
  entries_from index [] = []
  entries_from index (element ∷ elements) =
      element_entries index element ++ entries_from (index + length (element_entries index element)) elements

  -- the records and the strings of the addresses in a raw value
  abbrev pub addresses_read : List ℕ → List AddressRecord × List ℕ
  addresses_read raw = listed entry_record entry_text (entries_from 0 (lenient_addresses raw))
