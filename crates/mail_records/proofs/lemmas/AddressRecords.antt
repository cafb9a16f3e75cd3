-- Lemmas on the records of addresses.
use Rattle.std.proofs.Common.{◌≡◌, ℕ, List, [], ◌∷◌, ◌++◌, length, map, Result, Ok, Err, refl, ap, subst, ◌∙◌, append_assoc}
use Rattle.std.specs.List.{flat_map}
use Rattle.std.specs.Prelude.{OnOk}
use Rattle.mail_codec.specs.Charset.{Charsets}
use Rattle.mail_address.specs.Addresses.{Single}
use Rattle.mail_address.specs.ShownNames.{shown_display_name}
use Rattle.mail_records.specs.AddressRecords.{AreRecords, Entry, entry_record, entry_text, group_entry, single_entry}
use Rattle.mail_records.specs.Records.{none}
use Rattle.mail_records.specs.Rows.{rows_from}
use Rattle.mail_records.specs.declared.addresses.AddressRecord.{AddressRecord}
use Rattle.mail_records.specs.declared.rows.Rows.{Rows}
use Rattle.mail_records.proofs.lemmas.Rows.{length-rows, row-appended, two-texts}

-- there is a record for each entry
pub number-of : (entries : List Entry) (found : Rows AddressRecord) → AreRecords entries found → length found.records.items ≡ length entries
number-of entries found are = ap (λ (rs : List AddressRecord). length rs) are.0 ∙ length-rows entry_record entry_text 0 entries

-- a record was appended
pub next_record : (old : Rows AddressRecord) (entries : List Entry) (entry : Entry) (start middle end : ℕ) (mid strings : List ℕ) (records : List AddressRecord)
    → start ≡ length old.strings.items → middle ≡ length mid → end ≡ length strings → mid ≡ old.strings.items ++ entry.name → strings ≡ mid ++ entry.address
    → records ≡ old.records.items ++ record { kind = entry.kind; group = entry.group; name_start = start; name_end = middle; address_start = middle; address_end = end } ∷ []
    → AreRecords entries old
    → (records ≡ rows_from entry_record entry_text 0 (entries ++ entry ∷ [])) × (strings ≡ flat_map entry_text (entries ++ entry ∷ []))
next_record old entries entry start middle end mid strings records s m e is_mid is_strings is are =
    let texts = two-texts old.strings.items mid strings entry.name entry.address is_mid is_strings in
    let made : ◌≡◌ {A = AddressRecord} (record { kind = entry.kind; group = entry.group; name_start = start; name_end = middle; address_start = middle; address_end = end }) (entry_record (length old.strings.items) entry) =
    (rw (e ∙ texts.1, m ∙ texts.0, s) refl) in
    row-appended entry_record entry_text old entries entry _ records strings made is texts.2 are

-- what follows from the result of a call
pub on_ok : {X E T U : Type 0} (r : Result X E) → (T → U) → OnOk r T → OnOk r U
on_ok (Ok x) f h = f h
on_ok (Err e) f h = h

-- the entries of a group and of its members were appended
pub group_appended : (known : Charsets) (new : Rows AddressRecord) (entries : List Entry) (name display : List ℕ) (index : ℕ) (slice members : List Single)
    → name ≡ shown_display_name known display → index ≡ length entries → slice ≡ members
    → AreRecords ((entries ++ record { kind = 1; group = none; name = name; address = [] } ∷ []) ++ map (single_entry known index) slice) new
    → AreRecords (entries ++ group_entry known display ∷ map (single_entry known (length entries)) members) new
group_appended known new entries name display index slice members n i s are =
    let same = append_assoc entries (named name ∷ []) (map (single_entry known index) slice)
    ∙ ap (λ (t : List ℕ). entries ++ named t ∷ map (single_entry known index) slice) n
    ∙ ap (λ k. entries ++ group_entry known display ∷ map (single_entry known k) slice) i
    ∙ ap (λ (ms : List Single). entries ++ group_entry known display ∷ map (single_entry known (length entries)) ms) s in
    subst (λ (es : List Entry). AreRecords es new) same are
  where
    named : List ℕ → Entry
    named t = record { kind = 1; group = none; name = t; address = [] }
