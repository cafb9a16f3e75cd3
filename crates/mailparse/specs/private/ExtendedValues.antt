-- The state of the functions that read extended values; private to them.
use Rattle.std.specs.Prelude.{◌≡◌, ℕ, true, Bool, not, ◌&&◌, ◌==◌, List, [], ◌∷◌, map, slice_index_or, Option, Some, None, option_map, string_bytes, if◌then◌else◌}
use Rattle.std.specs.List.{flat_map}
use Rattle.std.specs.Option.{is_some}
use Rattle.mail_codec.specs.Charset.{Charsets}
use Rattle.mailparse.specs.ExtendedValues.{extended_at, extended_value, is_starred, label_in, name_under, starred, text_in}
use Rattle.mailparse.specs.Pairs.{Texts}
use Rattle.mailparse.specs.Sections.{Section, text, octets, numbered}
use Rattle.mailparse.specs.declared.parameters.extended_values.Reading.{Reading}
use Rattle.mailparse.specs.declared.parameters.extended_values.names.ExtendedName.{ExtendedName}
use Rattle.percent_encoding.specs.Percent.{percent_decode}

-- the entry of a name whose extended value has these bytes
abbrev pub extended_section : List ℕ → (List ℕ → List ℕ) → List ℕ → Section
extended_section name reading bytes = if is_some (numbered name) then octets reading bytes else text (reading bytes)

-- an extended name, by its bytes: the name, its extended value and the reading of the charset that this names
abbrev pub Found : Type 0
Found = List ℕ × List ℕ × Option (List ℕ → List ℕ)

-- an extended name of the code, as the definitions have it
abbrev pub extended_view : {C : Type 0} → (C → List ℕ → List ℕ) → ExtendedName C → Found
extended_view reads n = (n.name.now, n.value.now, option_map reads n.charset)

-- a key without the star at its end
abbrev pub star_taken : List ℕ → Option (List ℕ)
star_taken key = if is_starred key then Some (name_under key) else None

-- Under the charsets that are known.
module _ (known : Charsets) where
  -- the name of an entry, if its key ends in a star and the name is not a key
  abbrev pub found_at : Texts → List ℕ × List ℕ → List Found
  found_at keys e =
      if is_starred e.0 && not (is_some (keys (name_under e.0)))
      then (name_under e.0, e.1, known (label_in e.1)) ∷ []
      else []

  -- the extended names, in the order of the entries
  abbrev pub extended_entries : Texts → List (List ℕ × List ℕ) → List Found
  extended_entries keys entries = flat_map (found_at keys) entries

-- the names alone
abbrev pub names_of : {C : Type 0} → List (ExtendedName C) → List (List ℕ)
names_of extended = map (λ n. n.name.now) extended

-- the name at an index of a list
abbrev pub found_by_place : List Found → ℕ → Found
found_by_place found place = slice_index_or found place ([], [], None)

-- how the extended value of a name is read: the name, the reading of its charset, and whether the name is its own charset source
abbrev pub Read : Type 0
Read = List ℕ × (List ℕ → List ℕ) × Bool

-- a reading of the code, as the definitions have it
abbrev pub reading_view : {C : Type 0} → (C → List ℕ → List ℕ) → Reading C → Read
reading_view reads r = (string_bytes r.name, reads r.charset, r.is_own_source)

-- the names whose values are read
abbrev pub names_read : {C : Type 0} → List (Reading C) → List (List ℕ)
names_read readings = map (λ r. string_bytes r.name) readings

-- the entry of a value that is read this way
abbrev pub read_section : Read → List ℕ → Section
read_section r value = extended_section r.0 r.1 (percent_decode (if r.2 then text_in value else value))

-- how the value of the name at an index is read if the name at another index is its charset source
abbrev pub reading_by : List Found → ℕ → ℕ → Option Read
reading_by found place source = option_map (λ reading. ((found_by_place found place).0, reading, source == place)) (found_by_place found source).2

-- the name has an extended value, and its entry is that of the value, read this way
pub record IsReading (known : Charsets) (keys : Texts) (r : Read) : Type 0 where
  pub valued : is_some (keys (starred r.0)) ≡ true
  pub gives : extended_at known keys r.0 ≡ Some (read_section r (extended_value keys r.0))
