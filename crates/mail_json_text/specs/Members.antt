-- Members of an object that are written one after another; the program's own form.
use Rattle.std.specs.Prelude.{ℕ, ◌-◌, Bool, not, ◌&&◌, ◌||◌, ◌==◌, List, ◌++◌, length, take, drop, slice_index, Option, Result, Ok, Err, codes, if◌then◌else◌}
use Rattle.std.specs.Io.KnownBytes.{Appends}
use Rattle.std.specs.List.{list_all}
use Rattle.std.specs.Str.{bytes_eq}
use Rattle.json.specs.Json.{Json}
use Rattle.mail_codec.specs.Escapes.{may_need_escape}
use Rattle.mail_program.specs.declared.fault.Fault.{Fault}
use Rattle.mail_json_text.specs.Printed.{Member, begun, members_after, one}
use Rattle.mail_program.specs.Fault.{IsEnd}
use Rattle.mail_json_text.specs.declared.json_text.Position.{Position}
use Rattle.mail_json_text.specs.declared.json_text.Position.TheVariants.{First, Later}

-- a byte that needs no escape in a string
abbrev pub is_plain_byte : ℕ → Bool
is_plain_byte c = not (may_need_escape c)

-- the name in a key, which is the text before the value of a member: `{"name":` for the first one, and then `,"name":`
abbrev pub name_in : List ℕ → List ℕ
name_in key = take (length key - 4) (drop 2 key)

-- the position of the member that a key begins
abbrev pub position_in : List ℕ → Position
position_in key = if slice_index key 0 == 44 then Later else First

-- a text is a key, and its name needs no escape
abbrev pub is_key : List ℕ → Bool
is_key key =
    list_all is_plain_byte (name_in key) && bytes_eq (drop 1 key) (codes "\"" ++ name_in key ++ codes "\":")
    && (slice_index key 0 == 44 || slice_index key 0 == 123)

-- the text of members at a position of their object, without a closing brace
abbrev pub members_at : Position → List Member → List ℕ
members_at First members = begun members
members_at Later members = members_after members

-- members were written at a position of their object, and nothing else
pub record Adds (position : Position) (old new : Option (List ℕ)) (members : List Member) : Type 0 where
  pub text : Appends old new (members_at position members)

-- the same; otherwise memory ran out or a write failed
abbrev pub AddsAt : {T : Type 0} → Position → Option (List ℕ) → Option (List ℕ) → Result T Fault → List Member → Type 0
AddsAt position old new (Ok done) members = Adds position old new members
AddsAt position old new (Err fault) members = IsEnd fault

-- the first members of an object; members after others; and one member, by its key and its value
abbrev pub BeginsMembers : {T : Type 0} → Option (List ℕ) → Option (List ℕ) → Result T Fault → List Member → Type 0
BeginsMembers old new result members = AddsAt First old new result members

abbrev pub AddsMembers : {T : Type 0} → Option (List ℕ) → Option (List ℕ) → Result T Fault → List Member → Type 0
AddsMembers old new result members = AddsAt Later old new result members

abbrev pub AddsMember : {T : Type 0} → Option (List ℕ) → Option (List ℕ) → Result T Fault → List ℕ → Json → Type 0
AddsMember old new result key value = AddsAt (position_in key) old new result (one (name_in key) value)
