-- The line of a mail whose bodies are not decoded, by the whole line; the program's own form.
use Rattle.std.specs.Prelude.{ℕ, Bool, ◌||◌, List, codes, if◌then◌else◌}
use Rattle.std.specs.Str.{bytes_eq}
use Rattle.json.specs.Json.{Json, null, array, object, Items, no_items, item, Members, no_members, member}

-- a member of a part that is known only if its body is decoded: one that is `null` without that, and one that is absent
abbrev pub is_nulled : List ℕ → Bool
is_nulled name =
    bytes_eq name (codes "decoded_size") || bytes_eq name (codes "sha256") || bytes_eq name (codes "report") || bytes_eq name (codes "text_files")
    || bytes_eq name (codes "text") || bytes_eq name (codes "html_text")

abbrev pub is_left_out : List ℕ → Bool
is_left_out name = bytes_eq name (codes "error") || bytes_eq name (codes "text_charset") || bytes_eq name (codes "damaged")

-- the members of a part without them
abbrev pub part_without_text : Members → Members
part_without_text no_members = no_members
part_without_text (member name value members) =
    if is_left_out name then part_without_text members
    else member name (if is_nulled name then null else value) (part_without_text members)

-- the parts of a list without them
abbrev pub object_without_text : Json → Json
object_without_text (object members) = object (part_without_text members)
object_without_text value = value

abbrev pub items_without_text : Items → Items
items_without_text no_items = no_items
items_without_text (item value values) = item (object_without_text value) (items_without_text values)

abbrev pub parts_without_text : Json → Json
parts_without_text (array values) = array (items_without_text values)
parts_without_text value = value

-- the members of a line without them, and without the recipients that the mail reports
abbrev pub members_without_text : Members → Members
members_without_text no_members = no_members
members_without_text (member name value members) =
    member name (if bytes_eq name (codes "recipients") then null else (if bytes_eq name (codes "parts") then parts_without_text value else value))
    (members_without_text members)

-- the value of a line without them
abbrev pub without_text : Json → Json
without_text (object members) = object (members_without_text members)
without_text value = value
