-- The authors and recipients of a mail as lines; the program's own form.
use Rattle.std.specs.Prelude.{ℕ, List, [], ◌∷◌, ◌++◌, Option, Some, None, flat_map, map, codes}
use Rattle.mail_codec.specs.Charset.{Charsets}
use Rattle.mailparse.specs.Mail.{Node}
use Rattle.mailparse.specs.Value.{value_text}
use Rattle.mail_address.specs.Addresses.{Element, Single, single, group}
use Rattle.mail_address.specs.Lenient.{lenient_addresses_of}
use Rattle.mail_address.specs.Mailbox.{Parts}
use Rattle.mail_address.specs.ShownNames.{shown_display_name}
use Rattle.mail_address.specs.Text.{address_bytes}
use Rattle.mail_read.specs.lenient.Names.{name_text}
use Rattle.mail_view.specs.Line.{Line, line}
use Rattle.mail_view.specs.Names.{shown_name}
use Rattle.mail_view.specs.declared.line.Prefix.{Prefix}

-- an address after its name, if it has one
abbrev pub named : List ℕ → List ℕ → List ℕ
named [] address = address
named (c ∷ cs) address = shown_name (c ∷ cs) ++ (codes " <" ++ (address ++ codes ">"))

-- Under the charsets that are known.
module _ (known : Charsets) where
  -- the text of a mailbox: its address in canonical form, after its display name
  abbrev pub mailbox_text : Parts → List ℕ
  mailbox_text parts =
      named (shown_display_name known parts.display_name) (value_text (address_bytes parts.local_part parts.domain))

  -- the text of an element without members; of one that is no address that of a name
  abbrev pub single_of : Option Parts → List ℕ → List ℕ
  single_of (Some parts) text = mailbox_text parts
  single_of None text = shown_name (name_text known text)

  abbrev pub single_text : Single → List ℕ
  single_text s = single_of s.mailbox s.text

  -- the text of the name of a group
  abbrev pub group_text : List ℕ → List ℕ
  group_text name = shown_name (shown_display_name known name) ++ codes ":"

  -- the lines of an element: of a group its name, and then its members
  abbrev pub element_lines : Prefix → Element → List Line
  element_lines prefix (single s) = line prefix (single_text s) ∷ []
  element_lines prefix (group g) = line prefix (group_text g.display_name) ∷ map (line prefix) (map single_text g.members)

  -- the lines of the addresses in the headers with this name
  abbrev pub address_lines : Prefix → List ℕ → Node → List Line
  address_lines prefix key node = flat_map (element_lines prefix) (lenient_addresses_of key node.headers)
