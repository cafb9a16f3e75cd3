-- What a contract sees of the elements of a list of addresses.
use Rattle.std.specs.Prelude.{map, Some, None}
use Rattle.mail_address.specs.Addresses.{Element, Single, single, group}
use Rattle.mail_address.specs.Addresses as spec
use Rattle.mail_address.specs.declared.list.Address.{Address}
use Rattle.mail_address.specs.declared.list.Address.TheVariants as addresses
use Rattle.mail_address.specs.declared.list.Member.{Member}
use Rattle.mail_address.specs.declared.list.Member.TheVariants as members
use Rattle.mail_address.specs.declared.list.Mailbox.{Mailbox}
use Rattle.mail_address.specs.declared.list.Group.{Group}
use Rattle.mail_address.specs.declared.list.Unknown.{Unknown}

-- a mailbox, as an element without members
abbrev pub mailbox_view : Mailbox → Single
mailbox_view m = record {
  start = m.start;
  text = m.text.now;
  mailbox = Some (record { display_name = m.display_name.now; local_part = m.local_part.now; domain = m.domain.now });
}

-- an element that is not an address, as an element without members
abbrev pub unknown_view : Unknown → Single
unknown_view u = record { start = u.start; text = u.text.now; mailbox = None }

-- an element without members
abbrev pub member_view : Member → Single
member_view (members.Mailbox m) = mailbox_view m
member_view (members.Unknown u) = unknown_view u

-- a group
abbrev pub group_view : Group → spec.Group
group_view g = record {
  start = g.start;
  text = g.text.now;
  display_name = g.display_name.now;
  members = map member_view g.members.items;
}

-- an element of a list
abbrev pub element_view : Address → Element
element_view (addresses.Mailbox m) = single (mailbox_view m)
element_view (addresses.Unknown u) = single (unknown_view u)
element_view (addresses.Group g) = group (group_view g)
