-- What a contract sees of the parts of a mailbox.
use Rattle.mail_address.specs.Mailbox as spec
use Rattle.mail_address.specs.declared.mailbox.Parts.{Parts}

-- the bytes of the parts
abbrev pub parts : Parts → spec.Parts
parts p = record { display_name = p.display_name.now; local_part = p.local_part.now; domain = p.domain.now }
