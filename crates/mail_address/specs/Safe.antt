-- Addresses that may be written into a header or a command of SMTP: they contain no control character, so no line end.
use Rattle.std.specs.Prelude.{◌≡◌, true, Some}
use Rattle.mailparse.specs.Value.{value_text}
use Rattle.mail_address.specs.Addresses.{Single}
use Rattle.mail_address.specs.Folding.{has_no_control}
use Rattle.mail_address.specs.Mailbox.{Parts}
use Rattle.mail_address.specs.Text.{address_bytes}

-- if an element without members is a mailbox, the text of its address contains no control character
abbrev pub IsSafe : Single → Type 0
IsSafe s = (m : Parts) → s.mailbox ≡ Some m → has_no_control (value_text (address_bytes m.local_part m.domain)) ≡ true
