-- The entry of a mail in an index; the program's own choice.
use Rattle.std.specs.Prelude.{ℕ, ℤ, List, Option, option_and_then, option_map, codes}
use Rattle.mail_codec.specs.Charset.{Charsets}
use Rattle.mailparse.specs.Mail.{Node, Tree, root}
use Rattle.mailparse.specs.Value.{value_text}
use Rattle.mail_address.specs.Addresses.{Single}
use Rattle.mail_address.specs.Lenient.{lenient_sender_of}
use Rattle.mail_address.specs.Text.{address_bytes}
use Rattle.mail_read.specs.lenient.Date.{Dated, date_of}
use Rattle.mail_read.specs.lenient.Texts.{BodyText, body_text}
use Rattle.mail_read.specs.lenient.Values.{first_header_text}
use Rattle.mail_data.specs.Texts.{text_part}

-- the address of a mailbox, in canonical form
abbrev pub address_of : Single → Option (List ℕ)
address_of s =
    option_map (λ parts. value_text (address_bytes parts.local_part parts.domain)) s.mailbox

-- the address of the sender of a mail, if it names one
abbrev pub sender : Node → Option (List ℕ)
sender node = option_and_then address_of (lenient_sender_of node.headers)

-- the date of a mail as it is read, if it has one
abbrev pub date : Charsets → Node → Option (Dated ℤ)
date known node = option_map date_of (first_header_text known (codes "Date") node.headers)

-- the text of a mail as it is read, if it has one
abbrev pub text : Charsets → Tree → Option BodyText
text known mail = option_map (λ part. body_text known (root part)) (text_part known mail)
