-- Addresses that are read can be written again: their local part and their domain as texts are ones that `write_addresses` accepts.
use Rattle.std.specs.Prelude.{◌≡◌, true, List, Some, ℕ}
use Rattle.std.specs.Str.{IsUtf8}
use Rattle.mailparse.specs.Value.{value_text}
use Rattle.mail_address.specs.declared.writer.NewMailbox.{NewMailbox}
use Rattle.mail_address.specs.Addresses.{Single}
use Rattle.mail_address.specs.Mailbox.{Parts}
use Rattle.mail_address.specs.Text.{address_bytes, bare}
use Rattle.mail_address.specs.Writer.{is_writable, written_address}

-- a local part or a domain as text: without quotes, comments, whitespace and folding
abbrev pub bare_text : List ℕ → List ℕ
bare_text bytes = value_text (bare bytes)

-- a mailbox to write has the address of one that was read
pub record HasAddress (m : Parts) (new : NewMailbox) : Type 0 where
  pub local_part : new.local_part.now ≡ bare_text m.local_part
  pub domain : new.domain.now ≡ bare_text m.domain

-- it can be written, and what is written is the address in canonical form if its parts are UTF-8
pub record IsWrittenAgain (m : Parts) (new : NewMailbox) : Type 0 where
  pub accepted : is_writable new ≡ true
  pub same : IsUtf8 (bare m.local_part) → IsUtf8 (bare m.domain) → written_address new ≡ address_bytes m.local_part m.domain

-- so it is for an element without members that is a mailbox
abbrev pub IsAccepted : Single → Type 0
IsAccepted s = (m : Parts) (new : NewMailbox) → s.mailbox ≡ Some m → HasAddress m new → IsWrittenAgain m new
