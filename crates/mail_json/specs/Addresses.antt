-- The texts of addresses in the headers of a mail; the program's own form.
use Rattle.std.specs.Prelude.{ℕ, List, [], ◌∷◌, Option, Some, None}
use Rattle.mailparse.specs.Value.{value_text}
use Rattle.mail_address.specs.Mailbox.{Parts}
use Rattle.mail_address.specs.Text.{address_bytes}

-- a text, or none if it is empty
abbrev pub unless_empty : List ℕ → Option (List ℕ)
unless_empty [] = None
unless_empty (b ∷ bs) = Some (b ∷ bs)

-- the address of a mailbox in canonical form
abbrev pub canonical : Parts → List ℕ
canonical parts = value_text (address_bytes parts.local_part parts.domain)
