-- Where the mails of a mailbox are in its bytes.
use Rattle.std.specs.Prelude.{◌≡◌, ◌≤◌, ◌+◌, ℕ, List, [], ◌∷◌, length, take, drop}
use Rattle.mail_data.specs.Mailbox.{entry_bytes}
use Rattle.mail_data.specs.MailboxParts.{Placed}

-- the offset of a mail, after its separator
abbrev pub mail_offset : Placed → ℕ
mail_offset placed = placed.start + length placed.entry.separator

-- the bytes have the mail at its offset, and its separator, the mail and the empty line after it within them
pub record IsThere (bytes : List ℕ) (placed : Placed) : Type 0 where
  pub within : placed.start + length (entry_bytes placed.entry) ≤ length bytes
  pub separator : take (length placed.entry.separator) (drop placed.start bytes) ≡ placed.entry.separator
  pub mail : take (length placed.entry.mail) (drop (mail_offset placed) bytes) ≡ placed.entry.mail

-- so they have all of these mails
abbrev pub AreThere : List ℕ → List Placed → Type 0
AreThere bytes [] = Unit {0}
AreThere bytes (m ∷ ms) = IsThere bytes m × AreThere bytes ms
