-- The addresses that are read contain no control character.
use Rattle.std.proofs.Common.{◌≡◌, ℕ, true, List}
use Rattle.mailparse.specs.Value.{value_text}
use Rattle.mail_address.specs.Addresses.{Single}
use Rattle.mail_address.specs.Folding.{has_no_control}
use Rattle.mail_address.specs.Grammar.{address, IsByGrammar, IsMailbox, named_address}
use Rattle.mail_address.specs.Mailbox.{Parts}
use Rattle.mail_address.specs.Safe.{IsSafe}
use Rattle.mail_address.specs.Text.{address_bytes}
use Rattle.mail_address.proofs.lemmas.Folding.{address-no_control, text-no_control}

mailbox-safe : {text : List ℕ} {m : Parts} → IsMailbox text m → has_no_control (value_text (address_bytes m.local_part m.domain)) ≡ true
mailbox-safe (address {local = local} {domain = domain} _ _ clean _) = text-no_control (address_bytes local domain) (address-no_control local domain clean)
mailbox-safe (named_address {local = local} {domain = domain} _ _ _ _ clean _ _) =
    text-no_control (address_bytes local domain) (address-no_control local domain clean)

pub single-safe : (s : Single) → IsByGrammar s → IsSafe s
single-safe s is m e = mailbox-safe ((is m).0 e)
