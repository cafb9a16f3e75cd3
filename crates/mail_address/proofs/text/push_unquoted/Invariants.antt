-- The text so far and the text of the rest are the whole text.
use Rattle.std.proofs.Common.{◌≡◌, ◌++◌, false, drop}
use Rattle.mail_address.specs.Text.{unquoted}
use Rattle.mail_address.proofs.text.push_unquoted.Given as goal

abbrev pub invariant-loop-byte : goal.invariant-loop-byte
invariant-loop-byte l = l.text.items ++ unquoted l.is_quoted (drop l.byte-index l.bytes) ≡ l.fn.text.items ++ unquoted false l.bytes
