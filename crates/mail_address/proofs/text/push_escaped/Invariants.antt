-- The text so far, and then that of the rest, is the whole text.
use Rattle.std.proofs.Common.{◌≡◌, ◌++◌, drop}
use Rattle.std.specs.Prelude.{flat_map}
use Rattle.mail_address.specs.Text.{escaped_byte}
use Rattle.mail_address.proofs.text.push_escaped.Given as goal

abbrev pub invariant-loop-byte : goal.invariant-loop-byte
invariant-loop-byte l = l.out.items ++ flat_map escaped_byte (drop l.byte-index l.text) ≡ l.fn.out.items ++ flat_map escaped_byte l.text
