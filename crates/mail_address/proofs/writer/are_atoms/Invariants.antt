-- The bytes that are left decide.
use Rattle.std.proofs.Common.{◌≡◌, drop}
use Rattle.mail_address.specs.Writer.{are_atoms, are_atoms_after}
use Rattle.mail_address.proofs.writer.are_atoms.Given as goal

abbrev pub invariant-loop-byte : goal.invariant-loop-byte
invariant-loop-byte l = are_atoms l.text ≡ are_atoms_after l.in_word (drop l.byte-index l.text)
