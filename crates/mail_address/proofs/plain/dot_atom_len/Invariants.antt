-- The offset in the rest, after the bytes seen so far, is the offset in the bytes, and the atom there ends both.
use Rattle.std.proofs.Common.{◌≡◌, ◌+◌, false, drop}
use Rattle.mail_address.specs.private.Plain.{atoms_place, ends_in_atom}
use Rattle.mail_address.proofs.plain.dot_atom_len.Given as goal

abbrev pub invariant-loop-place : goal.invariant-loop-place
invariant-loop-place l = record {
  same : l.place + atoms_place l.in_atom (drop l.place l.bytes) ≡ atoms_place false l.bytes;
  ending : ends_in_atom l.in_atom (drop l.place l.bytes) ≡ ends_in_atom false l.bytes;
}
