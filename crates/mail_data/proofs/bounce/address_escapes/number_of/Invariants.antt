-- The number with the digits that are left is that of all.
use Rattle.std.proofs.Common.{◌≡◌, ◌≤◌, drop}
use Rattle.mail_data.specs.AddressEscapes.{number_after}
use Rattle.mail_data.proofs.bounce.address_escapes.number_of.Given as goal

abbrev pub invariant-loop-digit : goal.invariant-loop-digit
invariant-loop-digit l = record {
  bounds : l.number ≤ 1114111;
  value : number_after l.number (drop l.digit-index l.digits) ≡ number_after 0 l.digits;
}
