-- The elements so far are those in the headers so far.
use Rattle.std.proofs.Common.{◌≡◌, map}
use Rattle.mail_address.specs.AddressViews.{element_view}
use Rattle.mail_address.specs.Lenient.{lenient_addresses_in}
use Rattle.mail_address.proofs.lenient_list.lenient_addresses_of.Given as goal

abbrev pub invariant-loop-header : goal.invariant-loop-header
invariant-loop-header g l = map element_view l.list.items ≡ lenient_addresses_in (map (λ h. h.now) l.yielded)
