-- The elements so far, and then those of the rest, are all of them.
use Rattle.std.proofs.Common.{length, map}
use Rattle.mail_address.specs.AddressViews.{element_view}
use Rattle.mail_address.specs.Lenient.{piece_at, piece_len}
use Rattle.mail_address.proofs.lemmas.Addresses.{MadeTo}
use Rattle.mail_address.proofs.lenient_opened.pieces.Given as goal

abbrev pub invariant-pieces : goal.invariant-pieces
invariant-pieces l = MadeTo piece_at piece_len l.fn.start l.bytes (map element_view l.list.items) l.start l.rest

abbrev pub decreases-pieces : goal.decreases-pieces
decreases-pieces l = length l.rest
