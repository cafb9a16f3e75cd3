-- The text so far and the text of the rest are the whole text.
use Rattle.std.proofs.Common.{length}
use Rattle.mail_address.specs.Text.{address_front_at, front_len}
use Rattle.mail_address.proofs.lemmas.Text.{MadeOf}
use Rattle.mail_address.proofs.text.bare.Given as goal

abbrev pub invariant-tokens : goal.invariant-tokens
invariant-tokens l = MadeOf address_front_at front_len l.bytes l.text.items l.rest

abbrev pub decreases-tokens : goal.decreases-tokens
decreases-tokens l = length l.rest
