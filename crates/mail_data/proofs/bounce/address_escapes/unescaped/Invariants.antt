-- The text so far, and then that of the rest, is the whole.
use Rattle.std.proofs.Common.{◌≡◌, length}
use Rattle.std.specs.Str.{IsUtf8}
use Rattle.std.specs.String.{string_bytes}
use Rattle.mail_data.specs.AddressEscapes.{unescaped}
use Rattle.mail_data.proofs.lemmas.AddressEscapes.{read_with}
use Rattle.mail_data.proofs.bounce.address_escapes.unescaped.Given as goal

abbrev pub invariant-pieces : goal.invariant-pieces
invariant-pieces l = record { utf8 : IsUtf8 l.rest; all : read_with (string_bytes l.read) l.rest ≡ unescaped l.text }

abbrev pub decreases-pieces : goal.decreases-pieces
decreases-pieces l = length l.rest
