-- The ids so far, and then those of the rest, are all ids.
use Rattle.std.proofs.Common.{◌≡◌, map, length}
use Rattle.std.specs.Str.{IsUtf8}
use Rattle.std.specs.String.{string_bytes}
use Rattle.mail_read.specs.lenient.Ids.{found_ids}
use Rattle.mail_read.specs.lenient.IdViews.{needs_at}
use Rattle.mail_read.proofs.lemmas.lenient.Ids.{ids_with}
use Rattle.mail_read.proofs.lenient.ids.find_ids.Given as goal

abbrev pub invariant-pieces : goal.invariant-pieces
invariant-pieces l = record { utf8 : IsUtf8 l.rest; all : ids_with (needs_at l.rule) (map string_bytes l.ids.items) l.rest ≡ found_ids (needs_at l.rule) l.text }

abbrev pub decreases-pieces : goal.decreases-pieces
decreases-pieces l = length l.rest
