-- Whether one of the names so far contains a star.
use Rattle.std.proofs.Common.{◌≡◌, map}
use Rattle.std.specs.List.{list_any}
use Rattle.mailparse.specs.private.Continuations.{has_star}
use Rattle.mailparse.proofs.lemmas.Filled.{shown_name}
use Rattle.mailparse.proofs.parameters.continuations.is_star_free.Given as goal

abbrev pub invariant-loop-name : goal.invariant-loop-name
invariant-loop-name l = l.starred ≡ list_any has_star (map shown_name l.yielded)
