-- The recipients so far are the old ones and then those in the texts so far.
use Rattle.std.proofs.Common.{◌≡◌, ◌++◌, map}
use Rattle.std.specs.Prelude.{flat_map}
use Rattle.mail_data.specs.Bounce.{named_in}
use Rattle.mail_data.specs.BounceViews.{delivery}
use Rattle.mail_data.proofs.bounce.push_listed.Given as goal

abbrev pub invariant-loop-text : goal.invariant-loop-text
invariant-loop-text l = map delivery l.found.items ≡ map delivery l.fn.found.items ++ flat_map named_in (map (λ text. text.now) l.yielded)
