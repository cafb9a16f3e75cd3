-- The recipients so far, and then those in the values that are left, are the old ones and then those in all values.
use Rattle.std.proofs.Common.{◌≡◌, ◌++◌, drop, map}
use Rattle.std.specs.Prelude.{codes, flat_map}
use Rattle.std.specs.String.{string_bytes}
use Rattle.mailparse.specs.Mail.{root}
use Rattle.mailparse.specs.Map.{all_values_in}
use Rattle.mailparse.specs.Views.{tree_of}
use Rattle.mail_data.specs.Bounce.{listed}
use Rattle.mail_data.specs.BounceViews.{delivery}
use Rattle.mail_data.proofs.bounce.add_failed.Given as goal

abbrev pub invariant-loop-value : goal.invariant-loop-value
invariant-loop-value g l =
    map delivery l.found.items ++ flat_map listed (map string_bytes (drop l.value-index l.value-items))
    ≡ map delivery l.fn.found.items ++ flat_map listed (all_values_in (g.K.KnownCharsets.known l.known) (codes "X-Failed-Recipients") (root (tree_of l.mail)).headers)
