-- The answer depends on the remaining parts.
use Rattle.std.proofs.Common.{◌≡◌, drop, map}
use Rattle.std.specs.Prelude.{nat_le}
use Rattle.mail_laws.specs.Render.{depth}
use Rattle.mail_laws.specs.RenderViews.{outline_tree}
use Rattle.mail_laws.proofs.lemmas.RenderConditions.{parts_within}
use Rattle.mail_laws.proofs.render.conditions.+is_within_levels.Given as goal

abbrev pub invariant-loop-part : goal.invariant-loop-part
invariant-loop-part l = nat_le (depth (outline_tree l.outline)) l.levels ≡ parts_within (map outline_tree (drop l.part-index l.part-items)) l.levels
