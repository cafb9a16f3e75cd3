-- The answer depends on the remaining parts.
use Rattle.std.proofs.Common.{◌≡◌, drop, map}
use Rattle.mail_laws.specs.Render.{is_well_formed_within}
use Rattle.mail_laws.specs.RenderViews.{outline_tree}
use Rattle.mail_laws.proofs.lemmas.RenderConditions.{good_parts}
use Rattle.mail_laws.proofs.render.+is_well_formed_within.Given as goal

abbrev pub invariant-loop-part : goal.invariant-loop-part
invariant-loop-part l = is_well_formed_within (outline_tree l.outline) ≡ good_parts l.boundary.items (map outline_tree (drop l.part-index l.part-items))
