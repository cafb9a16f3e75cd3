use Rattle.std.proofs.Common.{List, ℕ, ◌++◌, map, ap, ◌∙◌, lit<}
use Rattle.std.specs.Prelude.{flat_map}
use Rattle.std.proofs.lemmas.Iterator.Consumers.{YieldsList-end}
use Rattle.std.proofs.lemmas.Iterator.Splits.{YieldsList-from_str_split}
use Rattle.mail_data.specs.Bounce.{listed, named_in}
use Rattle.mail_data.specs.BounceViews.{delivery}
use Rattle.mail_data.proofs.bounce.push_listed.Goals as goal

pub returns : goal.returns
unfolding listed
returns c =
    let all = YieldsList-end (YieldsList-from_str_split 44 c.args.list.now (lit< tt) (cc) (cc) (cc)) c.loop-text.yielded _ c.loop-text.yielded_by _ _ c.in-None.is c.next.ensures.steps in
    c.loop-text.invariant ∙ ap (λ (texts : List (List ℕ)). map delivery c.args.found.now.items ++ flat_map named_in texts) all.0
