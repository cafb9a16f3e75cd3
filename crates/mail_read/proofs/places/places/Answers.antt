use Rattle.std.proofs.Common.{List, ℕ, ap, ◌∙◌}
use Rattle.mailparse.specs.Views.{placements_of, tree_of}
use Rattle.mail_read.specs.Files.{with_paths}
use Rattle.mail_read.specs.PartPlaces.{placed}
use Rattle.mail_read.proofs.lemmas.PartPlaces.{placed-added, trees-added}
use Rattle.mail_read.proofs.places.places.Goals as goal

pub returns-clause-read : goal.returns-clause-read
returns-clause-read c =
    placed-added _ c.push_places.new.found.items _ _ c.new-found.ensures.items c.in_ok-push_places.ensures.paths c.in_ok-push_places.ensures.ranges
    ∙ ap (λ (path : List ℕ). placed (with_paths path (tree_of c.args.mail.now)) (placements_of c.args.mail.now)) c.whole_path.ensures

pub returns-clause-whole : goal.returns-clause-whole
returns-clause-whole c = trees-added _ c.push_places.new.found.items _ (tree_of c.args.mail.now) c.new-found.ensures.items c.in_ok-push_places.ensures.paths
