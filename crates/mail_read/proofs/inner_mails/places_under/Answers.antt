use Rattle.std.proofs.Common.{List, ℕ, ap, ◌∙◌}
use Rattle.mailparse.specs.Views.{placements_of, tree_of}
use Rattle.mail_read.specs.Files.{with_paths}
use Rattle.mail_read.specs.InnerMails.{places_under}
use Rattle.mail_read.specs.PartPlaces.{placed}
use Rattle.mail_read.proofs.lemmas.PartPlaces.{placed-added}
use Rattle.mail_read.proofs.inner_mails.places_under.Goals as goal

pub returns : goal.returns
unfolding places_under
returns c =
    placed-added _ c.push_places.new.found.items _ _ c.new-found.ensures.items c.in_ok-push_places.ensures.paths c.in_ok-push_places.ensures.ranges
    ∙ ap (λ (path : List ℕ). placed (with_paths path (tree_of c.args.mail.now)) (placements_of c.args.mail.now)) (c.as_str.ensures.value ∙ c.in_ok-path.ensures)
