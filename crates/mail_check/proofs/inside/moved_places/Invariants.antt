-- The messages so far, and then those that are left, are all.
use Rattle.std.proofs.Common.{◌≡◌, ◌++◌, drop, map}
use Rattle.mail_read.specs.PlaceViews.{place_view}
use Rattle.mail_check.specs.Inside.{moved}
use Rattle.mail_check.proofs.inside.moved_places.Given as goal

abbrev pub invariant-loop-place : goal.invariant-loop-place
invariant-loop-place l = map place_view l.found.items ++ map (moved (place_view l.outer)) (map place_view (drop l.place-index l.messages)) ≡ map (moved (place_view l.outer)) (map place_view l.messages)
