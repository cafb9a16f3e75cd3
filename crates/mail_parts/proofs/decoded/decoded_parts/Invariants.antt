-- The parts so far, and then those of the places that are left, are all; each has its content.
use Rattle.std.proofs.Common.{◌≡◌, ◌++◌, drop, map}
use Rattle.std.specs.List.{AllByRecursion}
use Rattle.mail_read.specs.PlaceViews.{place_view}
use Rattle.mail_parts.specs.DecodedViews.{IsDecoded, decoded_place}
use Rattle.mail_parts.proofs.decoded.decoded_parts.Given as goal

abbrev pub invariant-loop-place : goal.invariant-loop-place
invariant-loop-place l =
    (map decoded_place l.parts.items ++ map place_view (drop l.place-index l.places) ≡ map place_view l.places)
    × AllByRecursion (IsDecoded l.decodes_bodies) l.parts.items
