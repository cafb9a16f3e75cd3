-- What a contract sees of the places of a mail.
use Rattle.std.specs.Prelude.{ℕ, List, string_bytes}
use Rattle.mailparse.specs.Mail.{Tree}
use Rattle.mailparse.specs.Placement.{Placement}
use Rattle.mailparse.specs.Views.{tree_of}
use Rattle.mail_read.specs.PartPlaces as words
use Rattle.mail_read.specs.declared.places.Place.{Place}

-- a place by its path and the message
abbrev pub numbered_view : Place → List ℕ × Tree
numbered_view place = (string_bytes place.path, tree_of place.part.now)

-- a place by its ranges
abbrev pub placement_view : Place → Placement
placement_view place = record {
  whole = record { start = place.byte_range.start; end = place.byte_range.end };
  body = record { start = place.body_range.start; end = place.body_range.end };
}

-- a place
abbrev pub place_view : Place → words.Place
place_view place = record {
  path = string_bytes place.path;
  part = tree_of place.part.now;
  placement = placement_view place;
}
