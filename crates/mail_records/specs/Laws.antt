-- What the laws compare: messages with their ranges; the crate's own form.
use Rattle.mailparse.specs.Mail.{Tree}
use Rattle.mailparse.specs.Placement.{Placement}
use Rattle.mail_read.specs.PartPlaces.{Place}
use Rattle.mail_records.specs.Records.{Item}

-- a message that has a record, with its ranges
abbrev pub of_item : Item → Tree × Placement
of_item item = (item.part, item.placement)

-- a message that the JSON lists, with its ranges
abbrev pub of_place : Place → Tree × Placement
of_place place = (place.part, place.placement)
