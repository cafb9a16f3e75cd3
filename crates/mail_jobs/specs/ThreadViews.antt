-- What a contract sees of the place of a mail in a thread.
use Rattle.std.specs.Prelude.{◌≡◌, map, string_bytes}
use Rattle.std.specs.Str.{bytes_eq}
use Rattle.std.specs.List.{IsDistinct}
use Rattle.mailparse.specs.Mail.{Node}
use Rattle.mailparse.specs.Map.{text_found}
use Rattle.mail_data.specs.Archive.{message_id, parents}
use Rattle.mail_jobs.specs.declared.threads.ThreadPlace.{ThreadPlace}

-- a place is that of a mail; no id occurs twice among its parents
pub record IsPlace (node : Node) (place : ThreadPlace) : Type 0 where
  pub message_id : text_found place.message_id ≡ message_id node
  pub parents : map string_bytes place.parents.items ≡ parents node
  pub distinct : IsDistinct bytes_eq (map string_bytes place.parents.items)
