-- The mails inside a mail, and their parts; the program's own form.
use Rattle.std.specs.Prelude.{ℕ, zero, suc, List, [], flat_map, Option, Some}
use Rattle.std.specs.Option.{option_map_or}
use Rattle.std.specs.Result.{result_ok}
use Rattle.mail_codec.specs.Charset.{Charsets}
use Rattle.mailparse.specs.Mail.{Tree}
use Rattle.mailparse.specs.Refusal.{Reads, Refusal}
use Rattle.mail_read.specs.InnerMails.{InnerMail, places_under}
use Rattle.mail_read.specs.PartPlaces.{Place}
use Rattle.mail_read.specs.Reading.{mail_placements}
use Rattle.mail_parts.specs.Reading.{inner_mails_within, mail_reading, mails_in_place}

-- the parts of a mail inside, with their paths in the whole mail; of one that is refused none
abbrev pub parts_of_read : List ℕ → Reads Tree → List Place
parts_of_read path read = option_map_or (λ mail. places_under path mail (mail_placements mail)) (result_ok read) []

abbrev pub parts_inside : Charsets → ℕ → InnerMail → List Place
parts_inside known limit inner = parts_of_read inner.path (mail_reading known limit inner.bytes)

-- the mails inside a mail, and those inside them, each with this limit
abbrev pub mails_inside : Charsets → ℕ → Tree → List InnerMail
mails_inside known limit mail = inner_mails_within known limit 100 [] (Some 0) mail (mail_placements mail)

-- the mails in parts of a mail, and those inside them, at most `most` mails deep, given the offset of the mail that
-- contains the parts
abbrev pub mails_among : Charsets → ℕ → ℕ → Option ℕ → List Place → List InnerMail
mails_among known limit zero start found = []
mails_among known limit (suc most) start found = flat_map (mails_in_place known limit most start) found

-- a mail inside without its bytes: the path of the part that contains it, its offset in the whole mail, and its refusal
pub record Listed : Type 0 where
  pub path : List ℕ
  pub start : Option ℕ
  pub refusal : Option Refusal

abbrev pub without_bytes : InnerMail → Listed
without_bytes mail = record { path = mail.path; start = mail.start; refusal = mail.refusal }
