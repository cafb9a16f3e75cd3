-- How a mail is read whose uuencoded files are listed: none of them is left out; the program's own rule.
use Rattle.std.specs.Prelude.{ℕ, suc, Bool, ◌&&◌, nat_lt, List, length, Option, Ok, Err, if◌then◌else◌}
use Rattle.std.specs.List.{list_any}
use Rattle.mail_codec.specs.Charset.{Charsets}
use Rattle.mailparse.specs.Mail.{Tree, root, trees_within}
use Rattle.mailparse.specs.Placement.{Placement}
use Rattle.mailparse.specs.Refusal.{◌>>=◌, Reads, too_many_items}
use Rattle.mail_read.specs.InnerMails.{InnerMail, inner_mails_by, mails_below_by, mails_in_place_by}
use Rattle.mail_read.specs.PartPlaces.{Place}
use Rattle.mail_read.specs.Reading.{mail_placements}
use Rattle.mail_read.specs.Reading as plain
use Rattle.mail_data.specs.TextFiles.{blocks_from, is_plain_text}
use Rattle.mail_read.specs.lenient.Content.{message_content}

-- a text has more blocks than this limit: files in those after them would be left out
abbrev pub has_many_blocks : ℕ → List ℕ → Bool
has_many_blocks limit text = nat_lt limit (length (blocks_from (suc limit) 0 text))

-- a part is such a text; one whose body has at most that many bytes is none
abbrev pub has_many_files : ℕ → Tree → Bool
has_many_files limit part =
    is_plain_text part && (nat_lt limit (length (root part).body) && has_many_blocks limit (message_content (root part)).bytes)

-- a mail that was read, which is refused if one of its parts is such a text
abbrev pub with_all_files : ℕ → Tree → Reads Tree
with_all_files limit mail = if list_any (has_many_files limit) (trees_within mail) then Err too_many_items else Ok mail

-- the message in the bytes, read as `mail_data` reads it, but refused if one of its texts has more blocks than the limit
unfoldable pub mail_reading : Charsets → ℕ → List ℕ → Reads Tree
mail_reading known limit bytes = do
  mail ← plain.mail_reading known limit bytes
  with_all_files limit mail

-- Mails inside that are read so.
module _ (known : Charsets) (limit : ℕ) where
  abbrev pub inner_mails_within : ℕ → List ℕ → Option ℕ → Tree → List Placement → List InnerMail
  inner_mails_within = inner_mails_by (mail_reading known limit) mail_placements

  abbrev pub mails_below : ℕ → List ℕ → Option ℕ → Reads Tree → List InnerMail
  mails_below = mails_below_by (mail_reading known limit) mail_placements

  abbrev pub mails_in_place : ℕ → Option ℕ → Place → List InnerMail
  mails_in_place = mails_in_place_by (mail_reading known limit) mail_placements
