-- The bytes that are decoded while the mails inside a mail are read, and the limit on them; the project's own rule.
use Rattle.std.specs.Prelude.{ℕ, zero, suc, ◌+◌, ◌*◌, ◌-◌, ◌^◌, min, nat_lt, List, length, sum_by, Option, Some, None, Ok, Err, codes, if◌then◌else◌}
use Rattle.std.specs.Option.{option_map_or}
use Rattle.std.specs.Result.{result_ok}
use Rattle.mail_codec.specs.Charset.{Charsets}
use Rattle.mailparse.specs.Mail.{Node, Tree, root, trees_within}
use Rattle.mailparse.specs.Refusal.{Reads, Refusal, generic}
use Rattle.mail_read.specs.InnerMails.{forwards, is_plain}
use Rattle.mail_read.specs.lenient.Content.{message_content}
use Rattle.mail_read.specs.lenient.Encoding.{lenient_body_kind}
use Rattle.mail_parts.specs.Reading.{mail_reading}

-- the number of bytes that are decoded for the mail in a part: none if it is not encoded
abbrev pub own_size : Node → ℕ
own_size node = if is_plain (lenient_body_kind node) then 0 else length (message_content node).bytes

-- Mails that are read under these charsets, each with this limit on its messages, parts and headers.
module _ (known : Charsets) (limit : ℕ) where
  -- the number for the mail that a part forwards: its own, and those inside it, if it is read
  abbrev pub mail_size : (Tree → ℕ) → Tree → ℕ
  mail_size inside part =
      own_size (root part) + option_map_or inside (result_ok (mail_reading known limit (message_content (root part)).bytes)) 0

  -- the number for a part: 0 if it forwards no mail
  abbrev pub part_size : (Tree → ℕ) → Tree → ℕ
  part_size inside part = if forwards (root part) then mail_size inside part else 0

  -- the number of bytes that are decoded for the mails inside a mail, at most `most` mails deep
  abbrev pub decoded_size : ℕ → Tree → ℕ
  decoded_size zero mail = 0
  decoded_size (suc most) mail = sum_by (part_size (decoded_size most)) (trees_within mail)

-- the greatest number of bytes that are decoded for the mails inside a mail of this size: that which is chosen, or else
-- eight times the size and 64 MiB
abbrev pub most_decoded : Option ℕ → ℕ → ℕ
most_decoded (Some most) size = most
most_decoded None size = min (min (size * 8) (2 ^ 64 - 1) + 67108864) (2 ^ 64 - 1)

-- more bytes than that
abbrev pub too_many_bytes : Refusal
too_many_bytes = generic (codes "Too many decoded bytes")

-- a mail that was read, refused if more bytes than `most` are decoded for the mails inside it
abbrev pub bounded : Charsets → ℕ → ℕ → Reads Tree → Reads Tree
bounded known limit most (Err refusal) = Err refusal
bounded known limit most (Ok mail) = if nat_lt most (decoded_size known limit 100 mail) then Err too_many_bytes else Ok mail

-- the mail in the bytes, read so
unfoldable pub bounded_reading : Charsets → ℕ → Option ℕ → List ℕ → Reads Tree
bounded_reading known limit chosen bytes = bounded known limit (most_decoded chosen (length bytes)) (mail_reading known limit bytes)

-- what is left of some bytes after this many: none if these are more
unfoldable pub bytes_left : ℕ → ℕ → Option ℕ
bytes_left left size = if nat_lt left size then None else Some (left - size)
