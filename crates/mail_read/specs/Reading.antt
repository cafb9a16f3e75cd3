-- How the programs and the C library read a mail; the project's own rule.
use Rattle.std.specs.Prelude.{ℕ, true, List}
use Rattle.mail_codec.specs.Charset.{Charsets}
use Rattle.mailparse.specs.Limit.{read_mail_within}
use Rattle.mailparse.specs.Mail.{Tree}
use Rattle.mailparse.specs.Placement.{Placement, placements_as}
use Rattle.mailparse.specs.Refusal.{Reads}
use Rattle.mail_read.specs.lenient.Manner.{lenient}

-- the message in the bytes, read leniently under these charsets, and refused if it has more than `limit` messages,
-- parts and headers
unfoldable pub mail_reading : Charsets → ℕ → List ℕ → Reads Tree
mail_reading known limit bytes = read_mail_within (lenient known) 100 limit bytes

-- the ranges of a mail that was read so, and of its parts: delimiters are whole lines
abbrev pub mail_placements : Tree → List Placement
mail_placements mail = placements_as true 0 mail
