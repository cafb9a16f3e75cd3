-- The mails of a mailbox in each of the mbox formats.
use Rattle.std.specs.Prelude.{ℕ, Bool, true, ◌&&◌, Option, Some, None, List, drop, if◌then◌else◌}
use Rattle.mail_data.specs.CountedMails.{counted_length, is_count_known}
use Rattle.mail_data.specs.LineEnds.{after_line}
use Rattle.mail_data.specs.Mailbox.{Entry, entries_by, entry_by, front_length, is_before_text, mail_length, next_by}
use Rattle.mail_data.specs.QuotedLines.{unquoted}
use Rattle.mail_data.specs.Separator.{is_separator}
use Rattle.mail_data.specs.declared.mailbox.formats.Format.{Format}
use Rattle.mail_data.specs.declared.mailbox.formats.Format.TheVariants.{Plain, Quoted, Counted}

-- the length of the mail at the front
abbrev pub length_in : Format → List ℕ → ℕ
length_in Plain = mail_length
length_in Quoted = mail_length
length_in Counted = counted_length

-- the mails of bytes that begin with a separator, or none
abbrev pub entries_from_in : Format → List ℕ → List Entry
entries_from_in format bytes = entries_by (length_in format) bytes

-- the mails of a mailbox
abbrev pub entries_in : Format → List ℕ → List Entry
entries_in format bytes = entries_from_in format (drop (front_length bytes) bytes)

-- where the mail at the front ends is known, once the separator after it was read
abbrev pub is_length_known : Format → List ℕ → Bool
is_length_known Plain mail = true
is_length_known Quoted mail = true
is_length_known Counted mail = is_count_known mail

-- the mail at the front and what follows it, if the next separator was read whole and nothing that
-- follows changes them
unfoldable pub settled_in : Format → List ℕ → Option (Entry × List ℕ)
settled_in format bytes =
    let next = next_by (length_in format) bytes in
    if is_separator bytes && (is_length_known format (after_line bytes) && is_before_text next)
    then Some (entry_by (length_in format) bytes, next) else None

-- the mail itself, given its bytes in a mailbox
abbrev pub mail_in : Format → List ℕ → List ℕ
mail_in Plain bytes = bytes
mail_in Quoted bytes = unquoted bytes
mail_in Counted bytes = bytes
