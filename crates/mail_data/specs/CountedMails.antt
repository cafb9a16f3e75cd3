-- Mailboxes whose mails have a field Content-Length with the length of their bodies: the mboxcl and
-- mboxcl2 formats.
use Rattle.std.specs.Prelude.{ℕ, ◌+◌, Bool, true, ◌&&◌, ◌||◌, nat_le, nat_lt, Option, Some, None, option_and_then, List, length, take, drop, codes, if◌then◌else◌}
use Rattle.std.specs.Char.{is_ascii_digit, is_ascii_whitespace}
use Rattle.std.specs.Int.{is_in_range}
use Rattle.std.specs.List.{list_all}
use Rattle.std.specs.Option.{unwrap_or}
use Rattle.std.specs.Str.{str_eq_ignore_ascii_case}
use Rattle.std.specs.Str.Parse.{digits_value}
use Rattle.mail_codec.specs.Places.{is_empty, trimmed_at_end, trimmed_at_start}
use Rattle.mail_data.specs.LineEnds.{after_empty_line, empty_line, is_empty_line, line_length, line_place}
use Rattle.mail_data.specs.Mailbox.{mail_length}
use Rattle.mail_data.specs.Separator.{is_separator}

-- ---- the field

-- the name of the field, with its colon
abbrev pub field_start : List ℕ
field_start = codes "Content-Length:"

-- that field begins here, ignoring ASCII case
unfoldable pub is_field : List ℕ → Bool
is_field bytes = str_eq_ignore_ascii_case (take (length field_start) bytes) field_start

-- the place of the empty line that ends the header block, or the length if there is no empty line
unfoldable pub block_place : List ℕ → ℕ
block_place mail = line_place is_empty_line mail

-- the length of the header block, including the empty line that ends it
unfoldable pub block_length : List ℕ → ℕ
block_length mail = block_place mail + empty_line (drop (block_place mail) mail)

-- the number that 1 to 9 digits denote
unfoldable pub number : List ℕ → Option ℕ
number text =
    if is_in_range 1 9 (length text) && list_all is_ascii_digit text
    then Some (digits_value 10 text) else None

-- the text after the colon on the line of the field, without the whitespace around it
unfoldable pub field_text : List ℕ → List ℕ
field_text field =
    trimmed_at_end is_ascii_whitespace
    (trimmed_at_start is_ascii_whitespace
    (drop (length field_start) (take (line_length field) field)))

-- the number in the first field Content-Length of a header block
unfoldable pub content_length : List ℕ → Option ℕ
content_length block = number (field_text (drop (line_place is_field block) block))

-- ---- where a mail ends

-- a separator of at most 1,000 bytes is at the front
unfoldable pub is_short_separator : List ℕ → Bool
is_short_separator bytes = nat_le (line_length bytes) 1000 && is_separator bytes

-- a counted mail may end here: a separator or nothing follows, perhaps after an empty line
unfoldable pub may_end : List ℕ → Bool
may_end bytes =
    let after = after_empty_line bytes in
    is_empty after || is_short_separator after

-- the place `count` bytes after the header block, if the mail may end there
unfoldable pub counted_place : List ℕ → ℕ → Option ℕ
counted_place mail count =
    let place = block_length mail + count in
    if nat_le place (length mail) && may_end (drop place mail) then Some place else None

-- the length of a mail by its Content-Length, or else that of a mail of any mailbox
unfoldable pub counted_length : List ℕ → ℕ
counted_length mail =
    unwrap_or (option_and_then (counted_place mail) (content_length (take (block_place mail) mail)))
    (mail_length mail)

-- ---- what was read so far

-- the bytes decide if a counted mail may end here: after an empty line, if there is one, there are
-- more bytes than a separator has, or a line and at least one more byte
unfoldable pub is_known : List ℕ → Bool
is_known bytes =
    let after = after_empty_line bytes in
    nat_lt 1000 (length after) || nat_lt (line_length after) (length after)

-- they do so `count` bytes after the header block
unfoldable pub is_place_known : List ℕ → Option ℕ → Bool
is_place_known mail None = true
is_place_known mail (Some count) = is_known (drop (block_length mail + count) mail)

-- it is known where the Content-Length of a mail ends it: the empty line after the header block was
-- read, and the place of the end
unfoldable pub is_count_known : List ℕ → Bool
is_count_known mail =
    nat_lt (block_place mail) (length mail)
    && is_place_known mail (content_length (take (block_place mail) mail))
