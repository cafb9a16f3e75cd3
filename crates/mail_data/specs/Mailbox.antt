-- Mailboxes: the mbox format (RFC 4155, appendix A), in which a line of `From `, an address and a
-- time separates mails if it is the first line or follows an empty line.
use Rattle.std.specs.Prelude.{◌≡◌, ◌⊎◌, ℕ, zero, suc, ◌+◌, Bool, ◌&&◌, ◌||◌, nat_lt, List, [], ◌∷◌, ◌++◌, length, take, drop, if◌then◌else◌}
use Rattle.mail_codec.specs.Ascii.{carriage_return, line_feed}
use Rattle.mail_codec.specs.Places.{is_empty}
use Rattle.mail_data.specs.LineEnds.{after_empty_line, after_line, empty_line, is_empty_line, line_length, line_place}
use Rattle.mail_data.specs.Separator.{is_separator}

-- a mail ends at this line: it is empty, and a separator or nothing follows it
unfoldable pub ends_mail : List ℕ → Bool
ends_mail bytes =
    let after = after_empty_line bytes in
    is_empty_line bytes && (is_empty after || is_separator after)

-- the length of the mail at the front: up to the first line at which a mail ends, or to the end of
-- the bytes
unfoldable pub mail_length : List ℕ → ℕ
mail_length bytes = line_place ends_mail bytes

-- a mail of a mailbox: the line before it, its bytes, and the empty line that ends it, if there is
-- one
pub record Entry : Type 0 where
  pub separator : List ℕ
  pub mail : List ℕ
  pub ending : List ℕ

-- the three in order
abbrev pub entry_bytes : Entry → List ℕ
entry_bytes entry = entry.separator ++ (entry.mail ++ entry.ending)

-- the bytes after the mail at the front, given the function that returns the length of a mail
abbrev pub after_by : (List ℕ → ℕ) → List ℕ → List ℕ
after_by length_of bytes = drop (length_of bytes) bytes

-- the mail whose separator is at the front
abbrev pub entry_by : (List ℕ → ℕ) → List ℕ → Entry
entry_by length_of bytes =
    let body = after_line bytes in
    let after = after_by length_of body in
    record {
      separator = take (line_length bytes) bytes;
      mail = take (length_of body) body;
      ending = take (empty_line after) after;
    }

-- the bytes after that mail
abbrev pub next_by : (List ℕ → ℕ) → List ℕ → List ℕ
next_by length_of bytes = after_empty_line (after_by length_of (after_line bytes))

-- the mails of bytes that begin with a separator, at most `most` of them, or none
abbrev pub entries_within : (List ℕ → ℕ) → ℕ → List ℕ → List Entry
entries_within length_of zero bytes = []
entries_within length_of (suc most) bytes =
    if is_separator bytes
    then entry_by length_of bytes ∷ entries_within length_of most (next_by length_of bytes) else []

-- all of them: there are no more than bytes
unfoldable pub entries_by : (List ℕ → ℕ) → List ℕ → List Entry
entries_by length_of bytes = entries_within length_of (length bytes) bytes

-- the bytes after the mail at the front, in a mailbox of the mbox format
abbrev pub after_mail : List ℕ → List ℕ
after_mail bytes = after_by mail_length bytes

-- in this format, the mail whose separator is at the front
abbrev pub entry_at : List ℕ → Entry
entry_at bytes = entry_by mail_length bytes

-- the bytes after that mail
abbrev pub next_entry : List ℕ → List ℕ
next_entry bytes = next_by mail_length bytes

-- the mails of bytes that begin with a separator, or none
abbrev pub entries_from : List ℕ → List Entry
entries_from bytes = entries_by mail_length bytes

-- the number of bytes before the first separator, including the empty line before it
unfoldable pub front_length : List ℕ → ℕ
front_length bytes =
    if is_separator bytes then 0 else mail_length bytes + empty_line (after_mail bytes)

-- the mails of a mailbox
abbrev pub entries : List ℕ → List Entry
entries bytes = entries_from (drop (front_length bytes) bytes)

-- the bytes of one empty line
abbrev pub IsEmptyLine : List ℕ → Type 0
IsEmptyLine bytes = (bytes ≡ line_feed ∷ []) ⊎ (bytes ≡ carriage_return ∷ line_feed ∷ [])

-- the bytes end in an empty line: it follows a LF
pub record EndsEmpty (bytes : List ℕ) : Type 0 where
  pub front : List ℕ
  pub line : List ℕ
  pub is_empty : IsEmptyLine line
  pub whole : bytes ≡ front ++ (line_feed ∷ line)

-- the first line is whole, with at least one more byte
abbrev pub has_line : List ℕ → Bool
has_line bytes = nat_lt (line_length bytes) (length bytes)

-- a separator is at the front with its whole line and at least one more byte
unfoldable pub is_before_text : List ℕ → Bool
is_before_text bytes = is_separator bytes && has_line bytes

-- the bytes before the first separator are whole: that separator follows them, with its whole line
-- and at least one more byte
unfoldable pub has_front : List ℕ → Bool
has_front bytes = is_before_text (drop (front_length bytes) bytes)
