-- Lines of a mail that are quoted with `>` in a mailbox, so that none looks like a separator: the
-- mboxrd format.
use Rattle.std.specs.Prelude.{ℕ, Bool, true, false, ◌&&◌, ◌==◌, List, [], ◌∷◌, take, drop, if◌then◌else◌}
use Rattle.std.specs.List.{prefix_len}
use Rattle.mail_codec.specs.Ascii.{line_feed}
use Rattle.mail_codec.specs.Places.{has_prefix}
use Rattle.mail_data.specs.LineEnds.{line_length}
use Rattle.mail_data.specs.Separator.{mark}

abbrev pub greater_than : ℕ
greater_than = 62

-- the number of `>` at the front
unfoldable pub quote_length : List ℕ → ℕ
quote_length bytes = prefix_len (λ b. b == greater_than) bytes

-- `From ` is at the front, perhaps after `>`s
unfoldable pub is_marked : List ℕ → Bool
is_marked bytes = has_prefix mark (drop (quote_length bytes) bytes)

-- `From ` follows one `>` or more at the front
abbrev pub is_quoted : List ℕ → Bool
is_quoted [] = false
is_quoted (b ∷ rest) = b == greater_than && is_marked rest

-- the bytes with one `>` removed from each quoted line, given whether a line starts at the front
abbrev pub unquoted_from : Bool → List ℕ → List ℕ
unquoted_from starts [] = []
unquoted_from starts (b ∷ rest) =
    if starts && is_quoted (b ∷ rest) then unquoted_from false rest
    else b ∷ unquoted_from (b == line_feed) rest

-- a mail with one `>` removed from each quoted line
abbrev pub unquoted : List ℕ → List ℕ
unquoted mail = unquoted_from true mail

-- the bytes with one `>` put before each line that begins with any number of `>` and then `From `
abbrev pub quoted_from : Bool → List ℕ → List ℕ
quoted_from starts [] = []
quoted_from starts (b ∷ rest) =
    if starts && is_marked (b ∷ rest)
    then greater_than ∷ b ∷ quoted_from (b == line_feed) rest
    else b ∷ quoted_from (b == line_feed) rest

-- a mail as a writer of the mboxrd format puts it into a mailbox
abbrev pub quoted : List ℕ → List ℕ
quoted mail = quoted_from true mail

-- the first line
abbrev pub first_line : List ℕ → List ℕ
first_line bytes = take (line_length bytes) bytes

-- the bytes without the `>` of the first line, if it is quoted
abbrev pub without_quote : List ℕ → List ℕ
without_quote [] = []
without_quote (b ∷ rest) = if is_quoted (b ∷ rest) then rest else b ∷ rest

-- the first line without its `>`, if it is quoted
unfoldable pub unquoted_line : List ℕ → List ℕ
unquoted_line bytes = first_line (without_quote bytes)
