-- Comments in structured text (RFC 5322, section 3.2.2): comments may contain comments, and a
-- backslash quotes the byte or character after it.
use Rattle.std.specs.Prelude.{ℕ, suc, ◌-◌, Bool, false, not, ◌&&◌, ◌==◌, List, [], ◌∷◌, ◌++◌, chars, encode_utf8_all, if◌then◌else◌}
use Rattle.mail_codec.specs.Ascii.{opening_parenthesis, closing_parenthesis, backslash, quote}

-- the number of comments that are open after a byte, given the number before it; a quoted byte
-- opens and closes none
abbrev pub depth_after : Bool → ℕ → ℕ → ℕ
depth_after quoted depth b =
    if quoted then depth else
    if b == opening_parenthesis then suc depth else
    if b == closing_parenthesis then depth - 1 else depth

-- the same, but none opens within a quoted string
abbrev pub depth_beside : Bool → Bool → ℕ → ℕ → ℕ
depth_beside in_string quoted depth c = if in_string then depth else depth_after quoted depth c

-- a quoted string is open after a character: a quote that is not itself quoted begins or ends one,
-- but not within a comment
abbrev pub string_after : Bool → Bool → ℕ → ℕ → Bool
string_after in_string quoted depth c =
    if not quoted && depth == 0 && c == quote then not in_string else in_string

-- a character quotes the next one: a backslash that is not itself quoted
abbrev pub quotes_next : Bool → ℕ → Bool
quotes_next quoted c = not quoted && c == backslash

-- the characters in no comment, given whether a quoted string is open, whether the first character
-- is quoted, and the number of open comments
abbrev pub outside_comments : Bool → Bool → ℕ → List ℕ → List ℕ
outside_comments in_string quoted depth [] = []
outside_comments in_string quoted depth (c ∷ cs) =
    let after = depth_beside in_string quoted depth c in
    (if depth == 0 && after == 0 then c ∷ [] else [])
    ++ outside_comments (string_after in_string quoted depth c) (quotes_next quoted c) after cs

-- a text without its comments; a comment that is not closed extends to the end
unfoldable pub without_comments : List ℕ → List ℕ
without_comments text = encode_utf8_all (outside_comments false false 0 (chars text))
