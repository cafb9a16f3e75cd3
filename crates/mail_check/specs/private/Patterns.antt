-- What the patterns of the searches are.
use Rattle.std.specs.Prelude.{ℕ, ◌+◌, ◌-◌, Bool, not, is_some, ◌&&◌, ◌||◌, nat_lt, List, length, drop, codes, Option, Some, None, if◌then◌else◌}
use Rattle.mail_codec.specs.Ascii.{carriage_return, closing_parenthesis, equals_sign, line_feed, space, tab}
use Rattle.mail_codec.specs.Places.{has_prefix}
use Rattle.mail_check.specs.Bytes.{byte_at, first_offset, is_bad_escape, is_bare_line_feed, is_blank_fold, is_comment_fold, is_escaped_end}
use Rattle.mail_check.specs.Bytes.{is_lone_return, is_nul, is_return_feed}
use Rattle.mail_check.specs.LineTests.{begins_file, is_before, is_long_line}
use Rattle.mail_check.specs.declared.scan.Pattern.{Pattern}
use Rattle.mail_check.specs.declared.scan.Pattern.TheVariants.{Nul, LoneReturn, ReturnFeed, BareLineFeed, BlankFold, CommentFold, BadEscape, BlankFeed, EscapedEnd, OddEscape, LongLine, FileLine}

-- the offset of the line end with a LF at an offset: that of a CR before it, if there is one
abbrev pub end_offset : List ℕ → ℕ → ℕ
end_offset bytes p = if nat_lt 0 p && byte_at bytes (p - 1) carriage_return then p - 1 else p

-- a blank is before an offset
abbrev pub is_after_blank : List ℕ → ℕ → Bool
is_after_blank bytes p = nat_lt 0 p && (byte_at bytes (p - 1) space || byte_at bytes (p - 1) tab)

-- a LF, and before its line end a blank
abbrev pub is_blank_feed : List ℕ → ℕ → Bool
is_blank_feed bytes p = byte_at bytes p line_feed && is_after_blank bytes (end_offset bytes p)

-- the offset of the last byte, if it is a blank
abbrev pub last_blank : List ℕ → Option ℕ
last_blank bytes = if is_after_blank bytes (length bytes) then Some (length bytes - 1) else None

-- an equals sign that begins no escape and no soft line break, or one at an escaped or empty end
abbrev pub is_odd_escape : List ℕ → ℕ → Bool
is_odd_escape bytes p = is_bad_escape bytes p || is_escaped_end bytes p

-- `begin` occurs with its third byte at an offset
abbrev pub is_begin : List ℕ → ℕ → Bool
is_begin bytes p = nat_lt 1 p && has_prefix (codes "begin") (drop (p - 2) bytes)

-- one of both is there: a CR at an offset, or a LF after it
abbrev pub is_odd_end : List ℕ → ℕ → Bool
is_odd_end bytes p =
    is_lone_return bytes p || (byte_at bytes (p + 1) line_feed && not (byte_at bytes p carriage_return))

-- all line ends are a CR and a LF
abbrev pub has_even_ends : List ℕ → Bool
has_even_ends bytes = not (byte_at bytes 0 line_feed) && not (is_some (first_offset (is_odd_end bytes) bytes))

-- the byte that a pattern has at its offset
abbrev pub lead : Pattern → ℕ
lead Nul = 0
lead LoneReturn = carriage_return
lead ReturnFeed = carriage_return
lead BareLineFeed = line_feed
lead BlankFold = line_feed
lead CommentFold = closing_parenthesis
lead BadEscape = equals_sign
lead BlankFeed = line_feed
lead EscapedEnd = equals_sign
lead OddEscape = equals_sign
lead LongLine = line_feed
lead FileLine = line_feed

-- a pattern occurs at an offset
abbrev pub matches_at : Pattern → List ℕ → ℕ → Bool
matches_at Nul = is_nul
matches_at LoneReturn = is_lone_return
matches_at ReturnFeed = is_return_feed
matches_at BareLineFeed = is_bare_line_feed
matches_at BlankFold = is_blank_fold
matches_at CommentFold = is_comment_fold
matches_at BadEscape = is_bad_escape
matches_at BlankFeed = is_blank_feed
matches_at EscapedEnd = is_escaped_end
matches_at OddEscape = is_odd_escape
matches_at LongLine = is_before is_long_line
matches_at FileLine = is_before begins_file
