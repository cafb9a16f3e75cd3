-- Whether a header has more than one line.
use Rattle.std.specs.Prelude.{ℕ, ◌+◌, Bool, false, nat_lt, length, Option, Some, None}
use Rattle.mail_codec.specs.Ascii.{line_feed}
use Rattle.mail_codec.specs.Places.{byte_place}
use Rattle.mail_check.specs.Lines.{HeaderLine}

-- an offset is there, and it is not the last one of this many bytes
abbrev pub is_inner : ℕ → Option ℕ → Bool
is_inner size None = false
is_inner size (Some p) = nat_lt (p + 1) size

-- a header has a LF before its last byte
unfoldable pub is_folded : HeaderLine → Bool
is_folded line = is_inner (length line.bytes) (byte_place line.bytes line_feed)
