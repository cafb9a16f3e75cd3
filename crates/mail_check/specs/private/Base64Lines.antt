-- Lines of whole groups of letters of Base64.
use Rattle.std.specs.Prelude.{ℕ, ◌&&◌, List, if◌then◌else◌}
use Rattle.mail_codec.specs.Ascii.{carriage_return, line_feed}
use Rattle.mail_check.specs.Bytes.{byte_at}

-- the length of the line end with which some bytes begin, or 0 if there is none
abbrev pub line_end_len : List ℕ → ℕ
line_end_len bytes =
    if byte_at bytes 0 line_feed then 1 else (if byte_at bytes 0 carriage_return && byte_at bytes 1 line_feed then 2 else 0)
