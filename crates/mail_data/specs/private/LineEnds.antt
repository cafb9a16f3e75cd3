-- The empty line at the end of bytes, which the search for the end of a mail looks for.
use Rattle.std.specs.Prelude.{ℕ, Bool, ◌||◌, nat_eq, List, [], ◌∷◌, if◌then◌else◌}
use Rattle.std.specs.List.{ends_with}
use Rattle.std.specs.Str.{bytes_eq}
use Rattle.mail_codec.specs.Ascii.{line_feed, carriage_return}

-- a line is the last one: it is all of the bytes, or ends them after a LF
abbrev pub is_last_line : List ℕ → List ℕ → Bool
is_last_line line bytes = bytes_eq bytes line || ends_with nat_eq bytes (line_feed ∷ line)

-- the length of the empty line at the end, LF or CR LF, or 0
unfoldable pub last_empty_line : List ℕ → ℕ
last_empty_line bytes =
    if is_last_line (line_feed ∷ []) bytes then 1
    else (if is_last_line (carriage_return ∷ line_feed ∷ []) bytes then 2 else 0)
