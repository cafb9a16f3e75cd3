-- Lines of bytes, which end in LF or CR LF: where they start and end, and which are empty.
use Rattle.std.specs.Prelude.{ℕ, suc, ◌-◌, Bool, ◌&&◌, ◌||◌, ◌==◌, min, nat_lt, List, [], ◌∷◌, length, drop, if◌then◌else◌}
use Rattle.mail_codec.specs.Ascii.{line_feed, carriage_return}
use Rattle.mail_codec.specs.Places.{begins, first_place, least, has_prefix}

-- the length of the empty line at the front, LF or CR LF, or 0
unfoldable pub empty_line : List ℕ → ℕ
empty_line bytes =
    if has_prefix (line_feed ∷ []) bytes then 1
    else (if has_prefix (carriage_return ∷ line_feed ∷ []) bytes then 2 else 0)

-- an empty line is at the front
abbrev pub is_empty_line : List ℕ → Bool
is_empty_line bytes = nat_lt 0 (empty_line bytes)

-- the bytes after the empty line at the front, if there is one
abbrev pub after_empty_line : List ℕ → List ℕ
after_empty_line bytes = drop (empty_line bytes) bytes

-- the length of the first line, including its LF
unfoldable pub line_length : List ℕ → ℕ
line_length bytes = min (suc (first_place (begins (λ b. b == line_feed)) bytes)) (length bytes)

-- the bytes after the first line
abbrev pub after_line : List ℕ → List ℕ
after_line bytes = drop (line_length bytes) bytes

-- a line starts at p: it is the first one, or follows a LF
abbrev pub starts_line : List ℕ → ℕ → Bool
starts_line bytes p = p == 0 || begins (λ b. b == line_feed) (drop (p - 1) bytes)

-- the place of the first line such that the bytes from there onwards pass the test, or the length
-- if there is no such line
abbrev pub line_place : (List ℕ → Bool) → List ℕ → ℕ
line_place test bytes = least (λ p. starts_line bytes p && test (drop p bytes)) (length bytes)
