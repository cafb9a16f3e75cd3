-- Runs of text that are appended at once.
use Rattle.std.specs.Prelude.{ℕ, Bool, false, not, ◌&&◌, ◌==◌, List, [], ◌∷◌}
use Rattle.std.specs.Char.{is_ascii_whitespace}
use Rattle.mail_codec.specs.Ascii.{space}
use Rattle.mail_codec.specs.Places.{begins}

-- the bytes begin with whitespace other than a single space between other bytes
abbrev pub begins_gap : List ℕ → Bool
begins_gap [] = false
begins_gap (b ∷ rest) =
    is_ascii_whitespace b && not (b == space && begins (λ c. not (is_ascii_whitespace c)) rest)
