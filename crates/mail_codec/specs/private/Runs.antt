-- The runs that bytes are cut into when they are copied; this crate's own words.
use Rattle.std.specs.Prelude.{ℕ, Bool, not, ◌||◌, ◌==◌, filter, List}
use Rattle.std.specs.Char.{is_ascii_whitespace}
use Rattle.mail_codec.specs.Ascii.{line_feed, carriage_return}
use Rattle.mail_codec.specs.declared.bytescan.runs.RunEnd.{RunEnd}
use Rattle.mail_codec.specs.declared.bytescan.runs.RunEnd.TheVariants.{LineEnd, Whitespace}

-- the byte ends a run
abbrev pub ends_run : RunEnd → ℕ → Bool
ends_run LineEnd b = b == carriage_return || b == line_feed
ends_run Whitespace b = is_ascii_whitespace b

-- the bytes that do not end a run, in order
abbrev pub without_ends : RunEnd → List ℕ → List ℕ
without_ends end bytes = filter (λ b. not (ends_run end b)) bytes
