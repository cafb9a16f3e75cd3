-- Which backslashes of a text escape: those at an odd position of their run, the first, the third and so on.
use Rattle.std.specs.Prelude.{ℕ, zero, suc, Bool, not, ◌||◌, ◌==◌, List, slice_index, length, map, filter, if◌then◌else◌}
use Rattle.std.specs.List.{range_with_len}
use Rattle.mail_codec.specs.Ascii.{backslash}
use Rattle.mailparse.specs.Segments.{is_odd}

-- how many backslashes are directly before a place
abbrev pub backslashes_before : List ℕ → ℕ → ℕ
backslashes_before text zero = 0
backslashes_before text (suc k) = if slice_index text k == backslash then suc (backslashes_before text k) else 0

-- the character at a place stays: it is not a backslash, or an odd number of backslashes is directly before it
abbrev pub stays : List ℕ → ℕ → Bool
stays text k = not (slice_index text k == backslash) || is_odd (backslashes_before text k)

-- the characters that stay, in order
abbrev pub staying : List ℕ → List ℕ
staying text = map (slice_index text) (filter (stays text) (range_with_len 0 (length text)))
