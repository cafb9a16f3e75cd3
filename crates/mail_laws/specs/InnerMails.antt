-- Where the bytes of a mail inside a mail are in the input; the project's own terms.
use Rattle.std.specs.Prelude.{◌≡◌, ℕ, ◌+◌, ◌≤◌, List, length, Option, Some, None}
use Rattle.mailparse.specs.Ranges.{slice}

-- the bytes of the input from an offset on are these bytes, if there is an offset
abbrev pub AreAt : List ℕ → Option ℕ → List ℕ → Type 0
AreAt input None bytes = Unit
AreAt input (Some start) bytes =
    (start + length bytes ≤ length input) × (slice input (record { start = start; end = start + length bytes }) ≡ bytes)
