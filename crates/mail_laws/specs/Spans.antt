-- The ranges of the headers of a block, of their keys and of their values in the bytes.
use Rattle.std.specs.Prelude.{ℕ, ◌+◌, ◌≤◌, Bool, false, List, length, take, if◌then◌else◌}
use Rattle.std.specs.List.{flat_map}
use Rattle.mail_codec.specs.Places.{values_below}
use Rattle.mailparse.specs.Header.{Header, header_length, key_end, value_start, value_end}
use Rattle.mailparse.specs.Block.{bare_key, blank_line, header_place, rest_at, header_count}
use Rattle.mailparse.specs.Ranges.{Range, slice}

-- the bytes of the header with this number, with its line end
abbrev pub header_span : List ℕ → ℕ → List ℕ
header_span raw j = take (header_length (rest_at raw j)) (rest_at raw j)

-- the bytes of all headers, in order
abbrev pub header_spans : List ℕ → List ℕ
header_spans raw = flat_map (λ span. span) (values_below (header_count raw) (header_span raw))

-- the bytes of the blank line after them, or none
abbrev pub blank_span : List ℕ → List ℕ
blank_span raw = take (blank_line (rest_at raw (header_count raw))) (rest_at raw (header_count raw))

-- the end of the key of the header at the front: before the blanks at its end, if headers are read leniently
abbrev pub key_end_as : Bool → List ℕ → ℕ
key_end_as lenient raw = if lenient then length (bare_key (take (key_end raw) raw)) else key_end raw

-- the range of the key of the header with this number
abbrev pub key_range_as : Bool → List ℕ → ℕ → Range
key_range_as lenient raw j = record { start = header_place raw j; end = header_place raw j + key_end_as lenient (rest_at raw j) }

-- the same of a key with all its bytes
abbrev pub key_range : List ℕ → ℕ → Range
key_range raw j = key_range_as false raw j

-- the range of its value
abbrev pub value_range : List ℕ → ℕ → Range
value_range raw j = record {
  start = header_place raw j + value_start (rest_at raw j);
  end = header_place raw j + value_end (rest_at raw j);
}

-- the header of those bytes
abbrev pub header_at_as : Bool → List ℕ → ℕ → Header
header_at_as lenient raw j = record { key = slice raw (key_range_as lenient raw j); value = slice raw (value_range raw j) }

-- the same of a key with all its bytes
abbrev pub header_at : List ℕ → ℕ → Header
header_at raw j = header_at_as false raw j

-- two ranges, the second after the first, and both before a place
pub record AreOrderedBefore (first second : Range) (place : ℕ) : Type 0 where
  pub first_is_range : first.start ≤ first.end
  pub apart : first.end ≤ second.start
  pub second_is_range : second.start ≤ second.end
  pub ends : second.end ≤ place
