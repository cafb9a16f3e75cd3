-- The delimiters between the parts of a message's body, and the ranges of the parts (RFC 2046, section 5.1.1, read as leniently
-- as mail is written). The dash-boundary is `--` and the boundary; a line that begins with it is a delimiter, and the rest of the
-- line matters only for which delimiter is the close-delimiter. The preamble comes before the first delimiter; the epilogue
-- follows the close-delimiter and is in no part. Offsets are counted from the first byte.
use Rattle.std.specs.Prelude.{ℕ, zero, suc, ◌+◌, ◌-◌, Bool, false, not, ◌||◌, ◌&&◌, ◌==◌, nat_lt, List, length, drop, take, map, filter_map, Option, Some, None, option_map, codes, if◌then◌else◌}
use Rattle.std.specs.List.{list_all}
use Rattle.std.specs.Option.{option_map_or}
use Rattle.mail_codec.specs.Ascii.{is_blank, line_feed, carriage_return}
use Rattle.mail_codec.specs.Places.{begins, has_prefix, byte_place, least, values_below, first_place}
use Rattle.mailparse.specs.Header.{is_line_feed}
use Rattle.mailparse.specs.Options.{◌>>=◌}
use Rattle.mailparse.specs.Ranges.{Range}

-- the least offset at or after a start and before an end that passes the test, if there is one
abbrev pub least_from : (ℕ → Bool) → ℕ → ℕ → Option ℕ
least_from test start end =
    let k = least (λ n. test (start + n)) (end - start) in
    if nat_lt k (end - start) then Some (start + k) else None

-- a line starts at p: p is the start itself, or a LF comes before it
abbrev pub starts_line : List ℕ → ℕ → ℕ → Bool
starts_line bytes start p = p == start || begins is_line_feed (drop (p - 1) bytes)

-- a delimiter is at p: a line starts there, and begins with the dash-boundary
abbrev pub is_delimiter : List ℕ → List ℕ → ℕ → ℕ → Bool
is_delimiter dash_boundary bytes start p = starts_line bytes start p && has_prefix dash_boundary (drop p bytes)

-- the first delimiter at or after a start
unfoldable pub delimiter_from : List ℕ → List ℕ → ℕ → Option ℕ
delimiter_from dash_boundary bytes start = least_from (is_delimiter dash_boundary bytes start) start (length bytes)

-- the offset after the first LF at or after p
abbrev pub line_after : List ℕ → ℕ → Option ℕ
line_after bytes p = option_map (λ k. suc (p + k)) (byte_place (drop p bytes) line_feed)

-- the start of the part after the delimiter at p: the line after it
abbrev pub part_after : List ℕ → List ℕ → ℕ → Option ℕ
part_after dash_boundary bytes p = line_after bytes (p + length dash_boundary)

-- the delimiter at p is the close-delimiter: fewer than two bytes follow its dash-boundary, or `--` does
abbrev pub is_close_delimiter : List ℕ → List ℕ → ℕ → Bool
is_close_delimiter dash_boundary bytes p =
    let rest = drop (p + length dash_boundary) bytes in
    nat_lt (length rest) 2 || has_prefix (codes "--") rest

-- p, or p - 1 if the byte there is b and not before the start
abbrev pub before_byte : ℕ → List ℕ → ℕ → ℕ → ℕ
before_byte b bytes start p = if nat_lt start p && begins (λ x. x == b) (drop (p - 1) bytes) then p - 1 else p

-- p, without one LF and then one CR before it, but never before the start
abbrev pub before_line_end : List ℕ → ℕ → ℕ → ℕ
before_line_end bytes start p = before_byte carriage_return bytes start (before_byte line_feed bytes start p)

-- a body and its parts, as ranges of the bytes
pub record Cut : Type 0 where
  pub body : Range
  pub parts : List Range

-- only CRs precede the next LF, or the end of the bytes
abbrev pub is_line_over : List ℕ → Bool
is_line_over rest = list_all (λ b. b == carriage_return) (take (first_place (begins is_line_feed) rest) rest)

-- only blanks precede the end of the line, which may have several CRs
unfoldable pub is_blank_line : List ℕ → Bool
is_blank_line rest = is_line_over (drop (first_place (begins (λ b. not (is_blank b))) rest) rest)

-- only `--`, or nothing, and then blanks precede the end of the line
unfoldable pub ends_line : List ℕ → Bool
ends_line rest = if has_prefix (codes "--") rest then is_blank_line (drop 2 rest) else is_blank_line rest

-- If whole lines are asked for, a delimiter is a line on which only that follows the dash-boundary.
module _ (whole : Bool) where
  -- such a delimiter is at p
  abbrev pub is_delimiter_as : List ℕ → List ℕ → ℕ → ℕ → Bool
  is_delimiter_as dash_boundary bytes start p =
      if whole
      then is_delimiter dash_boundary bytes start p && ends_line (drop (p + length dash_boundary) bytes)
      else is_delimiter dash_boundary bytes start p

  -- the first one at or after a start
  abbrev pub delimiter_from_as : List ℕ → List ℕ → ℕ → Option ℕ
  delimiter_from_as dash_boundary bytes start =
      if whole
      then least_from (λ p. is_delimiter dash_boundary bytes start p && ends_line (drop (p + length dash_boundary) bytes)) start (length bytes)
      else delimiter_from dash_boundary bytes start

  -- the start of the first part after a preamble that starts at i: after the first delimiter, which may look like a close-delimiter
  abbrev pub first_part_as : List ℕ → List ℕ → ℕ → Option ℕ
  first_part_as dash_boundary bytes i = do
    p ← delimiter_from_as dash_boundary bytes i
    part_after dash_boundary bytes p

  -- the start of the part after the one that starts at s: after its delimiter, unless that is the close-delimiter
  abbrev pub next_part_as : List ℕ → List ℕ → ℕ → Option ℕ
  next_part_as dash_boundary bytes s = do
    p ← delimiter_from_as dash_boundary bytes s
    if is_close_delimiter dash_boundary bytes p then None else part_after dash_boundary bytes p

  -- the start of the part with this number, if there is one, given the start of the first
  abbrev pub part_start_as : List ℕ → List ℕ → Option ℕ → ℕ → Option ℕ
  part_start_as dash_boundary bytes first zero = first
  part_start_as dash_boundary bytes first (suc j) = do
    s ← part_start_as dash_boundary bytes first j
    next_part_as dash_boundary bytes s

  -- the starts of the parts, in order; no part has a number above the number of bytes
  unfoldable pub part_starts_as : List ℕ → List ℕ → Option ℕ → List ℕ
  part_starts_as dash_boundary bytes first = filter_map (λ start. start) (values_below (suc (length bytes)) (part_start_as dash_boundary bytes first))

  -- the end of a part or preamble that starts at s: before the line end before the next delimiter, otherwise at the given offset
  abbrev pub end_from_as : List ℕ → List ℕ → ℕ → ℕ → ℕ
  end_from_as dash_boundary bytes s otherwise = option_map_or (before_line_end bytes s) (delimiter_from_as dash_boundary bytes s) otherwise

  -- the end of the preamble that starts at i: before the first delimiter; without a delimiter the preamble is empty, or all that
  -- follows if whole lines are asked for
  abbrev pub preamble_end_as : List ℕ → List ℕ → ℕ → ℕ
  preamble_end_as dash_boundary bytes i = end_from_as dash_boundary bytes i (if whole then length bytes else i)

  -- its range
  abbrev pub preamble_range_as : List ℕ → List ℕ → ℕ → Range
  preamble_range_as dash_boundary bytes i = record { start = i; end = preamble_end_as dash_boundary bytes i }

  -- the range of the part that starts at s: up to its delimiter, or to the end of the bytes
  abbrev pub part_range_as : List ℕ → List ℕ → ℕ → Range
  part_range_as dash_boundary bytes s = record { start = s; end = end_from_as dash_boundary bytes s (length bytes) }

  -- how the delimiters split the bytes from i onwards: the body is the preamble, and the parts follow; without a delimiter there are no parts
  unfoldable pub cut_parts_as : List ℕ → List ℕ → ℕ → Cut
  cut_parts_as dash_boundary bytes i = record {
    body = preamble_range_as dash_boundary bytes i;
    parts = map (part_range_as dash_boundary bytes) (part_starts_as dash_boundary bytes (first_part_as dash_boundary bytes i));
  }

-- the same if whole lines are not asked for
abbrev pub first_part : List ℕ → List ℕ → ℕ → Option ℕ
first_part dash_boundary bytes i = first_part_as false dash_boundary bytes i

abbrev pub next_part : List ℕ → List ℕ → ℕ → Option ℕ
next_part dash_boundary bytes s = next_part_as false dash_boundary bytes s

abbrev pub part_start : List ℕ → List ℕ → Option ℕ → ℕ → Option ℕ
part_start dash_boundary bytes first j = part_start_as false dash_boundary bytes first j

abbrev pub part_starts : List ℕ → List ℕ → Option ℕ → List ℕ
part_starts dash_boundary bytes first = part_starts_as false dash_boundary bytes first

abbrev pub end_from : List ℕ → List ℕ → ℕ → ℕ → ℕ
end_from dash_boundary bytes s otherwise = end_from_as false dash_boundary bytes s otherwise

abbrev pub preamble_range : List ℕ → List ℕ → ℕ → Range
preamble_range dash_boundary bytes i = preamble_range_as false dash_boundary bytes i

abbrev pub part_range : List ℕ → List ℕ → ℕ → Range
part_range dash_boundary bytes s = part_range_as false dash_boundary bytes s

abbrev pub cut_parts : List ℕ → List ℕ → ℕ → Cut
cut_parts dash_boundary bytes i = cut_parts_as false dash_boundary bytes i
