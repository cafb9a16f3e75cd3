-- The block of headers at the front of a message, with the blank line that ends it (RFC 5322, section 2.1).
use Rattle.std.specs.Prelude.{ℕ, zero, suc, ◌+◌, Bool, false, ◌&&◌, ◌||◌, ◌==◌, not, nat_lt, List, [], ◌∷◌, length, take, drop, map, Option, Some, None, Result, Ok, Err, codes, if◌then◌else◌}
use Rattle.mail_codec.specs.Ascii.{is_blank, line_feed, carriage_return, space}
use Rattle.mail_codec.specs.Places.{first_place, has_prefix, is_empty, least, trimmed_at_end, values_below}
use Rattle.mailparse.specs.Refusal.{◌>>=◌, Refusal, leading_space, lone_carriage_return}
use Rattle.mailparse.specs.Header.{Header, has_colon, header_of, header_length}

-- the length of the blank line at the front: LF or CR LF, and 0 without one
unfoldable pub blank_line : List ℕ → ℕ
blank_line bytes = if has_prefix (line_feed ∷ []) bytes then 1 else (if has_prefix (carriage_return ∷ line_feed ∷ []) bytes then 2 else 0)

-- the headers end here: at the end of the bytes or at the blank line
unfoldable pub headers_end : List ℕ → Bool
headers_end bytes = is_empty bytes || nat_lt 0 (blank_line bytes)

-- a header begins here
unfoldable pub has_header : List ℕ → Bool
has_header bytes = not (headers_end bytes) && (not (has_prefix (carriage_return ∷ []) bytes) && not (has_prefix (space ∷ []) bytes))

-- where the header with this number begins: the first at 0, each other one where the one before it ends
unfoldable pub header_place : List ℕ → ℕ → ℕ
header_place raw zero = 0
header_place raw (suc j) = header_place raw j + header_length (drop (header_place raw j) raw)

-- the bytes from there onwards
abbrev pub rest_at : List ℕ → ℕ → List ℕ
rest_at raw j = drop (header_place raw j) raw

-- the number of headers: the least number at whose place no header begins
unfoldable pub header_count : List ℕ → ℕ
header_count raw = least (λ j. not (has_header (rest_at raw j))) (length raw)

-- how the block ends here: with the length of the blank line, 0 at the end of the bytes, or refused for a lone CR; `None`
-- if a header is expected
unfoldable pub block_end : List ℕ → Result (Option ℕ) Refusal
block_end bytes =
    if headers_end bytes then Ok (Some (blank_line bytes))
    else (if has_prefix (carriage_return ∷ []) bytes then Err lone_carriage_return else Ok None)

-- a list of headers, and the offset just after the blank line that ends it
pub record HeaderList : Type 0 where
  pub headers : List Header
  pub index : ℕ

-- the headers at the front of the bytes, or the refusal where a header is expected
unfoldable pub read_headers : List ℕ → Result HeaderList Refusal
read_headers raw =
    let count = header_count raw in
    let stop = rest_at raw count in
    if headers_end stop
    then Ok (record { headers = values_below count (λ j. header_of (rest_at raw j)); index = header_place raw count + blank_line stop })
    else (if has_prefix (carriage_return ∷ []) stop then Err lone_carriage_return else Err leading_space)

-- a line begins here that looks like a delimiter and not like a header: it begins with `--` and has no colon
unfoldable pub is_dash_line : List ℕ → Bool
is_dash_line bytes = has_prefix (codes "--") bytes && not (has_colon bytes)

-- a LF, and after it the blank line, the end of the bytes, or such a line
abbrev pub ends_header_lines : List ℕ → Bool
ends_header_lines [] = false
ends_header_lines (b ∷ rest) = b == line_feed && (headers_end rest || is_dash_line rest)

-- the offset after the first such LF
unfoldable pub header_lines_end : List ℕ → ℕ
header_lines_end raw = suc (first_place ends_header_lines raw)

-- the bytes before the first line, after the first one, that looks like a delimiter; all of them if a blank line comes first
unfoldable pub before_dash_line : List ℕ → List ℕ
before_dash_line raw = if is_dash_line (drop (header_lines_end raw) raw) then take (header_lines_end raw) raw else raw

-- a key without the blanks at its end; one of blanks alone is empty
abbrev pub bare_key : List ℕ → List ℕ
bare_key key = trimmed_at_end is_blank key

-- a header without the blanks at the end of its key
abbrev pub bare_header : Header → Header
bare_header header = record { key = bare_key header.key; value = header.value }

-- the same of each header that was read, or the refusal
abbrev pub with_bare_keys : Result HeaderList Refusal → Result HeaderList Refusal
with_bare_keys read = read >>= λ block. Ok (record { headers = map bare_header block.headers; index = block.index })

-- the headers at the front of the bytes before such a line, each without the blanks at the end of its key, or the refusal
abbrev pub read_lenient_headers : List ℕ → Result HeaderList Refusal
read_lenient_headers raw = with_bare_keys (read_headers (before_dash_line raw))

-- In this manner headers are read leniently, or not.
module _ (lenient : Bool) where
  -- the bytes that they are read from
  abbrev pub header_part : List ℕ → List ℕ
  header_part raw = if lenient then before_dash_line raw else raw

  -- one of them, given as it is there
  abbrev pub header_as : Header → Header
  header_as header = if lenient then bare_header header else header

  -- the headers at the front of the bytes, or the refusal
  abbrev pub read_block : List ℕ → Result HeaderList Refusal
  read_block raw = if lenient then read_lenient_headers raw else read_headers raw
