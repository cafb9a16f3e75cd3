-- One header at the front of the bytes: the places of its key, its value and its end (RFC 5322, sections 2.2 and
-- 2.2.3, read as leniently as mail is written). Places are counted from the first byte.
use Rattle.std.specs.Prelude.{ℕ, suc, Bool, false, ◌&&◌, ◌||◌, not, ◌==◌, min, List, [], ◌∷◌, length, take, drop, slice_range, Result, Ok, Err, if◌then◌else◌}
use Rattle.std.specs.List.{list_all}
use Rattle.mail_codec.specs.Ascii.{is_blank, line_feed, carriage_return, space, colon}
use Rattle.mail_codec.specs.Latin1.{latin1_text}
use Rattle.mail_codec.specs.Places.{first_place, place_from, begins, has_prefix, is_empty}
use Rattle.mailparse.specs.Refusal.{Refusal, empty_string, leading_space}

-- a byte that ends a key
abbrev pub ends_key : ℕ → Bool
ends_key b = b == colon || b == line_feed

-- a LF
abbrev pub is_line_feed : ℕ → Bool
is_line_feed b = b == line_feed

-- a byte of a line end
abbrev pub is_line_end : ℕ → Bool
is_line_end b = b == carriage_return || b == line_feed

-- a LF that is the last byte or that no blank follows
abbrev pub ends_header : List ℕ → Bool
ends_header [] = false
ends_header (b ∷ rest) = b == line_feed && not (begins is_blank rest)

-- the key ends at the first colon or LF, or at the end
unfoldable pub key_end : List ℕ → ℕ
key_end raw = first_place (begins ends_key) raw

-- a colon ends the key
unfoldable pub has_colon : List ℕ → Bool
has_colon raw = begins (λ b. b == colon) (drop (key_end raw) raw)

-- the header ends at the first LF after its colon that no blank follows, or at the end of the bytes; without a colon it
-- ends where the key ends
unfoldable pub header_end : List ℕ → ℕ
header_end raw = if has_colon raw then place_from ends_header raw (suc (key_end raw)) else key_end raw

-- its length, including its LF
unfoldable pub header_length : List ℕ → ℕ
header_length raw = min (suc (header_end raw)) (length raw)

-- the value begins after the colon and the spaces after it; without a colon it is empty
unfoldable pub value_start : List ℕ → ℕ
value_start raw = if has_colon raw then place_from (begins (λ b. not (b == space))) (take (header_end raw) raw) (suc (key_end raw)) else key_end raw

-- it ends where only CR and LF are left before the end of the header
unfoldable pub value_end : List ℕ → ℕ
value_end raw = if has_colon raw then place_from (list_all is_line_end) (take (header_end raw) raw) (value_start raw) else key_end raw

-- a header: the bytes of its key and of its value
pub record Header : Type 0 where
  pub key : List ℕ
  pub value : List ℕ

-- the text of its key: one character for each byte
abbrev pub key_text : Header → List ℕ
key_text header = latin1_text header.key

-- the header at the front of the bytes
abbrev pub header_of : List ℕ → Header
header_of raw = record { key = take (key_end raw) raw; value = slice_range raw (value_start raw) (value_end raw) }

-- the header at the front of the bytes and its length, or the refusal
unfoldable pub read_header : List ℕ → Result (Header × ℕ) Refusal
read_header raw =
    if is_empty raw then Err empty_string
    else (if has_prefix (space ∷ []) raw then Err leading_space
    else Ok (header_of raw, header_length raw))
