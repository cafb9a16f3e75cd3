-- Boundaries and delimiters that other programs may read differently (RFC 2046, section 5.1); this crate's own words.
use Rattle.std.specs.Prelude.{ℕ, ◌+◌, Bool, ◌&&◌, ◌||◌, not, nat_eq, nat_lt, List, ◌++◌, length, drop, Option, Some, None, is_none, is_some, codes, if◌then◌else◌}
use Rattle.std.specs.Char.{is_ascii_alphanumeric}
use Rattle.std.specs.List.{ends_with, list_all}
use Rattle.mail_codec.specs.Places.{byte_place, has_prefix, is_empty}
use Rattle.mailparse.specs.ContentType.{ContentType}
use Rattle.mailparse.specs.Delimiters.{starts_line}
use Rattle.mail_check.specs.Bytes.{first_offset, is_line_left}
use Rattle.mail_check.specs.Lines.{begins_type}

-- a character of a boundary
abbrev pub is_boundary_byte : ℕ → Bool
is_boundary_byte b = is_ascii_alphanumeric b || is_some (byte_place (codes "'()+_,-./:=? ") b)

-- a boundary: 1 to 70 such characters, the last of which is no space
unfoldable pub is_boundary : List ℕ → Bool
is_boundary text =
    not (is_empty text)
    && (nat_lt (length text) 71
    && (list_all is_boundary_byte text && not (ends_with nat_eq text (codes " "))))

-- the dash-boundary with this text as its boundary, if that is a boundary
abbrev pub dash_with : Option (List ℕ) → Option (List ℕ)
dash_with None = None
dash_with (Some text) = if is_boundary text then Some (codes "--" ++ text) else None

-- the dash-boundary of a type, if it is a multipart with a boundary
abbrev pub dash_of : ContentType → Option (List ℕ)
dash_of ctype =
    if begins_type (codes "multipart/") ctype then dash_with (ctype.params (codes "boundary")) else None

-- a multipart has no boundary, or another type has one
unfoldable pub is_bad_boundary : ContentType → Bool
is_bad_boundary ctype =
    if begins_type (codes "multipart") ctype then is_none (dash_of ctype)
    else is_some (ctype.params (codes "boundary"))

-- the bytes without two dashes at the front
abbrev pub without_dashes : List ℕ → List ℕ
without_dashes rest = if has_prefix (codes "--") rest then drop 2 rest else rest

-- With this dash-boundary, in the text of a multipart after its headers.
module _ (dash text : List ℕ) where
  -- the dash-boundary is at an offset
  abbrev pub has_dash : ℕ → Bool
  has_dash p = has_prefix dash (drop p text)

  -- what follows it
  abbrev pub after_dash : ℕ → List ℕ
  after_dash p = drop (p + length dash) text

  -- it is there, but no line starts there
  abbrev pub is_inside : ℕ → Bool
  is_inside p = has_dash p && not (starts_line text 0 p)

  -- a line starts with it, and has more than `--` after it
  abbrev pub is_tailed : ℕ → Bool
  is_tailed p =
      has_dash p
      && (starts_line text 0 p && not (is_line_left (without_dashes (after_dash p))))

  -- a line starts with it, and `--` follows
  abbrev pub is_close : ℕ → Bool
  is_close p = has_dash p && (starts_line text 0 p && has_prefix (codes "--") (after_dash p))

  -- a delimiter: a line starts with it, and at most `--` follows
  abbrev pub is_delimiter : ℕ → Bool
  is_delimiter p =
      has_dash p
      && (starts_line text 0 p && is_line_left (without_dashes (after_dash p)))

  -- a delimiter with nothing after it
  abbrev pub is_open : ℕ → Bool
  is_open p = has_dash p && (starts_line text 0 p && is_line_left (after_dash p))

  -- a delimiter at an offset or after it
  abbrev pub is_from : ℕ → ℕ → Bool
  is_from start p = is_delimiter p && not (nat_lt p start)

  -- a delimiter after an offset
  abbrev pub is_past : ℕ → ℕ → Bool
  is_past start p = is_delimiter p && nat_lt start p

  -- the first delimiter after a close-delimiter at an offset, or there if none with nothing after it comes before that
  abbrev pub late_after : Option ℕ → Option ℕ → Option ℕ
  late_after opening None = None
  late_after None (Some close) = first_offset (is_from close) text
  late_after (Some opening) (Some close) =
      if nat_lt opening close then first_offset (is_past close) text else first_offset (is_from close) text

  -- the first delimiter at which no part begins or ends
  abbrev pub late_delimiter : Option ℕ
  late_delimiter = late_after (first_offset is_open text) (first_offset is_close text)
