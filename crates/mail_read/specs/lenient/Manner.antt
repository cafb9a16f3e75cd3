-- The manner in which mail is read leniently: types with comments, without a readable name or with
-- parameters that lack something, whole delimiter lines, headers that end before a line that looks
-- like a delimiter, whose keys have no blanks before the colon, and refused messages that are kept
-- (RFC 2045, sections 5.1 and 5.2; RFC 2046, section 5.1.1; RFC 2231, section 4; RFC 5322, section
-- 4.5).
use Rattle.std.specs.Prelude.{ℕ, Bool, true, ◌||◌, ◌==◌, List, ◌∷◌, ◌++◌, None, false, is_some, codes, if◌then◌else◌}
use Rattle.std.specs.List.{list_any, before_first, after_first}
use Rattle.std.specs.Option.{option_map_or}
use Rattle.std.specs.Str.{bytes_eq, trim}
use Rattle.mail_codec.specs.Ascii.{carriage_return, line_feed, slash}
use Rattle.mail_codec.specs.Charset.{Charsets}
use Rattle.mail_codec.specs.Places.{either_place, has_prefix, is_empty}
use Rattle.mailparse.specs.ContentType.{ContentType, content_type_in}
use Rattle.mailparse.specs.Header.{Header}
use Rattle.mailparse.specs.Mail.{part_type}
use Rattle.mailparse.specs.Manner.{Manner}
use Rattle.mailparse.specs.Map.{first_with_key}
use Rattle.mailparse.specs.Pairs.{Texts}
use Rattle.mail_read.specs.lenient.Comments.{without_comments}
use Rattle.mail_read.specs.lenient.Guess.{or_guessed}
use Rattle.mail_read.specs.lenient.Repairs.{repaired}
use Rattle.mail_read.specs.lenient.Undecoded.{undecoded}

-- the name of plain text
abbrev pub plain_name : List ℕ
plain_name = codes "text/plain"

-- a slash
abbrev pub is_slash : ℕ → Bool
is_slash b = b == slash

-- a type and a subtype as one name; plain text if one of them is empty
abbrev pub name_of_two : List ℕ → List ℕ → List ℕ
name_of_two type subtype = if is_empty type || is_empty subtype then plain_name else type ++ slash ∷ subtype

-- a name without a slash: plain text, unless it begins with `multipart`
abbrev pub name_of_one : List ℕ → List ℕ
name_of_one name = if has_prefix (codes "multipart") name then name else plain_name

-- the name of a type, read leniently: whitespace around the first slash is left out
unfoldable pub lenient_name : List ℕ → List ℕ
lenient_name name =
    if list_any is_slash name then name_of_two (trim (before_first is_slash name)) (trim (after_first is_slash name))
    else name_of_one name

-- there is a boundary that contains a line end, so that no line begins with it (RFC 2046, section
-- 5.1.1)
abbrev pub has_broken_boundary : Texts → Bool
has_broken_boundary params =
    option_map_or (λ boundary. is_some (either_place boundary carriage_return line_feed))
    (params (codes "boundary")) false

-- the parameters without the boundary
abbrev pub without_boundary : Texts → Texts
without_boundary params name = if bytes_eq (codes "boundary") name then None else params name

-- the parameters without a boundary that contains a line end
unfoldable pub with_whole_boundary : Texts → Texts
with_whole_boundary params = if has_broken_boundary params then without_boundary params else params

-- a type, read leniently: its name, and no boundary that contains a line end
unfoldable pub made_lenient : ContentType → ContentType
made_lenient found = record {
  mimetype = lenient_name found.mimetype;
  charset = found.charset;
  params = with_whole_boundary found.params;
}

-- Under the charsets that are known.
module _ (known : Charsets) where
  -- the type in a text: that of the text without its comments and with what its parameters lack,
  -- read leniently
  unfoldable pub lenient_type_in : List ℕ → ContentType
  lenient_type_in text =
      made_lenient (content_type_in (or_guessed known) (repaired (without_comments text)))

  -- the type in a raw value
  abbrev pub lenient_type_from : List ℕ → ContentType
  lenient_type_from value = lenient_type_in (undecoded value)

  -- the type of a message with these headers: that in its first `Content-Type`, otherwise the
  -- default type of a part
  unfoldable pub lenient_type_of : Bool → List Header → ContentType
  lenient_type_of in_digest headers =
      option_map_or (λ h. lenient_type_from h.value)
      (first_with_key (codes "Content-Type") headers) (part_type in_digest)

  -- the manner itself
  abbrev pub lenient : Manner
  lenient = record { type_of = lenient_type_of; keeps_refused = true; whole_lines = true; lenient_headers = true }
