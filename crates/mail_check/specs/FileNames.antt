-- Names of files that other programs may read differently (RFC 2183, section 2.3); this crate's own words.
use Rattle.std.specs.Prelude.{ℕ, ◌-◌, Bool, false, ◌&&◌, ◌||◌, ◌==◌, not, List, length, drop, Option, Some, None, is_none, is_some, chars, codes}
use Rattle.std.specs.List.{list_any}
use Rattle.std.specs.Str.{bytes_eq}
use Rattle.mail_codec.specs.Ascii.{colon, is_blank}
use Rattle.mail_codec.specs.Places.{begins, is_empty}
use Rattle.mailparse.specs.ContentType.{ContentType}
use Rattle.mailparse.specs.Disposition.{Disposition}
use Rattle.mailparse.specs.Mail.{Node}
use Rattle.mailparse.specs.Map.{first_with_key}
use Rattle.mail_read.specs.FileNames.{is_unsafe}
use Rattle.mail_read.specs.Files.{filled, name_in}

-- two names differ, and the second is not empty
abbrev pub are_two : List ℕ → List ℕ → Bool
are_two first second = not (is_empty second) && not (bytes_eq first second)

-- two names are there and differ; an empty second one counts as missing
abbrev pub names_differ : Option (List ℕ) → Option (List ℕ) → Bool
names_differ None typed = false
names_differ (Some shown) None = false
names_differ (Some shown) (Some typed) = are_two shown typed

-- the `filename` of a disposition and the `name` of a type differ
abbrev pub has_two_names : Disposition → ContentType → Bool
has_two_names shown ctype = names_differ (shown.params (codes "filename")) (ctype.params (codes "name"))

-- a message has no `Content-Type`
abbrev pub lacks_type : Node → Bool
lacks_type node = is_none (first_with_key (codes "Content-Type") node.headers)

-- a message has a disposition with a `filename`, and no `Content-Type`
abbrev pub has_untyped_name : Disposition → Node → Bool
has_untyped_name shown node =
    is_some (filled (shown.params (codes "filename")))
    && lacks_type node

-- ---- names that are not safe

-- a character that no safe name contains, or a colon
abbrev pub is_risky : ℕ → Bool
is_risky c = is_unsafe c || c == colon

-- a name contains such a character
abbrev pub has_risky : List ℕ → Bool
has_risky name = list_any is_risky (chars name)

abbrev pub dot : ℕ
dot = 46

-- a dot or a blank
abbrev pub is_filler : ℕ → Bool
is_filler b = b == dot || is_blank b

-- one of these is at an end of a name
abbrev pub has_filler : List ℕ → Bool
has_filler name = begins is_filler name || begins is_filler (drop (length name - 1) name)

-- a name is there, and it contains such a character or has a dot or a blank at an end
abbrev pub is_unsafe_name : Option (List ℕ) → Bool
is_unsafe_name None = false
is_unsafe_name (Some name) = has_risky name || has_filler name

-- the name of the file of a message is not safe
abbrev pub has_unsafe_name : Disposition → ContentType → Bool
has_unsafe_name shown ctype = is_unsafe_name (name_in shown ctype)
