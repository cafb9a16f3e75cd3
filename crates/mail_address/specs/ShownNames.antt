-- Display names as people see them: the text of a name on one line, with its encoded words read as those of other headers are, and
-- without the quotes around it; our own rule.
use Rattle.std.specs.Prelude.{ℕ, ◌-◌, Bool, ◌&&◌, ◌||◌, ◌==◌, nat_lt, List, length, slice_index, slice_range, if◌then◌else◌}
use Rattle.mail_codec.specs.Ascii.{apostrophe, quote}
use Rattle.mail_codec.specs.Charset.{Charsets}
use Rattle.mail_read.specs.lenient.Names.{name_text}
use Rattle.mail_address.specs.Text.{phrase_text}

-- a text begins and ends with this byte
abbrev pub has_at_ends : ℕ → List ℕ → Bool
has_at_ends b text = slice_index text 0 == b && slice_index text (length text - 1) == b

-- a text of at least two bytes has quotes at its ends, or apostrophes
abbrev pub is_in_quotes : List ℕ → Bool
is_in_quotes text = nat_lt 1 (length text) && (has_at_ends quote text || has_at_ends apostrophe text)

-- a text without these two; any other text stays
unfoldable pub without_quotes : List ℕ → List ℕ
without_quotes text = if is_in_quotes text then slice_range text 1 (length text - 1) else text

-- the text of a display name as people see it: read leniently in these charsets, and then without the quotes around it
abbrev pub shown_display_name : Charsets → List ℕ → List ℕ
shown_display_name known phrase = without_quotes (name_text known (phrase_text phrase))
