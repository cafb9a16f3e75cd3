-- Which types need no lenient reading; the crate's own words.
use Rattle.std.specs.Prelude.{ℕ, Bool, not, ◌&&◌, List}
use Rattle.std.specs.List.{list_all, list_any}
use Rattle.std.specs.Str.{bytes_eq}
use Rattle.mail_codec.specs.Charset.{Charsets}
use Rattle.mailparse.specs.ContentType.{ContentType, content_type_in}
use Rattle.mailparse.specs.Pairs.{pairs_of}
use Rattle.mailparse.specs.Sections.{is_star}
use Rattle.mailparse.specs.Value.{lenient_value_in}
use Rattle.mail_read.specs.lenient.Comments.{without_comments}
use Rattle.mail_read.specs.lenient.Manner.{has_broken_boundary, lenient_name}
use Rattle.mail_read.specs.lenient.Repairs.{repaired}
use Rattle.mail_read.specs.lenient.Undecoded.{undecoded}

-- a text has no comment and lacks nothing
abbrev pub is_complete : List ℕ → Bool
is_complete text = bytes_eq (repaired (without_comments text)) text

-- no value of these pairs is extended or split into sections
abbrev pub is_star_free : List (List ℕ × List ℕ) → Bool
is_star_free pairs = list_all (λ pair. not (list_any is_star pair.0)) pairs

-- a type has a name of two words, and no boundary that contains a line end
abbrev pub is_named : ContentType → Bool
is_named found = bytes_eq (lenient_name found.mimetype) found.mimetype && not (has_broken_boundary found.params)

-- the type in a text needs no lenient reading
abbrev pub is_strict : Charsets → List ℕ → Bool
is_strict known text = is_complete text && (is_star_free (pairs_of text) && is_named (content_type_in known text))

-- a raw value has no encoded word that the port decodes, so that its text is the one that types are
-- read in
abbrev pub has_no_word : Charsets → List ℕ → Bool
has_no_word known value = bytes_eq (undecoded value) (lenient_value_in known value)

-- the type in a raw value needs no lenient reading
abbrev pub is_strict_value : Charsets → List ℕ → Bool
is_strict_value known value = has_no_word known value && is_strict known (undecoded value)
