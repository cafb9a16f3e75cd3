-- Windows paths in quotes whose backslashes are no escapes (against RFC 5322, section 3.2.1), as
-- some programs write the names of files; the crate's own rule.
use Rattle.std.specs.Prelude.{ℕ, Bool, false, not, ◌&&◌, ◌||◌, ◌==◌, List, [], ◌∷◌, ◌++◌, chars, Option, encode_utf8_all, if◌then◌else◌}
use Rattle.std.specs.Char.{is_ascii_alphabetic}
use Rattle.mail_codec.specs.Ascii.{backslash, colon, quote}
use Rattle.mail_codec.specs.Charset.{Charsets}
use Rattle.mailparse.specs.Mail.{Node}
use Rattle.mail_read.specs.HeaderNames.{name_by}
use Rattle.mail_read.specs.lenient.FileNames.{shown_name, typed_name}
use Rattle.mail_read.specs.declared.files.paths.Position.{Position}
use Rattle.mail_read.specs.declared.files.paths.Position.TheVariants.{Outside, InQuotes, AfterBackslash, InPath}

-- characters begin a path whose backslashes are no escapes: a letter, `:\`, and then neither a
-- backslash nor a quote, before which that one would be an escape
abbrev pub begins_path : List ℕ → Bool
begins_path (a ∷ (b ∷ (c ∷ (d ∷ cs)))) =
    is_ascii_alphabetic a && (b == colon && (c == backslash && not (d == backslash || d == quote)))
begins_path _ = false

-- the position after a character in quotes
abbrev pub after_quoted : ℕ → Position
after_quoted c =
    if c == quote then Outside else
    if c == backslash then AfterBackslash else InQuotes

-- the position after a character with this position, given the characters that follow it
abbrev pub after : Position → ℕ → List ℕ → Position
after Outside c cs =
    if c == quote then (if begins_path cs then InPath else InQuotes) else Outside
after InQuotes c cs = after_quoted c
after AfterBackslash c cs = InQuotes
after InPath c cs = if c == quote then Outside else InPath

-- a character with this position, twice if it is a backslash in a path
abbrev pub escaped : Position → ℕ → List ℕ
escaped InPath c = if c == backslash then c ∷ (c ∷ []) else c ∷ []
escaped Outside c = c ∷ []
escaped InQuotes c = c ∷ []
escaped AfterBackslash c = c ∷ []

-- characters, the first of which has this position, with each backslash in a path escaped
abbrev pub all_escaped : Position → List ℕ → List ℕ
all_escaped position [] = []
all_escaped position (c ∷ cs) = escaped position c ++ all_escaped (after position c cs) cs

-- a value with parameters in which the backslashes of such paths are escaped
unfoldable pub with_paths_escaped : List ℕ → List ℕ
with_paths_escaped text = encode_utf8_all (all_escaped Outside (chars text))

-- the file name of a message, whose texts are read under the charsets that are known, with such
-- paths as they are
unfoldable pub file_name_or_path : Charsets → Node → Option (List ℕ)
file_name_or_path known node =
    name_by known (λ text. shown_name known (with_paths_escaped text))
    (λ text. typed_name known (with_paths_escaped text)) node
