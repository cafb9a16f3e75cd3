-- Values with parameters (RFC 2045, section 5.1; RFC 2231, section 4) that lack semicolons, closing
-- quotes or the apostrophes of extended values, or whose names have whitespace that mails do not use;
-- the crate's own rule. What is missing is put in, and every character stays.
use Rattle.std.specs.Prelude.{ℕ, zero, suc, ◌-◌, Bool, true, false, not, ◌&&◌, ◌||◌, ◌==◌, List, [], ◌∷◌, ◌++◌, is_some, chars, encode_utf8_all, codes, if◌then◌else◌}
use Rattle.std.specs.Char.{is_ascii, is_ascii_alphabetic, is_ascii_alphanumeric, is_ascii_whitespace, is_whitespace}
use Rattle.mail_codec.specs.Ascii.{apostrophe, asterisk, backslash, equals_sign, quote, semicolon, slash}
use Rattle.mail_codec.specs.Charset.{charset_of_label}
use Rattle.mail_codec.specs.Places.{is_empty, text_place}
use Rattle.mailparse.specs.ExtendedValues.{label_in}
use Rattle.mail_read.specs.lenient.Quoting.{with_quotes}
use Rattle.mail_read.specs.declared.lenient.repairs.Position.{Position}
use Rattle.mail_read.specs.declared.lenient.repairs.Position.TheVariants.{BeforeWord, InWord, AfterWord, InName, AfterStar, BeforeText, InText, AfterBlank, InQuotes, AfterBackslash, AfterText, BeforeExtended, InExtended, InRun, RunBackslash}

-- ---- the position of each character

-- the position after a character of a name
abbrev pub after_name : ℕ → Position
after_name c =
    if c == equals_sign then BeforeText else
    if c == asterisk then AfterStar else
    if c == quote then InRun else InName

-- after a character of the value before all parameters
abbrev pub after_value : ℕ → Position
after_value c =
    if c == semicolon then InName else
    if c == slash then BeforeWord else
    if c == quote then InRun else InWord

-- after a character of a text without quotes
abbrev pub after_text : ℕ → Position
after_text c =
    if c == semicolon then InName else
    if c == quote then InRun else
    if is_ascii_whitespace c then AfterBlank else InText

-- after a character of a quoted text
abbrev pub after_quoted : ℕ → Position
after_quoted c =
    if c == quote then AfterText else
    if c == backslash then AfterBackslash else InQuotes

-- the same, and after whitespace the position `blank`
abbrev pub in_value : Position → ℕ → Position
in_value blank c = if is_ascii_whitespace c then blank else after_value c

-- after a character that follows a word of the value and whitespace
abbrev pub after_word : ℕ → Position
after_word c =
    if is_ascii_whitespace c then AfterWord else
    if c == slash then BeforeWord else after_name c

-- after a character that follows a star in a name
abbrev pub after_star : ℕ → Position
after_star c =
    if is_ascii_whitespace c then AfterStar else
    if c == equals_sign then BeforeExtended else after_name c

-- after a character that follows a `=`: `blank` after whitespace, `quoted` after a quote
abbrev pub before_text : Position → Position → ℕ → Position
before_text blank quoted c =
    if is_ascii_whitespace c then blank else
    if c == quote then quoted else after_text c

-- after a character that follows a text
abbrev pub after_end : ℕ → Position
after_end c = if is_ascii_whitespace c then AfterText else after_name c

-- after a character in quotes elsewhere
abbrev pub after_run : ℕ → Position
after_run c =
    if c == quote then InText else
    if c == backslash then RunBackslash else InRun

-- after a character with this position
abbrev pub after : Position → ℕ → Position
after BeforeWord c = in_value BeforeWord c
after InWord c = in_value AfterWord c
after AfterWord c = after_word c
after InName c = after_name c
after AfterStar c = after_star c
after BeforeText c = before_text BeforeText InQuotes c
after BeforeExtended c = before_text BeforeExtended InExtended c
after InText c = after_text c
after AfterBlank c = after_text c
after InQuotes c = after_quoted c
after InExtended c = after_quoted c
after AfterBackslash c = InQuotes
after AfterText c = after_end c
after InRun c = after_run c
after RunBackslash c = InRun

-- ---- what is missing

-- `-`
abbrev pub hyphen : ℕ
hyphen = 45

-- a character of a name
abbrev pub is_name : ℕ → Bool
is_name c = (is_ascii_alphanumeric c || c == hyphen) || c == asterisk

-- the characters begin with the rest of a name and a `=`
abbrev pub ends_name : List ℕ → Bool
ends_name [] = false
ends_name (c ∷ cs) = if is_name c then ends_name cs else c == equals_sign

-- the characters begin with a name, whose first character is a letter, and a `=`
abbrev pub begins_parameter : List ℕ → Bool
begins_parameter [] = false
begins_parameter (c ∷ cs) = is_ascii_alphabetic c && ends_name cs

-- the position of the first of these characters: a text ends at whitespace that a parameter follows
abbrev pub settled : Position → List ℕ → Position
settled AfterBlank cs = if begins_parameter cs then AfterText else InText
settled position cs = position

-- of two apostrophes, those that are missing before the first `;` or `=`, if `left` are missing
-- before these characters
abbrev pub missing_apostrophes : ℕ → List ℕ → ℕ
missing_apostrophes left [] = left
missing_apostrophes left (c ∷ cs) =
    if (left == 0 || c == semicolon) || c == equals_sign then left
    else missing_apostrophes (if c == apostrophe then left - 1 else left) cs

-- that many apostrophes, at most two
abbrev pub apostrophes : ℕ → List ℕ
apostrophes zero = []
apostrophes (suc zero) = codes "'"
apostrophes (suc (suc n)) = codes "''"

-- the text before the only apostrophe of an extended value is a label: it is empty, or names one of
-- the built-in charsets
abbrev pub is_label : List ℕ → Bool
is_label text = is_empty text || is_some (charset_of_label text)

-- these characters begin with a label
abbrev pub begins_with_label : List ℕ → Bool
begins_with_label cs = is_label (label_in (encode_utf8_all cs))

-- the apostrophes that an extended text with these characters lacks: if it has only one, and no label
-- before it, that one belongs to the text, and both are missing
abbrev pub lacking : List ℕ → ℕ
lacking cs =
    let count = missing_apostrophes 2 cs in
    if count == 1 && not (begins_with_label cs) then 2 else count

-- a vertical tab or a form feed
abbrev pub is_feed : ℕ → Bool
is_feed c = c == 11 || c == 12

-- whitespace that mails do not use, such as a no-break space: all but a space, a tab, a CR and a LF
abbrev pub is_other_space : ℕ → Bool
is_other_space c = is_feed c || (not (is_ascii c) && is_whitespace c)

-- an underscore before such whitespace in a name, which would be trimmed otherwise
abbrev pub underscore_before : ℕ → List ℕ
underscore_before c = if is_other_space c then codes "_" else []

-- before this character, a semicolon and what is missing in a name, unless it is one of those that may
-- follow a value or a text
abbrev pub semicolon_unless : Bool → ℕ → List ℕ
semicolon_unless follows c = if follows then [] else codes ";" ++ underscore_before c

-- the apostrophes that an extended text lacks at its first character
abbrev pub for_extended : Bool → List ℕ → List ℕ
for_extended is_alone cs = if is_alone then apostrophes (lacking cs) else []

-- what is missing before the first of these characters, which has this position
abbrev pub missing : Bool → Position → List ℕ → List ℕ
missing is_alone position [] = []
missing is_alone AfterWord (c ∷ cs) = semicolon_unless ((is_ascii_whitespace c || c == semicolon) || c == slash) c
missing is_alone AfterText (c ∷ cs) = semicolon_unless (is_ascii_whitespace c || c == semicolon) c
missing is_alone InName (c ∷ cs) = underscore_before c
missing is_alone AfterStar (c ∷ cs) = underscore_before c
missing is_alone BeforeExtended (c ∷ cs) =
    if is_ascii_whitespace c || c == quote then [] else for_extended is_alone (c ∷ cs)
missing is_alone InExtended (c ∷ cs) = for_extended is_alone (c ∷ cs)
missing is_alone position (c ∷ cs) = []

-- what is missing at the end of the text
abbrev pub missing_at_end : Position → List ℕ
missing_at_end InQuotes = codes "\""
missing_at_end InExtended = codes "\""
missing_at_end AfterBackslash = codes "\""
missing_at_end position = []

-- ---- the whole text

-- the characters, the first of which has this position, with what is missing
abbrev pub repaired_from : Bool → Position → List ℕ → List ℕ
repaired_from is_alone position [] = missing_at_end position
repaired_from is_alone position (c ∷ cs) =
    let here = settled position (c ∷ cs) in
    missing is_alone here (c ∷ cs) ++ c ∷ repaired_from is_alone (after here c) cs

-- each extended value has a charset and a language of its own: no value begins with an extended
-- section
abbrev pub extended_are_alone : List ℕ → Bool
extended_are_alone text = not (is_some (text_place text (codes "*0*")))

-- a value with parameters with all that is missing
unfoldable pub mended : List ℕ → List ℕ
mended text = encode_utf8_all (repaired_from (extended_are_alone text) BeforeWord (chars text))

-- the same, with quotes around each value that begins or ends with whitespace beyond ASCII
abbrev pub repaired : List ℕ → List ℕ
repaired text = with_quotes (mended text)

-- ---- values that clearly lack nothing

-- nothing is missing before a character with this position, whatever follows it; no claim is made
-- of extended values
abbrev pub may_follow : Position → ℕ → Bool
may_follow AfterWord c = (is_ascii_whitespace c || c == semicolon) || c == slash
may_follow AfterText c = is_ascii_whitespace c || c == semicolon
may_follow InName c = not (is_other_space c)
may_follow AfterStar c = not (is_other_space c)
may_follow AfterBlank c = not (is_ascii_alphabetic c)
may_follow BeforeExtended c = false
may_follow InExtended c = false
may_follow position c = true

-- nothing is missing in these characters, the first of which has this position
abbrev pub lacks_nothing : Position → List ℕ → Bool
lacks_nothing position [] = is_empty (missing_at_end position)
lacks_nothing position (c ∷ cs) = if may_follow position c then lacks_nothing (after position c) cs else false
