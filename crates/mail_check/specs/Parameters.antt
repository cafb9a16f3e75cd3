-- Types and dispositions as all programs read them, and what some read differently in their parameters (RFC 2045, section 5.1;
-- RFC 2183, section 2; RFC 2231); this crate's own words.
use Rattle.std.specs.Prelude.{ℕ, ◌+◌, Bool, true, false, ◌&&◌, ◌||◌, ◌==◌, List, [], ◌∷◌, ◌++◌, drop, take, Option, Some, None, is_none, is_some, codes, encode_utf8, if◌then◌else◌}
use Rattle.std.specs.Char.{is_ascii_alphanumeric, is_ascii_digit, to_ascii_lowercase}
use Rattle.std.specs.List.{list_any}
use Rattle.std.specs.Str.{bytes_eq, str_eq_ignore_ascii_case}
use Rattle.mail_codec.specs.Ascii.{asterisk, backslash, carriage_return, equals_sign, is_blank, line_feed, quote, semicolon, slash, space, tab}
use Rattle.mail_codec.specs.Places.{byte_place, text_place}
use Rattle.mail_check.specs.Bytes.{is_control}
use Rattle.mail_check.specs.Lines.{HeaderLine, is_named, is_visible, trimmed_value}
use Rattle.mail_check.specs.declared.parameters.ValueState.{ValueState}
use Rattle.mail_check.specs.declared.parameters.ValueState.TheVariants.{Start, Token, Semicolon, Blank, Return, Feed, Fold, Attribute, Star, Equals, StarEquals, Text, Extended, Opened, Quoted, Space, Escaped, Closed, Wrong}
use Rattle.mail_check.specs.declared.parameters.Step.{Step}
use Rattle.mail_check.specs.declared.parameters.Step.TheVariants.{Special, Starred}

-- ---- characters

-- a character of a subtype or a disposition (RFC 6838, section 4.2)
abbrev pub is_restricted : ℕ → Bool
is_restricted b = is_ascii_alphanumeric b || is_some (byte_place (codes "!#$&-^_.+") b)

-- a character of the name of a parameter, and of a value that is not in quotes
abbrev pub is_attribute : ℕ → Bool
is_attribute b = is_restricted b || is_some (byte_place (codes "`{|}~") b)

-- a character of such a value after a name with an asterisk
abbrev pub is_extended : ℕ → Bool
is_extended b = is_attribute b || is_some (byte_place (codes "*'%") b)

-- ---- the syntax

-- after a value: a semicolon
abbrev pub after_value : ℕ → ValueState
after_value b = if b == semicolon then Semicolon else Wrong

-- after a semicolon and blanks: a name, a blank or a line end
abbrev pub after_semicolon : ℕ → ValueState
after_semicolon b =
    if is_attribute b then Attribute else (if is_blank b then Blank else
    (if b == line_feed then Feed else (if b == carriage_return then Return else Wrong)))

-- in quotes
abbrev pub in_quotes : ℕ → ValueState
in_quotes b =
    if b == quote then Closed else (if b == backslash then Escaped else
    (if is_control b then Wrong else (if b == space then Space else Quoted)))

-- The state after one more byte. There is a token, and after each semicolon a parameter, before which there may be blanks and one
-- fold. Its value is a token or in quotes. After the last semicolon there may be nothing.
abbrev pub after_byte : ValueState → ℕ → ValueState
after_byte Start b = if is_ascii_alphanumeric b then Token else Wrong
after_byte Token b = if is_restricted b then Token else after_value b
after_byte Semicolon b = after_semicolon b
after_byte Blank b = after_semicolon b
after_byte Return b = if b == line_feed then Feed else Wrong
after_byte Feed b = if is_blank b then Fold else Wrong
after_byte Fold b = if is_attribute b then Attribute else (if is_blank b then Fold else Wrong)
after_byte Attribute b =
    if is_attribute b then Attribute else (if b == asterisk then Star else (if b == equals_sign then Equals else Wrong))
after_byte Star b = if b == asterisk || is_ascii_digit b then Star else (if b == equals_sign then StarEquals else Wrong)
after_byte Equals b = if is_attribute b then Text else (if b == quote then Opened else Wrong)
after_byte StarEquals b = if is_extended b then Extended else (if b == quote then Opened else Wrong)
after_byte Text b = if is_attribute b then Text else after_value b
after_byte Extended b = if is_extended b then Extended else after_value b
after_byte Opened b = in_quotes b
after_byte Quoted b = in_quotes b
after_byte Space b = in_quotes b
after_byte Escaped b = if b == space then Space else (if is_visible b then Quoted else Wrong)
after_byte Closed b = after_value b
after_byte Wrong b = Wrong

-- the state after some bytes
abbrev pub after_bytes : ValueState → List ℕ → ValueState
after_bytes state [] = state
after_bytes state (b ∷ bytes) = after_bytes (after_byte state b) bytes

-- a value may end in this state
abbrev pub may_end : ValueState → Bool
may_end Token = true
may_end Semicolon = true
may_end Text = true
may_end Extended = true
may_end Closed = true
may_end _ = false

-- the bytes are a subtype or a disposition with parameters
unfoldable pub is_strict : List ℕ → Bool
is_strict bytes = may_end (after_bytes Start bytes)

-- ---- steps at which programs differ

-- a semicolon, a tab or a byte of a line end
abbrev pub is_special : ℕ → Bool
is_special b = b == semicolon || (b == tab || (b == line_feed || b == carriage_return))

-- a byte after a state: one in quotes that is special, or a space at their start or end
abbrev pub is_special_step : ValueState → ℕ → Bool
is_special_step Opened b = b == space || is_special b
is_special_step Quoted b = is_special b
is_special_step Space b = b == quote || is_special b
is_special_step Escaped b = is_special b
is_special_step _ b = false

-- the asterisk of a name
abbrev pub is_star_step : ValueState → ℕ → Bool
is_star_step Attribute b = b == asterisk
is_star_step _ b = false

abbrev pub is_step : Step → ValueState → ℕ → Bool
is_step Special = is_special_step
is_step Starred = is_star_step

-- such a byte is among some bytes after a state
abbrev pub has_step : Step → ValueState → List ℕ → Bool
has_step step state [] = false
has_step step state (b ∷ bytes) = is_step step state b || has_step step (after_byte state b) bytes

-- ---- the names of parameters

-- a byte is one of a name if this is the state after it
abbrev pub is_name_state : ValueState → Bool
is_name_state Attribute = true
is_name_state Star = true
is_name_state _ = false

-- it is the equals sign after a name
abbrev pub ends_name : ValueState → Bool
ends_name Equals = true
ends_name StarEquals = true
ends_name _ = false

-- a name with one more byte, in lower case, if that is one of it; otherwise none
abbrev pub name_with : ValueState → List ℕ → ℕ → List ℕ
name_with next name b = if is_name_state next then name ++ encode_utf8 (to_ascii_lowercase b) else []

-- the names among some bytes after a state, of the first of which this part was read
abbrev pub names_after : ValueState → List ℕ → List ℕ → List (List ℕ)
names_after state name [] = []
names_after state name (b ∷ bytes) =
    let next = after_byte state b in
    if ends_name next then name ∷ names_after next [] bytes
    else names_after next (name_with next name b) bytes

-- the names of all parameters, in lower case, with their asterisks
unfoldable pub parameter_names : List ℕ → List (List ℕ)
parameter_names bytes = names_after Start [] bytes

-- one of some names was seen, or comes after one that is equal
abbrev pub has_repeat : (List ℕ → Bool) → List (List ℕ) → Bool
has_repeat seen [] = false
has_repeat seen (name ∷ names) =
    if seen name then true else has_repeat (λ other. if bytes_eq name other then true else seen other) names

-- none was
abbrev pub none_seen : List ℕ → Bool
none_seen name = false

-- a name is among some
abbrev pub is_among : List ℕ → List (List ℕ) → Bool
is_among name names = list_any (bytes_eq name) names

-- ---- headers

-- a main type that all programs know
abbrev pub is_main_type : List ℕ → Bool
is_main_type text =
    list_any (str_eq_ignore_ascii_case text)
    (codes "text" ∷ codes "image" ∷ codes "audio" ∷ codes "video" ∷ codes "application"
    ∷ codes "multipart" ∷ codes "message" ∷ codes "font" ∷ codes "model" ∷ [])

-- what follows the slash at this offset, if a main type comes before it
abbrev pub after_main : List ℕ → Option ℕ → Option (List ℕ)
after_main value None = None
after_main value (Some p) = if is_main_type (take p value) then Some (drop (p + 1) value) else None

-- a header has parameters
abbrev pub is_type : HeaderLine → Bool
is_type line = is_named (codes "Content-Type") line

abbrev pub is_disposition : HeaderLine → Bool
is_disposition line = is_named (codes "Content-Disposition") line

-- its value from the subtype or the disposition onwards
abbrev pub value_of : HeaderLine → Option (List ℕ)
value_of line =
    let value = trimmed_value line in
    if is_type line then after_main value (byte_place value slash)
    else (if is_disposition line then Some value else None)

-- if that has the syntax above
abbrev pub strict : Option (List ℕ) → Option (List ℕ)
strict None = None
strict (Some bytes) = if is_strict bytes then Some bytes else None

abbrev pub strict_value : HeaderLine → Option (List ℕ)
strict_value line = strict (value_of line)

-- the file name of the other header is among the names of a type or a disposition
abbrev pub has_other_name : HeaderLine → List (List ℕ) → Bool
has_other_name line names =
    (is_type line && is_among (codes "filename") names)
    || (is_disposition line && is_among (codes "name") names)

-- a type or a disposition has another syntax
abbrev pub is_bad_value : HeaderLine → Bool
is_bad_value line = (is_type line || is_disposition line) && is_none (strict_value line)

-- a value in quotes has a semicolon, a tab or a line end, or a space at its start or end
abbrev pub has_quoted_special : List ℕ → Bool
has_quoted_special bytes = has_step Special Start bytes

-- a backslash is in quotes
abbrev pub has_quoted_pair : List ℕ → Bool
has_quoted_pair bytes = is_some (byte_place bytes backslash)

-- the name of a parameter has an asterisk
abbrev pub has_extended : List ℕ → Bool
has_extended bytes = has_step Starred Start bytes

-- a value looks as if it had an encoded word
abbrev pub has_word : List ℕ → Bool
has_word bytes = is_some (text_place bytes (codes "=?"))
