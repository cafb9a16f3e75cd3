-- Encoded words in subjects and senders as all programs read them (RFC 2047, section 2), and what some read
-- differently; this crate's own words.
use Rattle.std.specs.Prelude.{ℕ, ◌+◌, ◌-◌, Bool, true, false, ◌&&◌, ◌||◌, not, ◌==◌, nat_eq, nat_lt, List, [], ◌∷◌, ◌++◌, length, take, drop, Option, Some, None, is_some, codes, if◌then◌else◌}
use Rattle.std.specs.Char.{is_ascii_alphanumeric}
use Rattle.std.specs.List.{ends_with, list_any, slice_split}
use Rattle.std.specs.Result.{result_ok}
use Rattle.std.specs.Str.{str_eq_ignore_ascii_case}
use Rattle.mail_codec.specs.Ascii.{carriage_return, equals_sign, is_blank, less_than, line_feed, question_mark}
use Rattle.mail_codec.specs.Base64.{base64}
use Rattle.mail_codec.specs.Places.{begins, byte_place, first_place, is_empty, text_place}
use Rattle.mail_codec.specs.QuotedPrintable.{quoted_printable}
use Rattle.mail_read.specs.lenient.Values.{spaced}
use Rattle.mail_check.specs.Bodies.{is_letter}
use Rattle.mail_check.specs.Bytes.{is_escape_digit}
use Rattle.mail_check.specs.Lines.{HeaderLine, is_named, is_visible}
use Rattle.mail_check.specs.Senders.{at_sign}
use Rattle.mail_check.specs.declared.words.WordState.{WordState}
use Rattle.mail_check.specs.declared.words.WordState.TheVariants.{Front, Equals, Opened, Charset, Encoding, Base64Mark, Base64Start, Base64, Padding, QMark, QStart, Q, Escape, Digit, Closing, Closed, Wrong}

-- ---- the pieces of a value

-- a blank or a byte of a line end
abbrev pub is_gap : ℕ → Bool
is_gap b = is_blank b || (b == line_feed || b == carriage_return)

-- the pieces of the value of a header: what is between its blanks and line ends, which may be nothing
abbrev pub pieces : List ℕ → List (List ℕ)
pieces value = slice_split is_gap value

-- ---- the syntax

-- a character of the name of a charset (RFC 2047, section 2, without the asterisk of RFC 2231)
abbrev pub is_label_byte : ℕ → Bool
is_label_byte b = is_ascii_alphanumeric b || is_some (byte_place (codes "!#$%&'+-^_`{|}~") b)

-- after the question mark of a charset: an encoding
abbrev pub after_label : ℕ → WordState
after_label b =
    if is_some (byte_place (codes "Bb") b) then Base64Mark else
    (if is_some (byte_place (codes "Qq") b) then QMark else Wrong)

-- the next byte of a text in the encoding Q
abbrev pub in_q : ℕ → WordState
in_q b =
    if b == equals_sign then Escape else (if b == question_mark then Wrong else (if is_visible b then Q else Wrong))

-- The state after one more byte of `=?charset?B?text?=` or `=?charset?Q?text?=`. The text has at least one byte. In
-- Base64 it is letters and then equals signs; in Q it is visible ASCII and escapes in upper case.
abbrev pub after_word_byte : WordState → ℕ → WordState
after_word_byte Front b = if b == equals_sign then Equals else Wrong
after_word_byte Equals b = if b == question_mark then Opened else Wrong
after_word_byte Opened b = if is_label_byte b then Charset else Wrong
after_word_byte Charset b = if is_label_byte b then Charset else (if b == question_mark then Encoding else Wrong)
after_word_byte Encoding b = after_label b
after_word_byte Base64Mark b = if b == question_mark then Base64Start else Wrong
after_word_byte Base64Start b = if is_letter b then Base64 else Wrong
after_word_byte Base64 b =
    if is_letter b then Base64 else
    (if b == equals_sign then Padding else (if b == question_mark then Closing else Wrong))
after_word_byte Padding b = if b == equals_sign then Padding else (if b == question_mark then Closing else Wrong)
after_word_byte QMark b = if b == question_mark then QStart else Wrong
after_word_byte QStart b = in_q b
after_word_byte Q b = if b == question_mark then Closing else in_q b
after_word_byte Escape b = if is_escape_digit b then Digit else Wrong
after_word_byte Digit b = if is_escape_digit b then Q else Wrong
after_word_byte Closing b = if b == equals_sign then Closed else Wrong
after_word_byte Closed b = Wrong
after_word_byte Wrong b = Wrong

-- the state after some bytes
abbrev pub after_word_bytes : WordState → List ℕ → WordState
after_word_bytes state [] = state
after_word_bytes state (b ∷ bytes) = after_word_bytes (after_word_byte state b) bytes

-- a word may end in this state
abbrev pub is_closed : WordState → Bool
is_closed Closed = true
is_closed _ = false

-- a piece is an encoded word of at most 75 bytes
unfoldable pub is_word : List ℕ → Bool
is_word piece = nat_lt (length piece) 76 && is_closed (after_word_bytes Front piece)

-- it looks as if an encoded word began or ended in it
abbrev pub has_word_delimiter : List ℕ → Bool
has_word_delimiter piece = is_some (text_place piece (codes "=?")) || is_some (text_place piece (codes "?="))

-- it looks like an encoded word, and does not have the syntax of one
abbrev pub is_bad_piece : List ℕ → Bool
is_bad_piece piece = has_word_delimiter piece && not (is_word piece)

-- ---- the parts of a word

-- where the charset of a word ends, counted from its third byte
abbrev pub label_length : List ℕ → ℕ
label_length word = first_place (begins (λ b. b == question_mark)) (drop 2 word)

-- the question mark after it, and what follows: `?B?text?=`
abbrev pub after_charset : List ℕ → List ℕ
after_charset word = drop (label_length word + 2) word

-- the encoding is B
abbrev pub is_in_base64 : List ℕ → Bool
is_in_base64 word = str_eq_ignore_ascii_case (take 3 (after_charset word)) (codes "?B?")

-- the word up to its text: `=?charset?B?`
abbrev pub word_head : List ℕ → List ℕ
word_head word = take (label_length word + 5) word

-- the encoded text
abbrev pub word_text : List ℕ → List ℕ
word_text word =
    let rest = drop 3 (after_charset word) in
    take (length rest - 2) rest

-- ---- Base64 words that programs may join

-- a word in Base64 with padding
abbrev pub is_padded : List ℕ → Bool
is_padded word = is_word word && (is_in_base64 word && ends_with nat_eq word (codes "=?="))

-- a piece begins with a text, ignoring ASCII case
abbrev pub begins_as : List ℕ → List ℕ → Bool
begins_as head piece = str_eq_ignore_ascii_case (take (length head) piece) head

-- a piece begins as such a word before it does
abbrev pub joins : List ℕ → List ℕ → Bool
joins before piece = is_padded before && begins_as (word_head before) piece

-- the later of two pieces, if that is not empty
abbrev pub later_piece : List ℕ → List ℕ → List ℕ
later_piece before piece = if is_empty piece then before else piece

-- such a piece is among some pieces, given the last one before them that is not empty
abbrev pub has_join : List ℕ → List (List ℕ) → Bool
has_join before [] = false
has_join before (piece ∷ found) = joins before piece || has_join (later_piece before piece) found

-- ---- senders that programs may decode before they read them

-- a character that is more than a part of a word in a sender
abbrev pub is_sender_mark : ℕ → Bool
is_sender_mark b = is_some (byte_place (codes "@<>,:;\"()[]\\") b)

-- the bytes of a text in Base64, or none if it is not Base64
abbrev pub octets_or_none : Option (List ℕ) → List ℕ
octets_or_none None = []
octets_or_none (Some octets) = octets

-- the bytes of a word; in the encoding Q each underscore is a space (RFC 2047, section 4.2), and a soft line break after
-- the text keeps those at its end
abbrev pub octets_of : List ℕ → List ℕ
octets_of word =
    if is_in_base64 word then octets_or_none (result_ok (base64 (word_text word)))
    else quoted_printable (spaced (word_text word) ++ codes "=")

-- a piece is a word with such a character
abbrev pub hides_address : List ℕ → Bool
hides_address piece = is_word piece && list_any is_sender_mark (octets_of piece)

-- what follows the at sign at this offset has an opening angle bracket
abbrev pub is_before_bracket : List ℕ → Option ℕ → Bool
is_before_bracket value None = false
is_before_bracket value (Some p) = is_some (byte_place (drop p value) less_than)

-- an at sign comes before an opening angle bracket
abbrev pub has_early_at : List ℕ → Bool
has_early_at value = is_before_bracket value (byte_place value at_sign)

-- ---- headers

-- a header with one address or more of who sent the mail
abbrev pub is_sender : HeaderLine → Bool
is_sender line = is_named (codes "From") line || is_named (codes "Sender") line

-- a header whose encoded words matter
abbrev pub is_worded : HeaderLine → Bool
is_worded line = is_named (codes "Subject") line || is_sender line

-- the name of a sender may be read as an address
abbrev pub is_bad_name : HeaderLine → List (List ℕ) → Bool
is_bad_name line found =
    is_sender line
    && ((is_named (codes "From") line && has_early_at line.value) || list_any hides_address found)
