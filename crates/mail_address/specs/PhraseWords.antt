-- Encoded words in a phrase: each is one atom, whatever bytes it contains (RFC 2047, sections 2 and 5, rule (3)). A word ends as it
-- does in a value, so its text may contain spaces, question marks and special bytes.
use Rattle.std.specs.Prelude.{ℕ, ◌+◌, Bool, not, ◌&&◌, ◌||◌, ◌==◌, List, drop, codes, if◌then◌else◌}
use Rattle.std.specs.List.{prefix_len}
use Rattle.mail_codec.specs.Ascii.{opening_parenthesis, question_mark, quote}
use Rattle.mail_codec.specs.Places.{begins, has_prefix, is_empty}
use Rattle.mail_address.specs.Folding.{is_control}
use Rattle.mail_address.specs.Tokens.{far, is_white}

-- a byte of the label of a charset
abbrev pub is_label_byte : ℕ → Bool
is_label_byte b = not (is_control b || b == question_mark)

-- the encoding of a word, between its question marks
abbrev pub has_encoding : List ℕ → Bool
has_encoding bytes =
    has_prefix (codes "?B?") bytes || has_prefix (codes "?b?") bytes || has_prefix (codes "?Q?") bytes || has_prefix (codes "?q?") bytes

-- a byte that may follow a word: whitespace, a quote or an opening parenthesis
abbrev pub may_follow : ℕ → Bool
may_follow b = is_white b || b == quote || b == opening_parenthesis

-- the end of a word: `?=`, and then nothing or such a byte
abbrev pub is_word_end : List ℕ → Bool
is_word_end bytes = has_prefix (codes "?=") bytes && (is_empty (drop 2 bytes) || begins may_follow (drop 2 bytes))

-- one byte of an encoded text: not a control character, and not at the end of the word
abbrev pub text_step : List ℕ → ℕ
text_step bytes = if is_empty bytes || begins is_control bytes || is_word_end bytes then 0 else 1

-- the length of the encoded word at the front, or 0 if there is none
unfoldable pub encoded_len : List ℕ → ℕ
encoded_len bytes =
    let label = prefix_len is_label_byte (drop 2 bytes) in
    let len = label + 5 + far text_step (drop (label + 5) bytes) in
    if has_prefix (codes "=?") bytes && (has_encoding (drop (label + 2) bytes) && is_word_end (drop len bytes)) then len + 2 else 0
