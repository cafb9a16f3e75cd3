-- The bytes of encoded words that other programs may read as another text; this crate's own words.
use Rattle.std.specs.Prelude.{ℕ, ◌-◌, Bool, ◌&&◌, ◌||◌, not, ◌==◌, nat_eq, nat_lt, List, length, take, drop, is_some, codes, if◌then◌else◌}
use Rattle.std.specs.List.{ends_with, list_any}
use Rattle.mail_codec.specs.Charset.{Charsets, mark_at_start}
use Rattle.mail_codec.specs.Places.{begins, byte_place, is_empty}
use Rattle.mail_check.specs.Charsets.{has_c1_after, is_label_of, is_lacking, utf_8_labels}
use Rattle.mail_check.specs.Words.{is_in_base64, is_word, label_length, octets_of, word_text}

-- ---- bytes

-- a control character of ASCII
abbrev pub is_ascii_control : ℕ → Bool
is_ascii_control b = nat_lt b 32 || b == 127

-- bytes that programs read as different texts in any charset: they begin with a byte order mark, or have control characters
abbrev pub are_marked : List ℕ → Bool
are_marked octets = is_some (mark_at_start octets) || list_any is_ascii_control octets

-- bytes under the label of UTF-8 with one of the control characters U+0080 to U+009F
abbrev pub are_controls : List ℕ → List ℕ → Bool
are_controls label octets = is_label_of label utf_8_labels && has_c1_after 0 octets

-- ---- words

-- the charset of a word
abbrev pub label_of : List ℕ → List ℕ
label_of word = take (label_length word) (drop 2 word)

-- a byte is one of some
unfoldable pub is_one_of : List ℕ → ℕ → Bool
is_one_of some b = is_some (byte_place some b)

-- the n-th byte from the end of a text is not among these
abbrev pub lacks_one : List ℕ → ℕ → List ℕ → Bool
lacks_one some n text = not (begins (is_one_of some) (drop (length text - n) text))

-- the last letter of a text in Base64 with padding has a bit that makes no byte and is not 0
abbrev pub has_spare_bits : List ℕ → Bool
has_spare_bits text =
    if ends_with nat_eq text (codes "==") then lacks_one (codes "AQgw") 3 text
    else ends_with nat_eq text (codes "=") && lacks_one (codes "AEIMQUYcgkosw048") 2 text

-- Under the charsets that are known.
module _ (known : Charsets) where
  -- bytes that programs read as different texts under a label: none, since the text was not Base64; those above; and bytes
  -- that the charset lacks
  abbrev pub are_bad : List ℕ → List ℕ → Bool
  are_bad label octets =
      is_empty octets || (are_marked octets || (are_controls label octets || is_lacking known label octets))

  -- a piece is a word in Base64 with such bits, or with such bytes
  abbrev pub has_bad_octets : List ℕ → Bool
  has_bad_octets piece =
      is_word piece
      && ((is_in_base64 piece && has_spare_bits (word_text piece)) || are_bad (label_of piece) (octets_of piece))
