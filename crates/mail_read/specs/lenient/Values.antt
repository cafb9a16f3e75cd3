-- The text of a header's value, read leniently: RFC 2047 (encoded words), and RFC 2231, section 5
-- (languages). How words are read that the standards forbid is the crate's own rule.
use Rattle.std.specs.Prelude.{ℕ, zero, suc, ◌+◌, ◌-◌, Bool, false, not, ◌&&◌, ◌||◌, ◌==◌, List, [], ◌∷◌, ◌++◌, map, take, drop, Option, Some, None, is_some, option_and_then, option_map, codes, if◌then◌else◌}
use Rattle.std.specs.Char.{is_ascii_whitespace}
use Rattle.std.specs.List.{list_all, prefix_len}
use Rattle.std.specs.Option.{option_map_or}
use Rattle.std.specs.Str.{str_eq_ignore_ascii_case}
use Rattle.mail_codec.specs.Ascii.{asterisk, equals_sign, question_mark, space, underscore}
use Rattle.mail_codec.specs.Charset.{Charsets}
use Rattle.mail_codec.specs.Places.{has_prefix, text_place, trimmed_at_start}
use Rattle.mail_codec.specs.QuotedPrintable.{quoted_printable}
use Rattle.mailparse.specs.Header.{Header}
use Rattle.mailparse.specs.Map.{first_with_key}
use Rattle.mail_read.specs.Files.{text_of_octets}
use Rattle.mail_read.specs.lenient.Base64.{base64_front}
use Rattle.mail_read.specs.lenient.Folding.{is_blank, unfolded}
use Rattle.mail_read.specs.declared.lenient.values.WordEncoding.{WordEncoding}
use Rattle.mail_read.specs.declared.lenient.values.WordEncoding.TheVariants.{Base64, QuotedPrintable}

-- a byte of a label: neither `=` nor `?`
abbrev pub is_label_byte : ℕ → Bool
is_label_byte b = not (b == equals_sign || b == question_mark)

-- the number of bytes of a label before its language, which follows an asterisk
abbrev pub name_length : List ℕ → ℕ
name_length label = prefix_len (λ b. not (b == asterisk)) label

-- a label without its language
abbrev pub without_language : List ℕ → List ℕ
without_language label = take (name_length label) label

-- the encoding that is named between two question marks at the front
abbrev pub encoding_at : List ℕ → Option WordEncoding
encoding_at bytes =
    if has_prefix (codes "?B?") bytes || has_prefix (codes "?b?") bytes then Some Base64 else
    if has_prefix (codes "?Q?") bytes || has_prefix (codes "?q?") bytes then Some QuotedPrintable
    else None

-- what an encoded word has before its encoded text: the label of its charset, without a language, and
-- its encoding; and the offset of that text from the end of the `=?`
pub record Head : Type 0 where
  pub label : List ℕ
  pub encoding : WordEncoding
  pub start : ℕ

-- the head at the front of the bytes after a `=?`, if there is one
unfoldable pub head_of : List ℕ → Option Head
head_of inside =
    let length = prefix_len is_label_byte inside in
    option_map (λ encoding. record {
      label = without_language (take length inside);
      encoding = encoding;
      start = length + 3;
    }) (encoding_at (drop length inside))

-- a space for each `_`
abbrev pub spaced : List ℕ → List ℕ
spaced encoded = map (λ b. if b == underscore then space else b) encoded

-- the bytes of an encoded text; of quoted-printable the whitespace at its end stays, since a `=` that
-- ends the line follows it
unfoldable pub octets_of : WordEncoding → List ℕ → List ℕ
octets_of Base64 encoded = (base64_front encoded).bytes
octets_of QuotedPrintable encoded = quoted_printable (spaced encoded ++ codes "=")

-- an encoded word: the label of its charset, and its bytes in this charset
pub record Word : Type 0 where
  pub label : List ℕ
  pub octets : List ℕ

-- the word with a head and an encoded text
abbrev pub word_of : List ℕ → WordEncoding → List ℕ → Word
word_of label encoding encoded = record { label = label; octets = octets_of encoding encoded }

-- the words of a value, each with the text before it, and the text after the last
pub data Pieces : Type 0 where
  last : List ℕ → Pieces
  piece : List ℕ → Word → Pieces → Pieces

-- the same with more text in front
abbrev pub with_text : List ℕ → Pieces → Pieces
with_text front (last text) = last (front ++ text)
with_text front (piece text word after) = piece (front ++ text) word after

-- the pieces of bytes that begin with this head, given those after a number of bytes; without a
-- `?=` no word ends, and all is text
abbrev pub pieces_at : Head → List ℕ → (ℕ → Pieces) → Pieces
pieces_at head bytes after =
    let text = drop (2 + head.start) bytes in
    option_map_or (λ length. piece [] (word_of head.label head.encoding (take length text))
    (after (2 + head.start + length + 2)))
    (text_place text (codes "?=")) (last bytes)

-- a text is whitespace alone
abbrev pub is_white : List ℕ → Bool
is_white text = list_all is_ascii_whitespace text

-- a label names a charset of the family of ISO 2022, such as ISO-2022-JP, in which each text, and so
-- each word, begins and ends in ASCII (RFC 1468)
abbrev pub has_shifts : List ℕ → Bool
has_shifts label = is_some (text_place label (codes "2022"))

-- whether a word goes on the word before it: only whitespace is between the two, and they have one
-- charset, in which a character may be cut in two
abbrev pub joins : Option Word → List ℕ → Word → Bool
joins None text word = false
joins (Some before) text word =
    is_white text && (str_eq_ignore_ascii_case before.label word.label && not (has_shifts word.label))

-- both words as one
abbrev pub joined : Option Word → Word → Word
joined None word = word
joined (Some before) word = record { label = before.label; octets = before.octets ++ word.octets }

-- the text before a word, after another word if there is one: whitespace between two words is none
-- (RFC 2047, section 6.2)
abbrev pub between : Option Word → List ℕ → List ℕ
between None text = text_of_octets text
between (Some before) text = if is_white text then [] else text_of_octets text

-- Under the charsets that are known.
module _ (known : Charsets) where
  -- a head whose charset is known
  abbrev pub if_known : Head → Option Head
  if_known head = if is_some (known head.label) then Some head else None

  -- the head of a word at the front of bytes, if its charset is known
  abbrev pub word_head : List ℕ → Option Head
  word_head bytes =
      if has_prefix (codes "=?") bytes then option_and_then if_known (head_of (drop 2 bytes)) else None

  -- the pieces of bytes, after the first few are skipped
  abbrev pub pieces : ℕ → List ℕ → Pieces
  pieces skipped [] = last []
  pieces (suc skipped) (b ∷ rest) = pieces skipped rest
  pieces zero (b ∷ rest) =
      option_map_or (λ head. pieces_at head (b ∷ rest) (λ n. pieces (n - 1) rest))
      (word_head (b ∷ rest)) (with_text (b ∷ []) (pieces 0 rest))

  -- the text of a word that is not gone on
  abbrev pub decoded : Option Word → List ℕ
  decoded None = []
  decoded (Some word) = option_map_or (λ text. text word.octets) (known word.label) []

  -- the text of pieces, after a word if there is one
  abbrev pub shown : Option Word → Pieces → List ℕ
  shown before (last text) = decoded before ++ text_of_octets text
  shown before (piece text word after) =
      if joins before text word then shown (Some (joined before word)) after
      else decoded before ++ (between before text ++ shown (Some word) after)

  -- the text of a value: unfolded, without blanks at its front, and decoded
  unfoldable pub header_text : List ℕ → List ℕ
  header_text value = shown None (pieces 0 (trimmed_at_start is_blank (unfolded value)))

  -- the text of the first header with a name, if there is one
  abbrev pub first_header_text : List ℕ → List Header → Option (List ℕ)
  first_header_text name headers = option_map (λ h. header_text h.value) (first_with_key name headers)
