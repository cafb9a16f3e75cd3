-- Values of any text, written so that they read back: as they are, or as encoded words (RFC 2047, sections 2, 4.1 and 5) in Base64 (RFC
-- 4648, section 4). Which values are written as they are, and where a text is cut into words, is the project's own rule.
use Rattle.std.specs.Prelude.{◌≡◌, ◌≢◌, ◌≤◌, ◌<◌, ℕ, Bool, true, ◌&&◌, ◌||◌, not, ◌==◌, nat_le, List, [], ◌∷◌, ◌++◌, length, is_none, codes, encode_utf8_all, if◌then◌else◌}
use Rattle.std.specs.Char.{is_ascii_graphic}
use Rattle.std.specs.List.{list_all}
use Rattle.std.specs.Str.{chars}
use Rattle.base64.specs.Rfc4648.{encode}
use Rattle.mail_codec.specs.Ascii.{carriage_return, line_feed, space}
use Rattle.mail_codec.specs.Base64.{alphabet, padding}
use Rattle.mail_codec.specs.Charset.{Charsets, four_charsets}
use Rattle.mail_codec.specs.Places.{has_prefix, text_place}

-- a printable byte of ASCII or a space
abbrev pub is_plain_byte : ℕ → Bool
is_plain_byte b = is_ascii_graphic b || b == space

-- a plain value: such bytes, without a space at the start and without `=?`
abbrev pub is_plain_value : List ℕ → Bool
is_plain_value value = list_all is_plain_byte value && (not (has_prefix (codes " ") value) && is_none (text_place value (codes "=?")))

-- ---- the words of a text

-- the most bytes that a word carries: 45, which are 60 letters
abbrev pub most : ℕ
most = 45

-- how many bytes characters take in UTF-8
abbrev pub size : List ℕ → ℕ
size characters = length (encode_utf8_all characters)

-- a word is full: with the next character, if there is one, it would be too large
abbrev pub IsFull : List ℕ → List ℕ → Type 0
IsFull word [] = Unit {0}
IsFull word (c ∷ rest) = most < size (word ++ c ∷ [])

-- the words into which characters are cut. The cases:
pub data AreWords : List ℕ → List (List ℕ) → Type 0 where
  -- no characters have no word
  no_word : AreWords [] []
  -- the first word is not empty, not too large and full; the characters after it are cut in the same way
  next_word : {word rest characters : List ℕ} {words : List (List ℕ)} → word ≢ [] → size word ≤ most → IsFull word rest → AreWords rest words
      → characters ≡ word ++ rest → AreWords characters (word ∷ words)

-- the words, computed, of a word that has begun and of the characters that follow
abbrev pub words_after : List ℕ → List ℕ → List (List ℕ)
words_after word [] = word ∷ []
words_after word (c ∷ rest) =
    if nat_le (size (word ++ c ∷ [])) most then words_after (word ++ c ∷ []) rest else word ∷ words_after (c ∷ []) rest

-- the words of characters, computed
abbrev pub words_of : List ℕ → List (List ℕ)
words_of [] = []
words_of (c ∷ rest) = words_after (c ∷ []) rest

-- ---- the written text

-- the letters of bytes: Base64 with padding
abbrev pub letters : List ℕ → List ℕ
letters bytes = encode alphabet padding true bytes

-- bytes as one encoded word
abbrev pub one_word : List ℕ → List ℕ
one_word bytes = codes "=?utf-8?B?" ++ (letters bytes ++ codes "?=")

-- the encoded word of characters
abbrev pub encoded_word : List ℕ → List ℕ
encoded_word word = one_word (encode_utf8_all word)

-- the encoded words of words, one to a line, separated by CR LF and a space
abbrev pub word_lines : List (List ℕ) → List ℕ
word_lines [] = []
word_lines (word ∷ []) = encoded_word word
word_lines (word ∷ next ∷ more) = encoded_word word ++ (carriage_return ∷ line_feed ∷ space ∷ word_lines (next ∷ more))

-- a text as it is written: a plain one as it is, any other as its encoded words
unfoldable pub written_value : List ℕ → List ℕ
written_value text = if is_plain_value text then text else word_lines (words_of (chars text))

-- the charsets read the label that the words carry, `utf-8`, as the four charsets do
abbrev pub KnowUtf8 : Charsets → Type 0
KnowUtf8 known = known (codes "utf-8") ≡ four_charsets (codes "utf-8")
