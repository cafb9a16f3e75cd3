-- The inside of an encoded word, between its `=?` and its `?=`: RFC 2047, sections 2 and 4, as this crate reads them.
use Rattle.std.specs.Prelude.{◌≡◌, ℕ, Bool, true, ◌||◌, List, ◌++◌, length, drop, map, Option, Some, None, codes, if◌then◌else◌, ◌==◌}
use Rattle.std.specs.List.{before_first, after_first, list_any}
use Rattle.std.specs.Result.{result_ok}
use Rattle.std.specs.Str.{bytes_eq, trim_end}
use Rattle.mail_codec.specs.Ascii.{space, question_mark, underscore}
use Rattle.mail_codec.specs.Base64.{base64}
use Rattle.mail_codec.specs.Charset.{Charsets}
use Rattle.mail_codec.specs.QuotedPrintable.{quoted_printable}
use Rattle.mailparse.specs.Options.{◌>>=◌}

-- a question mark separates the fields of a word
abbrev pub is_question_mark : ℕ → Bool
is_question_mark b = b == question_mark

-- whether bytes contain a question mark
abbrev pub has_question_mark : List ℕ → Bool
has_question_mark bytes = list_any is_question_mark bytes

-- an encoded word: the label of its charset, its encoding and its encoded text
pub record EncodedWord : Type 0 where
  pub charset : List ℕ
  pub encoding : List ℕ
  pub encoded_text : List ℕ

-- the word with this inside, which is cut at its first two question marks, if it has two
abbrev pub word_inside : List ℕ → Option EncodedWord
word_inside inside =
    let rest = after_first is_question_mark inside in
    if has_question_mark rest
    then Some (record {
      charset = before_first is_question_mark inside;
      encoding = before_first is_question_mark rest;
      encoded_text = after_first is_question_mark rest;
    })
    else None

-- a space for each `_`
abbrev pub spaced : List ℕ → List ℕ
spaced encoded = map (λ b. if b == underscore then space else b) encoded

-- the bytes of an encoded text under Q, after each `_` is replaced by a space: the text before trailing whitespace is read as
-- quoted-printable, and the whitespace is kept
abbrev pub bytes_of_q : List ℕ → List ℕ
bytes_of_q encoded =
    let kept = trim_end (spaced encoded) in
    quoted_printable kept ++ drop (length kept) (spaced encoded)

-- the bytes of an encoded text under an encoding, one of `B`, `b`, `Q` and `q`; under B there are none if it is not Base64
abbrev pub encoded_bytes : List ℕ → List ℕ → Option (List ℕ)
encoded_bytes encoding encoded =
    if bytes_eq encoding (codes "B") || bytes_eq encoding (codes "b") then result_ok (base64 encoded)
    else if bytes_eq encoding (codes "Q") || bytes_eq encoding (codes "q") then Some (bytes_of_q encoded)
    else None

-- bytes that contain a question mark, and the bytes before and after the first
pub record IsCutAtMark (bytes front rest : List ℕ) : Type 0 where
  pub has_mark : has_question_mark bytes ≡ true
  pub before : front ≡ before_first is_question_mark bytes
  pub after : rest ≡ after_first is_question_mark bytes

-- Under the charsets that are known.
module _ (known : Charsets) where
  -- the text of a word, if its charset is known and its encoded text can be decoded; a byte order mark is read like any other bytes
  abbrev pub text_of_word : EncodedWord → Option (List ℕ)
  text_of_word word = do
    text ← known word.charset
    bytes ← encoded_bytes word.encoding word.encoded_text
    Some (text bytes)

  -- the text of an inside, if it decodes
  unfoldable pub word_text : List ℕ → Option (List ℕ)
  word_text inside = do
    word ← word_inside inside
    text_of_word word
