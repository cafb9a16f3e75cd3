-- The text of a header's value: RFC 5322, section 2.2.3 (unfolding), and RFC 2047, sections 2, 4 and 6.2, as this crate reads
-- them.
use Rattle.std.specs.Prelude.{◌≡◌, ℕ, ◌-◌, Bool, true, false, ◌||◌, ◌&&◌, not, List, [], ◌∷◌, ◌++◌, map, slice_range, drop, Option, Some, None, Result, Ok, Err, unwrap_or, codes, All, ◌≤◌, if◌then◌else◌}
use Rattle.std.specs.Str.{is_utf8, trim_start}
use Rattle.std.specs.Str.Lines.{lines}
use Rattle.mail_codec.specs.Ascii.{space, tilde}
use Rattle.mail_codec.specs.Charset.{Charsets, four_charsets}
use Rattle.mail_codec.specs.Latin1.{latin1_text}
use Rattle.mail_codec.specs.Places.{has_prefix}
use Rattle.mailparse.specs.EncodedWord.{word_text}
use Rattle.mailparse.specs.Refusal.{Refusal, value_not_utf8}
use Rattle.mailparse.specs.Tokens.{TokenKind, plain_text, whitespace, line_end, decoded_word, TokenRange, inside, is_all_whitespace, token_ranges}

-- a token of a value: its kind, and the text that it is shown as, if it is shown
pub record Token : Type 0 where
  pub kind : TokenKind
  pub shown : List ℕ

-- the token of a text outside all words
abbrev pub outside_token : List ℕ → Token
outside_token bytes = record { kind = if is_all_whitespace bytes then whitespace else plain_text; shown = bytes }

-- the token of whitespace with this text
abbrev pub whitespace_token : List ℕ → Token
whitespace_token text = record { kind = whitespace; shown = text }

-- the token of the end of a line, which is shown as one space
abbrev pub newline : Token
newline = record { kind = line_end; shown = space ∷ [] }

-- whether there is a token and it is a decoded word
abbrev pub is_word : Option TokenKind → Bool
is_word (Some decoded_word) = true
is_word _ = false

-- whether there is a token and it is whitespace
abbrev pub is_whitespace_token : Option TokenKind → Bool
is_whitespace_token (Some whitespace) = true
is_whitespace_token _ = false

-- whether a token is held back, by the kinds of the two tokens before it, the nearer one last: whitespace directly after a
-- decoded word, and the end of a line directly after a decoded word or after such whitespace
abbrev pub is_held : Option TokenKind → Option TokenKind → TokenKind → Bool
is_held earlier before whitespace = is_word before
is_held earlier before line_end = is_word before || (is_whitespace_token before && is_word earlier)
is_held earlier before plain_text = false
is_held earlier before decoded_word = false

-- whether a token that is held back is shown, by the tokens after it: text follows, or, after whitespace, the end of a line and
-- then text
abbrev pub is_released : TokenKind → List TokenKind → Bool
is_released _ (plain_text ∷ _) = true
is_released whitespace (line_end ∷ plain_text ∷ _) = true
is_released _ _ = false

-- whether a token is shown
abbrev pub shows : Option TokenKind → Option TokenKind → TokenKind → List TokenKind → Bool
shows earlier before kind after = not (is_held earlier before kind) || is_released kind after

-- the kinds of tokens, in order
abbrev pub kinds : List Token → List TokenKind
kinds tokens = map (λ t. t.kind) tokens

-- the text that tokens are shown as, in order, after two tokens of these kinds
abbrev pub shown_after : Option TokenKind → Option TokenKind → List Token → List ℕ
shown_after earlier before [] = []
shown_after earlier before (token ∷ after) =
    (if shows earlier before token.kind (kinds after) then token.shown else [])
    ++ shown_after before (Some token.kind) after

-- the text that the tokens of a value are shown as
abbrev pub shown_tokens : List Token → List ℕ
shown_tokens tokens = shown_after None None tokens

-- the text of a value's bytes: UTF-8 if they are valid, otherwise Latin-1
abbrev pub value_text : List ℕ → List ℕ
value_text bytes = if is_utf8 bytes then bytes else latin1_text bytes

-- Under the charsets that are known.
module _ (known : Charsets) where
  -- the text that a token of a line is shown as: that of the word if it is a decoded word, otherwise its bytes
  abbrev pub token_text : TokenKind → List ℕ → ℕ → ℕ → List ℕ
  token_text decoded_word line from to = unwrap_or (word_text known (inside line from (to - 2))) []
  token_text _ line from to = slice_range line from to

  -- the token at a range of a line
  abbrev pub token_of : List ℕ → TokenRange → Token
  token_of line range = record { kind = range.kind; shown = token_text range.kind line range.from range.to }

  -- the tokens of one line
  abbrev pub line_tokens : List ℕ → List Token
  line_tokens line = map (token_of line) (token_ranges known line)

  -- the tokens of lines, with the end of a line between two of them
  abbrev pub tokens_of_lines : List (List ℕ) → List Token
  tokens_of_lines [] = []
  tokens_of_lines (line ∷ []) = line_tokens line
  tokens_of_lines (line ∷ next ∷ more) = line_tokens line ++ (newline ∷ tokens_of_lines (next ∷ more))

  -- the tokens of a value's text, whose lines first lose their leading whitespace
  unfoldable pub value_tokens : List ℕ → List Token
  value_tokens text = tokens_of_lines (map trim_start (lines text))

  -- the text of a value, unfolded and decoded, by the text of its bytes
  unfoldable pub unfolded_value : List ℕ → List ℕ
  unfolded_value text = shown_tokens (value_tokens text)

  -- the text of a value, whatever its bytes are
  unfoldable pub lenient_value_in : List ℕ → List ℕ
  lenient_value_in bytes = unfolded_value (value_text bytes)

-- the same under the four charsets
abbrev pub lenient_value : List ℕ → List ℕ
lenient_value bytes = lenient_value_in four_charsets bytes

-- the text of a value whose bytes are UTF-8, or the refusal of other bytes
unfoldable pub strict_value : List ℕ → Result (List ℕ) Refusal
strict_value bytes = if is_utf8 bytes then Ok (unfolded_value four_charsets bytes) else Err value_not_utf8

-- a value that is plain: printable ASCII that does not begin with a space and does not contain `=?`
pub record IsPlain (value : List ℕ) : Type 0 where
  pub printable : All (λ b. (space ≤ b) × (b ≤ tilde)) value
  pub no_space : has_prefix (codes " ") value ≡ false
  pub no_opening : (k : ℕ) → has_prefix (codes "=?") (drop k value) ≡ false
