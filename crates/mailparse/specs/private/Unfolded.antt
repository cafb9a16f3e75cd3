-- The text that a reader of values has made of the tokens so far, and what it holds back until it has seen the next ones.
use Rattle.std.specs.Prelude.{◌≡◌, ℕ, List, [], ◌∷◌, ◌++◌, Some, None, string_bytes, if◌then◌else◌}
use Rattle.mail_codec.specs.Ascii.{space}
use Rattle.mailparse.specs.Tokens.{plain_text, whitespace, line_end, decoded_word}
use Rattle.mailparse.specs.Value.{Token, kinds, is_released, newline, shown_after, whitespace_token}
use Rattle.mailparse.specs.declared.header.unfolded.Held.{Held}
use Rattle.mailparse.specs.declared.header.unfolded.Held.TheVariants as held
use Rattle.mailparse.specs.declared.header.unfolded.HeaderToken.{HeaderToken}
use Rattle.mailparse.specs.declared.header.unfolded.HeaderToken.TheVariants as code
use Rattle.mailparse.specs.declared.header.unfolded.UnfoldedValue.{UnfoldedValue}

-- a token of the code, as the definitions have it
abbrev pub token_view : HeaderToken → Token
token_view (code.Text text) = record { kind = plain_text; shown = text.now }
token_view (code.Whitespace gap) = whitespace_token gap.now
token_view code.Newline = newline
token_view (code.DecodedWord decoded) = record { kind = decoded_word; shown = string_bytes decoded }

-- the text of what was held back, if text comes next
abbrev pub released : Held → List ℕ
released held.Nothing = []
released held.Word = []
released (held.Whitespace gap) = gap.now
released (held.LineEnd gap) = gap.now ++ space ∷ []

-- the text if these tokens follow: what was held back, if they release it, and what they are shown as
abbrev pub shown_held : Held → List Token → List ℕ
shown_held held.Nothing tokens = shown_after None None tokens
shown_held held.Word tokens = shown_after None (Some decoded_word) tokens
shown_held (held.Whitespace gap) tokens =
    (if is_released whitespace (kinds tokens) then gap.now else [])
    ++ shown_after (Some decoded_word) (Some whitespace) tokens
shown_held (held.LineEnd gap) tokens =
    (if is_released line_end (kinds tokens) then gap.now ++ space ∷ [] else [])
    ++ shown_after None None tokens

-- the text of a value whose tokens so far made this, if these tokens follow
abbrev pub shown_with : UnfoldedValue → List Token → List ℕ
shown_with value tokens = string_bytes value.text ++ shown_held value.held tokens

-- a reader appended these tokens
abbrev pub Shows : UnfoldedValue → List Token → UnfoldedValue → Type 0
Shows before tokens after = (rest : List Token) → shown_with before (tokens ++ rest) ≡ shown_with after rest
