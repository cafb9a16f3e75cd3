-- The state of a byte in the code, and the bytes before all quotes and semicolons.
use Rattle.std.specs.Prelude.{ℕ, ◌||◌, ◌==◌, List}
use Rattle.mail_codec.specs.Ascii.{quote, semicolon}
use Rattle.mail_codec.specs.Places.{begins, first_place}
use Rattle.mailparse.specs.Segments.{QuoteState, outside, quoted, escaped}
use Rattle.mailparse.specs.declared.parameters.segments.QuoteState.{QuoteState as CodeQuoteState}
use Rattle.mailparse.specs.declared.parameters.segments.QuoteState.TheVariants as code

-- a state of the code, as the definitions have it
abbrev pub quote_state : CodeQuoteState → QuoteState
quote_state code.Outside = outside
quote_state code.Quoted = quoted
quote_state code.Escaped = escaped

-- the number of leading bytes that are neither a quote nor a semicolon
abbrev pub plain_len : List ℕ → ℕ
plain_len = first_place (begins (λ b. b == semicolon || b == quote))
