-- Encoded words among the tokens of a header's value, by the text that they show.
use Rattle.std.specs.Prelude.{ℕ, List}
use Rattle.mailparse.specs.Tokens.{decoded_word}
use Rattle.mailparse.specs.Value.{Token}

-- a decoded word of this text
abbrev pub word : List ℕ → Token
word text = record { kind = decoded_word; shown = text }
