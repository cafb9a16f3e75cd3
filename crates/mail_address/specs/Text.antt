-- The text of names and addresses: a phrase, a local part or a domain without quotes, comments and folding (RFC 5322,
-- sections 3.2.2, 3.2.4 and 3.4.1).
use Rattle.std.specs.Prelude.{ℕ, Bool, true, false, not, ◌&&◌, ◌||◌, ◌==◌, List, [], ◌∷◌, ◌++◌, take, flat_map, if◌then◌else◌}
use Rattle.std.specs.List.{list_all}
use Rattle.mail_codec.specs.Ascii.{backslash, quote, space}
use Rattle.mail_address.specs.declared.tokens.Kind.{Kind}
use Rattle.mail_address.specs.declared.tokens.Kind.TheVariants.{Blank, Comment, Literal, Quoted}
use Rattle.mail_address.specs.declared.tokens.Span.TheVariants.{White, Atoms}
use Rattle.mail_address.specs.Folding.{unfolded, without_white}
use Rattle.mail_address.specs.Tokens.{at_sign, dot, front_token, is_all_white, is_atom_byte, run, step}
use Rattle.mail_address.specs.Mailbox.{after_white, is_dotted, within_ends}
use Rattle.mail_address.specs.Addresses.{items}
use Rattle.mail_address.specs.PhraseWords.{encoded_len}

-- the bytes without each backslash that quotes the byte after it; the first byte is quoted or not
abbrev pub unquoted : Bool → List ℕ → List ℕ
unquoted quoted [] = []
unquoted quoted (b ∷ rest) =
    if not quoted && b == backslash then unquoted true rest else b ∷ unquoted false rest

-- the meaning of a token: of a quoted string its content, of whitespace and comments nothing, of any other the token itself
abbrev pub meaning : Kind → List ℕ → List ℕ
meaning Quoted text = unquoted false (within_ends text)
meaning Blank text = []
meaning Comment text = []
meaning _ text = text

-- the length of the token at the front
unfoldable pub front_len : List ℕ → ℕ
front_len bytes = (front_token bytes).len

-- the meaning of the token at the front
unfoldable pub front_meaning : List ℕ → List ℕ
front_meaning bytes = meaning (front_token bytes).kind (take (front_len bytes) bytes)

-- the meaning of a token of an address: without folding in a quoted string, and without whitespace in a domain literal
abbrev pub address_meaning : Kind → List ℕ → List ℕ
address_meaning Quoted text = unquoted false (within_ends (unfolded text))
address_meaning Literal text = without_white false text
address_meaning kind text = meaning kind text

-- the meaning of the token at the front of an address
unfoldable pub address_front : List ℕ → List ℕ
address_front bytes = address_meaning (front_token bytes).kind (take (front_len bytes) bytes)

-- the same, of an item at an offset
abbrev pub address_front_at : ℕ → List ℕ → List ℕ
address_front_at start bytes = address_front bytes

-- a local part or a domain without quotes, comments, whitespace and folding
unfoldable pub bare : List ℕ → List ℕ
bare bytes = items address_front_at front_len 0 bytes

-- the length of the word at the front of a phrase: of an encoded word, or else of a token
abbrev pub front_word_len : List ℕ → ℕ
front_word_len bytes = if encoded_len bytes == 0 then front_len bytes else encoded_len bytes

-- its meaning: an encoded word stays as it is
abbrev pub front_word : List ℕ → List ℕ
front_word bytes = if encoded_len bytes == 0 then front_meaning bytes else take (encoded_len bytes) bytes

-- the length of that word, or of the whitespace and comments at the front
unfoldable pub word_or_white_len : List ℕ → ℕ
word_or_white_len bytes = if step White bytes == 0 then front_word_len bytes else run White bytes

-- the meaning of the front of a phrase: of whitespace and comments one space, and at the end nothing
unfoldable pub word_or_space : List ℕ → List ℕ
word_or_space bytes =
    if is_all_white bytes then [] else
    if step White bytes == 0 then front_word bytes else space ∷ []

-- the same, of an item at an offset
abbrev pub word_at : ℕ → List ℕ → List ℕ
word_at start bytes = word_or_space bytes

-- the text of a phrase that begins with a word, before its encoded words are decoded
unfoldable pub words_text : List ℕ → List ℕ
words_text phrase = items word_at word_or_white_len 0 phrase

-- the text of a phrase, before its encoded words are decoded
unfoldable pub phrase_text : List ℕ → List ℕ
phrase_text bytes = words_text (after_white bytes)

-- a local part that needs no quotes (dot-atom)
unfoldable pub needs_no_quotes : List ℕ → Bool
needs_no_quotes text = list_all (λ b. is_atom_byte b || b == dot) text && is_dotted Atoms text

-- a byte within quotes
abbrev pub escaped_byte : ℕ → List ℕ
escaped_byte b = if b == quote || b == backslash then backslash ∷ b ∷ [] else b ∷ []

-- a text as a quoted string
unfoldable pub quoted_text : List ℕ → List ℕ
quoted_text text = quote ∷ flat_map escaped_byte text ++ quote ∷ []

-- a local part in canonical form: with quotes if it needs them
unfoldable pub local_text : List ℕ → List ℕ
local_text bytes = if needs_no_quotes (bare bytes) then bare bytes else quoted_text (bare bytes)

-- an address in canonical form
unfoldable pub address_bytes : List ℕ → List ℕ → List ℕ
address_bytes local_part domain = local_text local_part ++ at_sign ∷ bare domain
