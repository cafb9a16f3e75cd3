-- Enclosed bytes, which contain no separator: quoted strings, comments, domain literals and angle brackets. Each is a grammar of
-- the bytes between its delimiters (RFC 5322, sections 3.2.1, 3.2.2, 3.2.4, 3.4 and 3.4.1).
use Rattle.std.specs.Prelude.{◌≡◌, ◌≢◌, ℕ, Bool, false, ◌||◌, ◌==◌, List, [], ◌∷◌, ◌++◌}
use Rattle.mail_codec.specs.Ascii.{backslash, closing_parenthesis, greater_than, less_than, opening_parenthesis, quote}
use Rattle.mail_address.specs.Tokens.{closing_bracket, opening_bracket}

-- the bytes between two delimiters. The cases:
pub data IsBetween (one other : ℕ) : List ℕ → Type 0 where
  -- no more
  no_bytes : IsBetween one other []
  -- a quoted pair: a backslash and any byte
  quoted_pair : {b : ℕ} {rest : List ℕ} → IsBetween one other rest → IsBetween one other (backslash ∷ b ∷ rest)
  -- a byte that is neither delimiter nor a backslash
  plain_byte : {b : ℕ} {rest : List ℕ} → b ≢ one → b ≢ other → b ≢ backslash → IsBetween one other rest
      → IsBetween one other (b ∷ rest)

-- the bytes between the parentheses of a comment. The cases:
pub data IsCommented : List ℕ → Type 0 where
  -- no more
  comment_ends : IsCommented []
  -- a quoted pair
  comment_pair : {b : ℕ} {rest : List ℕ} → IsCommented rest → IsCommented (backslash ∷ b ∷ rest)
  -- a byte that is neither a parenthesis nor a backslash
  comment_byte : {b : ℕ} {rest : List ℕ} → b ≢ opening_parenthesis → b ≢ closing_parenthesis → b ≢ backslash → IsCommented rest
      → IsCommented (b ∷ rest)
  -- a comment within it
  comment_within : {inner rest bytes : List ℕ} → IsCommented inner → IsCommented rest
      → bytes ≡ opening_parenthesis ∷ (inner ++ closing_parenthesis ∷ rest) → IsCommented bytes

-- a quoted string, a comment or a domain literal, with its delimiters
pub data IsClosed : List ℕ → Type 0 where
  in_quotes : {inner bytes : List ℕ} → IsBetween quote quote inner → bytes ≡ quote ∷ (inner ++ quote ∷ []) → IsClosed bytes
  in_comment : {inner bytes : List ℕ} → IsCommented inner → bytes ≡ opening_parenthesis ∷ (inner ++ closing_parenthesis ∷ [])
      → IsClosed bytes
  in_literal : {inner bytes : List ℕ} → IsBetween opening_bracket closing_bracket inner
      → bytes ≡ opening_bracket ∷ (inner ++ closing_bracket ∷ []) → IsClosed bytes

-- a byte that may open something: a quote, an opening parenthesis or bracket, a backslash; or a closing angle bracket
abbrev pub is_opener : ℕ → Bool
is_opener b =
    b == quote || b == opening_parenthesis || b == opening_bracket || b == backslash || b == less_than || b == greater_than

-- the bytes between angle brackets. The cases:
pub data IsInAngles : List ℕ → Type 0 where
  -- no more
  angles_end : IsInAngles []
  -- a backslash and any byte
  angles_pair : {b : ℕ} {rest : List ℕ} → IsInAngles rest → IsInAngles (backslash ∷ b ∷ rest)
  -- a byte that opens nothing
  angles_byte : {b : ℕ} {rest : List ℕ} → is_opener b ≡ false → IsInAngles rest → IsInAngles (b ∷ rest)
  -- a quoted string, a comment or a domain literal
  angles_closed : {closed rest bytes : List ℕ} → IsClosed closed → IsInAngles rest → bytes ≡ closed ++ rest → IsInAngles bytes

-- any of them, with its delimiters
pub data IsEnclosed : List ℕ → Type 0 where
  closed : {bytes : List ℕ} → IsClosed bytes → IsEnclosed bytes
  in_angles : {inner bytes : List ℕ} → IsInAngles inner → bytes ≡ less_than ∷ (inner ++ greater_than ∷ []) → IsEnclosed bytes
