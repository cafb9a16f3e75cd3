-- The header block of a strict message (RFC 5322, sections 2.1 and 2.2): a grammar of bytes, which says nothing of how headers are
-- searched. A CR is a byte of a line here; that a LF follows it is in `LineEnds`.
use Rattle.std.specs.Prelude.{◌≡◌, ◌⊎◌, ℕ, Bool, true, false, ◌&&◌, ◌||◌, not, ◌==◌, nat_lt, List, [], ◌∷◌, ◌++◌, codes}
use Rattle.std.specs.List.{list_all, list_any}
use Rattle.std.specs.Str.{str_eq_ignore_ascii_case}
use Rattle.mail_codec.specs.Ascii.{carriage_return, closing_parenthesis, colon, is_blank, line_feed, space, tilde}
use Rattle.mail_codec.specs.Places.{begins}

-- a character of a name: visible ASCII, but no colon
abbrev pub is_name_byte : ℕ → Bool
is_name_byte b = nat_lt space b && (not (nat_lt tilde b) && not (b == colon))

-- a character of a value: ASCII, but no LF
abbrev pub is_value_byte : ℕ → Bool
is_value_byte b = nat_lt b 128 && not (b == line_feed)

-- a byte that is neither a blank nor a byte of a line end
abbrev pub is_text_byte : ℕ → Bool
is_text_byte b = not (is_blank b || (b == carriage_return || b == line_feed))

-- Blanks, and then something other than the end or a line end. The cases:
pub data HasText : List ℕ → Type 0 where
  -- one more blank
  blank_first : {b : ℕ} {rest : List ℕ} → is_blank b ≡ true → HasText rest → HasText (b ∷ rest)
  -- such a byte
  text_first : {b : ℕ} {rest : List ℕ} → is_text_byte b ≡ true → HasText (b ∷ rest)
  -- a CR that is no line end
  return_first : {rest bytes : List ℕ} → begins (λ b. b == line_feed) rest ≡ false → bytes ≡ carriage_return ∷ rest → HasText bytes

-- The value of a header with the LF after it, in lines of which each but the first begins with a blank and has text. The cases:
pub data IsValue : List ℕ → Type 0 where
  -- its end
  value_ends : IsValue (line_feed ∷ [])
  -- a byte of a line
  value_byte : {b : ℕ} {rest : List ℕ} → is_value_byte b ≡ true → IsValue rest → IsValue (b ∷ rest)
  -- a fold
  value_folds : {rest bytes : List ℕ} → begins is_blank rest ≡ true → HasText rest → IsValue rest → bytes ≡ line_feed ∷ rest
      → IsValue bytes

-- Blanks, and then another byte than a colon. The cases:
pub data HasNoColonFirst : List ℕ → Type 0 where
  -- one more blank
  colon_later : {b : ℕ} {rest : List ℕ} → is_blank b ≡ true → HasNoColonFirst rest → HasNoColonFirst (b ∷ rest)
  -- another byte
  other_first : {b : ℕ} {rest : List ℕ} → is_blank b ≡ false → (b == colon) ≡ false → HasNoColonFirst (b ∷ rest)

-- the names of headers with addresses or message ids, ignoring ASCII case
abbrev pub is_address_name : List ℕ → Bool
is_address_name key =
    list_any (λ name. str_eq_ignore_ascii_case key name)
    (codes "Message-ID" ∷ codes "In-Reply-To" ∷ codes "References" ∷ codes "From" ∷ codes "Sender"
    ∷ codes "To" ∷ codes "Cc" ∷ codes "Bcc" ∷ codes "Reply-To" ∷ [])

-- Blanks, and then no line end with a blank after it. The cases:
pub data HasNoFold : List ℕ → Type 0 where
  -- the end
  no_fold : HasNoFold []
  -- one more blank
  fold_later : {b : ℕ} {rest : List ℕ} → is_blank b ≡ true → HasNoFold rest → HasNoFold (b ∷ rest)
  -- another byte
  other_byte : {b : ℕ} {rest : List ℕ} → is_text_byte b ≡ true → HasNoFold (b ∷ rest)
  -- a LF alone
  feed_only : {rest bytes : List ℕ} → begins is_blank rest ≡ false → bytes ≡ line_feed ∷ rest → HasNoFold bytes
  -- a CR alone
  return_only : {rest bytes : List ℕ} → begins (λ b. b == line_feed) rest ≡ false → bytes ≡ carriage_return ∷ rest
      → HasNoFold bytes
  -- a CR and a LF alone
  return_feed_only : {rest bytes : List ℕ} → begins is_blank rest ≡ false → bytes ≡ carriage_return ∷ line_feed ∷ rest
      → HasNoFold bytes

-- Bytes of which no closing parenthesis is before blanks and a fold. The cases:
pub data HasNoCommentFold : List ℕ → Type 0 where
  -- no more bytes
  no_comment : HasNoCommentFold []
  -- another byte
  no_parenthesis : {b : ℕ} {rest : List ℕ} → (b == closing_parenthesis) ≡ false → HasNoCommentFold rest
      → HasNoCommentFold (b ∷ rest)
  -- a closing parenthesis
  parenthesis : {rest bytes : List ℕ} → HasNoFold rest → HasNoCommentFold rest → bytes ≡ closing_parenthesis ∷ rest
      → HasNoCommentFold bytes

-- a header: a name, a colon and a value
pub record IsHeader (bytes : List ℕ) : Type 0 where
  pub first : ℕ
  pub others : List ℕ
  pub value : List ℕ
  pub is_name : list_all is_name_byte (first ∷ others) ≡ true
  pub one_colon : HasNoColonFirst value
  pub is_value : IsValue value
  pub comments : is_address_name (first ∷ others) ≡ true → HasNoCommentFold bytes
  pub made : bytes ≡ first ∷ (others ++ colon ∷ value)

-- One header or more, and the empty line. The cases:
pub data IsBlock : List ℕ → Type 0 where
  -- the last header
  last_header : {header line bytes : List ℕ} → IsHeader header → (line ≡ codes "\n") ⊎ (line ≡ codes "\r\n")
      → bytes ≡ header ++ line → IsBlock bytes
  -- a header before others
  next_header : {header rest bytes : List ℕ} → IsHeader header → IsBlock rest → bytes ≡ header ++ rest → IsBlock bytes
