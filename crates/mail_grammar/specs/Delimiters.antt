-- The text of a strict multipart after its header block: a preamble, parts between delimiters, a close-delimiter and an epilogue
-- (RFC 2046, section 5.1.1). A grammar of bytes, which says nothing of how delimiters are searched.
use Rattle.std.specs.Prelude.{◌≡◌, ℕ, Bool, true, false, not, ◌==◌, List, [], ◌∷◌, ◌++◌, length, drop, Some, codes}
use Rattle.std.specs.List.{list_all}
use Rattle.mail_codec.specs.Ascii.{colon, line_feed}
use Rattle.mail_codec.specs.Places.{has_prefix}
use Rattle.mail_read.specs.Files.{is_leaf}
use Rattle.mailparse.specs.Mail.{Tree, root}
use Rattle.mail_grammar.specs.Fields.{IsBoundary}
use Rattle.mail_grammar.specs.LineEnds.{IsLineEnd}

-- The line ends here. The cases:
pub data EndsLine : List ℕ → Type 0 where
  -- no more bytes
  no_more_bytes : EndsLine []
  -- a line end
  line_ends : {line bytes : List ℕ} (rest : List ℕ) → IsLineEnd line → bytes ≡ line ++ rest → EndsLine bytes

-- The dash-boundary does not occur. The cases:
pub data HasNoDash (dash : List ℕ) : List ℕ → Type 0 where
  -- no more bytes
  no_dash : HasNoDash dash []
  -- a byte at which it does not begin
  no_dash_here : {b : ℕ} {rest : List ℕ} → has_prefix dash (b ∷ rest) ≡ false → HasNoDash dash rest → HasNoDash dash (b ∷ rest)

-- a close-delimiter, which is the dash-boundary and `--`, and an epilogue; no dash-boundary begins after the first byte
pub record IsClosed (dash bytes : List ℕ) : Type 0 where
  pub rest : List ℕ
  pub made : bytes ≡ dash ++ (codes "--" ++ rest)
  pub line : EndsLine rest
  pub alone : HasNoDash dash (drop 1 bytes)

-- Parts with delimiters between them, and a close-delimiter; a line begins here or not. The cases:
pub data HasClose (dash : List ℕ) : Bool → List ℕ → Type 0 where
  -- a byte at which no dash-boundary begins
  part_byte : {starts : Bool} {b : ℕ} {rest : List ℕ} → has_prefix dash (b ∷ rest) ≡ false → HasClose dash (b == line_feed) rest
      → HasClose dash starts (b ∷ rest)
  -- a delimiter: a line that is the dash-boundary
  delimiter : {line rest bytes : List ℕ} → IsLineEnd line → HasClose dash true rest → bytes ≡ dash ++ (line ++ rest)
      → HasClose dash true bytes
  -- the close-delimiter, and what follows
  close_delimiter : {bytes : List ℕ} → IsClosed dash bytes → HasClose dash true bytes

-- The same with a preamble and a first delimiter. The cases:
pub data HasParts (dash : List ℕ) : Bool → List ℕ → Type 0 where
  -- a byte at which no dash-boundary begins
  preamble_byte : {starts : Bool} {b : ℕ} {rest : List ℕ} → has_prefix dash (b ∷ rest) ≡ false → HasParts dash (b == line_feed) rest
      → HasParts dash starts (b ∷ rest)
  -- the first delimiter
  first_delimiter : {line rest bytes : List ℕ} → IsLineEnd line → HasClose dash true rest → bytes ≡ dash ++ (line ++ rest)
      → HasParts dash true bytes

-- a multipart with this dash-boundary: it has parts, its preamble has no colon, and the text after its header block is as above
pub record IsSplit (dash : List ℕ) (t : Tree) : Type 0 where
  pub parts : is_leaf t ≡ false
  pub preamble : list_all (λ b. not (b == colon)) (root t).body ≡ true
  pub text : HasParts dash true (drop (length (root t).block) (root t).bytes)

-- if a message is a multipart with a boundary, it is one with the dash-boundary that this makes
pub record HasStrictParts (t : Tree) : Type 0 where
  pub split : (text : List ℕ) → has_prefix (codes "multipart/") (root t).ctype.mimetype ≡ true
      → (root t).ctype.params (codes "boundary") ≡ Some text → IsBoundary 70 text → IsSplit (codes "--" ++ text) t
