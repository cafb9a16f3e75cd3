-- The encoded bodies of strict messages (RFC 2045, sections 6.7 and 6.8). A grammar of bytes, which says nothing of how bodies
-- are searched. Which encoding a message has, this takes from the tree.
use Rattle.std.specs.Prelude.{◌≡◌, ℕ, Bool, true, false, not, ◌&&◌, ◌||◌, ◌==◌, nat_lt, List, [], ◌∷◌, ◌++◌, ⊤, codes}
use Rattle.std.specs.Char.{is_ascii_alphanumeric}
use Rattle.std.specs.List.{list_all}
use Rattle.mail_codec.specs.Ascii.{carriage_return, digit_0, digit_9, equals_sign, is_blank, line_feed, slash, upper_a, upper_f}
use Rattle.mail_codec.specs.Places.{begins, has_prefix}
use Rattle.mail_read.specs.Files.{is_leaf}
use Rattle.mailparse.specs.Body.{BodyKind, in_base64, in_quoted_printable, in_7bit, in_8bit, in_binary}
use Rattle.mailparse.specs.Mail.{Tree, body_kind, root}
use Rattle.mail_grammar.specs.LineEnds.{IsLineEnd}
use Rattle.mail_grammar.specs.Parameters.{is_control_byte}

-- ---- quoted-printable

-- a digit of an escape
abbrev pub is_upper_digit : ℕ → Bool
is_upper_digit b =
    (not (nat_lt b digit_0) && not (nat_lt digit_9 b)) || (not (nat_lt b upper_a) && not (nat_lt upper_f b))

-- the line does not end here. The cases:
pub data GoesOn : List ℕ → Type 0 where
  -- another byte
  other_next : {b : ℕ} (rest : List ℕ) → (b == carriage_return) ≡ false → (b == line_feed) ≡ false → GoesOn (b ∷ rest)
  -- a CR that is no line end
  return_next : {bytes : List ℕ} (rest : List ℕ) → begins (λ b. b == line_feed) rest ≡ false → bytes ≡ carriage_return ∷ rest
      → GoesOn bytes

-- what may follow an equals sign. The cases:
pub data FollowsEquals : List ℕ → Type 0 where
  -- two digits, but not those of a CR or a LF
  digits : {high low : ℕ} (rest : List ℕ) → is_upper_digit high ≡ true → is_upper_digit low ≡ true
      → has_prefix (codes "0D") (high ∷ (low ∷ rest)) ≡ false → has_prefix (codes "0A") (high ∷ (low ∷ rest)) ≡ false
      → FollowsEquals (high ∷ (low ∷ rest))
  -- a line end, after which there are other bytes than those of line ends
  soft_break : {line bytes : List ℕ} (rest : List ℕ) → IsLineEnd line
      → list_all (λ b. b == carriage_return || b == line_feed) rest ≡ false → bytes ≡ line ++ rest → FollowsEquals bytes

-- a body in quoted-printable. The cases:
pub data IsQuotedPrintable : List ℕ → Type 0 where
  -- its end
  quoted_end : IsQuotedPrintable []
  -- a byte that is neither an equals sign nor a blank nor a control character
  quoted_byte : {b : ℕ} {rest : List ℕ} → (b == equals_sign) ≡ false → is_blank b ≡ false → is_control_byte b ≡ false
      → IsQuotedPrintable rest → IsQuotedPrintable (b ∷ rest)
  -- a blank that is not the last byte of its line
  quoted_blank : {b : ℕ} {rest : List ℕ} → is_blank b ≡ true → GoesOn rest → IsQuotedPrintable rest → IsQuotedPrintable (b ∷ rest)
  -- an equals sign
  quoted_equals : {rest bytes : List ℕ} → FollowsEquals rest → IsQuotedPrintable rest → bytes ≡ equals_sign ∷ rest
      → IsQuotedPrintable bytes

-- ---- Base64

-- a letter of Base64
abbrev pub is_base64_letter : ℕ → Bool
is_base64_letter b = is_ascii_alphanumeric b || (b == 43 || b == slash)

-- line ends and nothing else. The cases:
pub data AreLineEnds : List ℕ → Type 0 where
  -- no more bytes
  no_line_end : AreLineEnds []
  -- one more
  one_line_end : {line rest bytes : List ℕ} → IsLineEnd line → AreLineEnds rest → bytes ≡ line ++ rest → AreLineEnds bytes

-- A body in Base64: lines of groups of four letters. It is given whether a group comes before it in its line. The cases:
pub data IsBase64 : Bool → List ℕ → Type 0 where
  -- its end
  base64_end : {in_line : Bool} → IsBase64 in_line []
  -- a group
  group : {in_line : Bool} {a b c d : ℕ} {rest : List ℕ} → is_base64_letter a ≡ true → is_base64_letter b ≡ true
      → is_base64_letter c ≡ true → is_base64_letter d ≡ true → IsBase64 true rest → IsBase64 in_line (a ∷ (b ∷ (c ∷ (d ∷ rest))))
  -- three letters and padding at the end
  three_letters : {in_line : Bool} {a b c : ℕ} {rest bytes : List ℕ} → is_base64_letter a ≡ true → is_base64_letter b ≡ true
      → is_base64_letter c ≡ true → AreLineEnds rest → bytes ≡ a ∷ (b ∷ (c ∷ (equals_sign ∷ rest))) → IsBase64 in_line bytes
  -- two letters and padding at the end
  two_letters : {in_line : Bool} {a b : ℕ} {rest bytes : List ℕ} → is_base64_letter a ≡ true → is_base64_letter b ≡ true
      → AreLineEnds rest → bytes ≡ a ∷ (b ∷ (equals_sign ∷ (equals_sign ∷ rest))) → IsBase64 in_line bytes
  -- the end of a line with groups
  base64_line : {line rest bytes : List ℕ} → IsLineEnd line → IsBase64 false rest → bytes ≡ line ++ rest → IsBase64 true bytes
  -- an empty line, after which there are only line ends
  empty_line : {line rest bytes : List ℕ} → IsLineEnd line → AreLineEnds rest → bytes ≡ line ++ rest → IsBase64 false bytes

-- ---- bodies

-- a body in this encoding
abbrev pub IsEncoded : BodyKind → List ℕ → Type 0
IsEncoded in_base64 body = IsBase64 false body
IsEncoded in_quoted_printable body = IsQuotedPrintable body
IsEncoded in_7bit body = ⊤
IsEncoded in_8bit body = ⊤
IsEncoded in_binary body = ⊤

-- the body of a message, if that has no parts and is no multipart
pub record HasStrictBody (t : Tree) : Type 0 where
  pub encoded : (is_leaf t && not (has_prefix (codes "multipart") (root t).ctype.mimetype)) ≡ true
      → IsEncoded (body_kind (root t)) (root t).body
