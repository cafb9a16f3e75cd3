-- Bytes that are text in the charset of a label, in the texts and the encoded words of strict messages. A statement of bytes,
-- which says nothing of how they are searched. Which labels there are, and which characters are disputed, this takes from the
-- findings; what the text of bytes is, from the charsets that are known.
use Rattle.std.specs.Prelude.{◌≡◌, ◌⊎◌, ℕ, Bool, true, false, not, ◌&&◌, ◌==◌, nat_lt, nat_le, List, [], ◌∷◌, Some, None, IsUtf8}
use Rattle.std.specs.List.{list_all}
use Rattle.std.specs.Str.{str_eq_ignore_ascii_case}
use Rattle.mail_codec.specs.Charset.{Charsets}
use Rattle.mail_codec.specs.Places.{begins, has_prefix}
use Rattle.mail_check.specs.Charsets.{ascii_labels, iso_8859_labels, other_labels, pair_labels, utf_8_labels}
use Rattle.mail_check.specs.Disputed.{Block, Table, disputed_table}

-- ---- labels

-- A label is one of some, ignoring ASCII case. The cases:
pub data IsOneOf (label : List ℕ) : List (List ℕ) → Type 0 where
  -- the first of them
  this_label : {one : List ℕ} {others : List (List ℕ)} → str_eq_ignore_ascii_case label one ≡ true → IsOneOf label (one ∷ others)
  -- a later one
  later_label : {one : List ℕ} {others : List (List ℕ)} → IsOneOf label others → IsOneOf label (one ∷ others)

-- ---- bytes

-- a byte of ASCII
abbrev pub is_ascii_byte : ℕ → Bool
is_ascii_byte b = nat_lt b 128

-- one of the bytes 80 to 9F, which are control characters in ISO 8859
abbrev pub is_c1_byte : ℕ → Bool
is_c1_byte b = not (nat_lt b 128) && nat_lt b 160

-- one of the bytes A1 to FE, of which two are a character in GB 2312 and KS X 1001
abbrev pub is_byte_of_pair : ℕ → Bool
is_byte_of_pair b = not (nat_lt b 0xA1) && nat_lt b 0xFF

-- ASCII and such pairs. The cases:
pub data ArePairs : List ℕ → Type 0 where
  -- no more bytes
  no_more_pairs : ArePairs []
  -- a byte of ASCII
  ascii_byte : {b : ℕ} {rest : List ℕ} → is_ascii_byte b ≡ true → ArePairs rest → ArePairs (b ∷ rest)
  -- a pair
  byte_pair : {first second : ℕ} {rest bytes : List ℕ} → is_byte_of_pair first ≡ true → is_byte_of_pair second ≡ true
      → ArePairs rest → bytes ≡ first ∷ (second ∷ rest) → ArePairs bytes

-- ---- characters that programs read differently

-- a byte is from the first to the last of a range
abbrev pub is_of_range : ℕ → ℕ × ℕ → Bool
is_of_range b range = nat_le range.0 b && nat_le b range.1

-- both bytes of a pair are so for a block
abbrev pub is_of_block : ℕ → ℕ → Block → Bool
is_of_block first second block = is_of_range first block.0 && is_of_range second block.1

-- a byte is neither ASCII nor a character by itself
abbrev pub begins_pair : Table → ℕ → Bool
begins_pair table b = not (is_ascii_byte b) && not (is_of_range b table.singles)

-- Characters that are not disputed by a table. The cases:
pub data AreAgreed (table : Table) : List ℕ → Type 0 where
  -- no more bytes
  no_more_agreed : AreAgreed table []
  -- a character of one byte
  agreed_byte : {b : ℕ} {rest : List ℕ} → begins_pair table b ≡ false → list_all (λ range. not (is_of_range b range)) table.bytes ≡ true
      → AreAgreed table rest → AreAgreed table (b ∷ rest)
  -- a pair
  agreed_pair : {first second : ℕ} {rest bytes : List ℕ} → begins_pair table first ≡ true
      → list_all (λ block. not (is_of_block first second block)) table.pairs ≡ true
      → list_all (λ block. not (is_of_block first second block)) table.more_pairs ≡ true
      → AreAgreed table rest → bytes ≡ first ∷ (second ∷ rest) → AreAgreed table bytes

-- Bytes are so in the charset of a label. The cases:
pub data AreAgreedIn (label octets : List ℕ) : Type 0 where
  -- nothing is disputed in it
  no_table : disputed_table label ≡ None → AreAgreedIn label octets
  -- it has a table
  by_table : {table : Table} → disputed_table label ≡ Some table → AreAgreed table octets → AreAgreedIn label octets

-- ---- texts in UTF-8

-- No byte C2 is before one of 80 to 9F: no character is one of U+0080 to U+009F. The cases:
pub data HasNoC1 : List ℕ → Type 0 where
  -- no more bytes
  no_c1 : HasNoC1 []
  -- another byte than C2
  other_byte : {b : ℕ} {rest : List ℕ} → (b == 0xC2) ≡ false → HasNoC1 rest → HasNoC1 (b ∷ rest)
  -- C2, and then the end or another byte than those
  other_after : {rest bytes : List ℕ} → begins is_c1_byte rest ≡ false → HasNoC1 rest → bytes ≡ 0xC2 ∷ rest → HasNoC1 bytes

-- No character is U+FFFD, which replaces bytes that a charset lacks. The cases:
pub data HasNoReplacement : List ℕ → Type 0 where
  -- no more bytes
  no_replacement : HasNoReplacement []
  -- a byte at which U+FFFD does not begin
  not_replaced : {b : ℕ} {rest : List ℕ} → has_prefix (0xEF ∷ 0xBF ∷ 0xBD ∷ []) (b ∷ rest) ≡ false → HasNoReplacement rest
      → HasNoReplacement (b ∷ rest)

-- a text of which both are so
pub record IsWholeText (text : List ℕ) : Type 0 where
  pub replacement : HasNoReplacement text
  pub c1 : HasNoC1 text

-- ---- byte order marks

-- bytes begin with no byte order mark of UTF-8 or UTF-16
pub record HasNoMark (octets : List ℕ) : Type 0 where
  pub utf_8 : has_prefix (0xEF ∷ 0xBB ∷ 0xBF ∷ []) octets ≡ false
  pub utf_16_be : has_prefix (0xFE ∷ 0xFF ∷ []) octets ≡ false
  pub utf_16_le : has_prefix (0xFF ∷ 0xFE ∷ []) octets ≡ false

-- ---- charsets

-- a charset that is known has the label, the bytes are ASCII, or their text in it is such a text, and they are not disputed
pub record IsReadWhole (known : Charsets) (label octets : List ℕ) : Type 0 where
  pub reading : List ℕ → List ℕ
  pub is : known label ≡ Some reading
  pub text : (list_all is_ascii_byte octets ≡ true) ⊎ IsWholeText (reading octets)
  pub agreed : AreAgreedIn label octets

-- Bytes are text in the charset of a label, under the charsets that are known. The cases:
pub data IsInCharset (known : Charsets) (label octets : List ℕ) : Type 0 where
  -- US-ASCII, and they are ASCII
  in_us_ascii : IsOneOf label ascii_labels → list_all is_ascii_byte octets ≡ true → IsInCharset known label octets
  -- UTF-8, and they are that of some characters
  in_utf_8 : IsOneOf label utf_8_labels → IsUtf8 octets → IsInCharset known label octets
  -- a part of ISO 8859, and none is one of 80 to 9F
  in_iso_8859 : IsOneOf label iso_8859_labels → list_all (λ b. not (is_c1_byte b)) octets ≡ true → IsReadWhole known label octets
      → IsInCharset known label octets
  -- GB 2312 or KS X 1001, and they are ASCII and pairs
  in_pairs : IsOneOf label pair_labels → ArePairs octets → IsReadWhole known label octets → IsInCharset known label octets
  -- another charset that all programs know
  in_other : IsOneOf label other_labels → IsReadWhole known label octets → IsInCharset known label octets
