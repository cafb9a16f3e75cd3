-- The values of the headers `From` of strict messages (RFC 5322, section 3.4, without comments, groups and obsolete forms). A
-- grammar of bytes, which says nothing of how senders are read.
use Rattle.std.specs.Prelude.{◌≡◌, ◌⊎◌, ℕ, Bool, true, ◌||◌, ◌==◌, List, [], ◌∷◌, ◌++◌, is_some, codes}
use Rattle.std.specs.Char.{is_ascii_alphanumeric}
use Rattle.std.specs.List.{list_all}
use Rattle.mail_codec.specs.Ascii.{greater_than, less_than, quote}
use Rattle.mail_codec.specs.Places.{byte_place}
use Rattle.mail_check.specs.Senders.{at_sign, full_stop, hyphen}
use Rattle.mail_grammar.specs.Parameters.{IsGap, IsQuotedText}

-- ---- characters

-- a character of an atom (RFC 5322, section 3.2.3)
abbrev pub is_atom_character : ℕ → Bool
is_atom_character b = is_ascii_alphanumeric b || is_some (byte_place (codes "!#$%&'*+-/=?^_`{|}~") b)

-- a character of a word after its first: that of an atom, or a dot
abbrev pub is_later_character : ℕ → Bool
is_later_character b = b == full_stop || is_atom_character b

-- ---- addresses

-- Atoms with one dot between them. The cases:
pub data IsLocalPart : List ℕ → Type 0 where
  -- the last character of an atom
  last_of_local : {b : ℕ} → is_atom_character b ≡ true → IsLocalPart (b ∷ [])
  -- a character of an atom, and more
  local_more : {b : ℕ} {rest : List ℕ} → is_atom_character b ≡ true → IsLocalPart rest → IsLocalPart (b ∷ rest)
  -- the last character of an atom, a dot, and more
  local_dot : {b : ℕ} {rest bytes : List ℕ} → is_atom_character b ≡ true → IsLocalPart rest → bytes ≡ b ∷ (full_stop ∷ rest)
      → IsLocalPart bytes

-- Letters and digits, between which there may be hyphens, or one dot between two labels. The cases:
pub data IsDomain : List ℕ → Type 0 where
  -- the last letter or digit
  last_of_domain : {b : ℕ} → is_ascii_alphanumeric b ≡ true → IsDomain (b ∷ [])
  -- a letter or digit, hyphens or none, and more
  domain_more : {b : ℕ} {rest bytes : List ℕ} (hyphens : List ℕ) → is_ascii_alphanumeric b ≡ true
      → list_all (λ c. c == hyphen) hyphens ≡ true → IsDomain rest
      → bytes ≡ b ∷ (hyphens ++ rest) → IsDomain bytes
  -- the last letter or digit of a label, a dot, and more
  domain_dot : {b : ℕ} {rest bytes : List ℕ} → is_ascii_alphanumeric b ≡ true → IsDomain rest → bytes ≡ b ∷ (full_stop ∷ rest)
      → IsDomain bytes

-- an address: a local part, an at sign and a domain
pub record IsAddress (bytes : List ℕ) : Type 0 where
  pub local : List ℕ
  pub domain : List ℕ
  pub is_local : IsLocalPart local
  pub is_domain : IsDomain domain
  pub made : bytes ≡ local ++ (at_sign ∷ domain)

-- ---- senders

-- Words and texts in quotes, and then an address in angle brackets. Between any two of them there may be blanks with at most one
-- fold. The cases:
pub data IsNamedAddress : List ℕ → Type 0 where
  -- the address
  address_in_brackets : {address bytes : List ℕ} → IsAddress address → bytes ≡ less_than ∷ (address ++ (greater_than ∷ []))
      → IsNamedAddress bytes
  -- a word, and more
  word_before : {b : ℕ} {gap rest bytes : List ℕ} (others : List ℕ) → is_atom_character b ≡ true
      → list_all is_later_character others ≡ true → IsGap gap → IsNamedAddress rest
      → bytes ≡ b ∷ (others ++ (gap ++ rest)) → IsNamedAddress bytes
  -- a text in quotes, and more
  quoted_before : {text gap rest bytes : List ℕ} → IsQuotedText text → IsGap gap → IsNamedAddress rest
      → bytes ≡ quote ∷ (text ++ (gap ++ rest)) → IsNamedAddress bytes

-- blanks with at most one fold, and then an address, or a name and an address in angle brackets
pub record IsSenderValue (bytes : List ℕ) : Type 0 where
  pub gap : List ℕ
  pub rest : List ℕ
  pub is_gap : IsGap gap
  pub sender : IsAddress rest ⊎ IsNamedAddress rest
  pub made : bytes ≡ gap ++ rest
