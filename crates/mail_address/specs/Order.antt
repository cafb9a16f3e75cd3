-- The order of the elements of a list of addresses in its bytes, and what is between them.
use Rattle.std.specs.Prelude.{◌≡◌, ℕ, ◌+◌, ◌≤◌, true, List, [], ◌∷◌, ◌++◌, length, take, drop}
use Rattle.mail_address.specs.Tokens.{is_all_white}
use Rattle.mail_address.specs.Addresses.{Element, single, group, is_separator}

-- the offset of an element
abbrev pub start_of : Element → ℕ
start_of (single s) = s.start
start_of (group g) = g.start

-- its bytes
abbrev pub text_of : Element → List ℕ
text_of (single s) = s.text
text_of (group g) = g.text

-- the elements are in order in the bytes: each has its bytes at its offset, after the element before it; the first is not before `place`
abbrev pub AreInOrder : ℕ → List ℕ → List Element → Type 0
AreInOrder place bytes [] = Unit {0}
AreInOrder place bytes (e ∷ es) =
    (place ≤ start_of e) × (take (length (text_of e)) (drop (start_of e) bytes) ≡ text_of e)
    × AreInOrder (start_of e + length (text_of e)) bytes es

-- the bytes are separators, each with nothing before it but whitespace and comments
pub data AreEmpty : List ℕ → Type 0 where
  no_separators : AreEmpty []
  next_separator : (white : List ℕ) (b : ℕ) {rest bytes : List ℕ} → is_all_white white ≡ true → is_separator b ≡ true → AreEmpty rest
      → bytes ≡ white ++ b ∷ rest → AreEmpty bytes

-- what may directly follow an element: a separator or nothing, and anything after a group
abbrev pub MayFollow : Element → List ℕ → Type 0
MayFollow (single s) [] = Unit {0}
MayFollow (single s) (b ∷ rest) = is_separator b ≡ true
MayFollow (group g) rest = Unit {0}

-- the bytes, which begin at the offset `place`, consist of the elements and what is around them. The cases:
pub data MakeUp : ℕ → List ℕ → List Element → Type 0 where
  -- the end: separators, and whitespace and comments
  no_elements : {place : ℕ} {empty bytes : List ℕ} (white : List ℕ) → AreEmpty empty → is_all_white white ≡ true → bytes ≡ empty ++ white
      → MakeUp place bytes []
  -- separators, an element, and what follows it
  next_element : {place : ℕ} {empty rest bytes : List ℕ} {e : Element} {es : List Element} → AreEmpty empty
      → start_of e ≡ place + length empty → MayFollow e rest → MakeUp (start_of e + length (text_of e)) rest es
      → bytes ≡ empty ++ (text_of e ++ rest) → MakeUp place bytes (e ∷ es)
