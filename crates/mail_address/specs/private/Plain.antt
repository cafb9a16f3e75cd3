-- Plain mailboxes, which are read without tokens: a name of atoms or one quoted string, and an address of atoms and dots.
use Rattle.std.specs.Prelude.{◌≡◌, ◌≤◌, ℕ, suc, ◌+◌, Bool, true, false, not, ◌&&◌, ◌||◌, ◌==◌, min, List, [], ◌∷◌, length, take, drop, if◌then◌else◌}
use Rattle.std.specs.List.{prefix_len}
use Rattle.mail_codec.specs.Ascii.{backslash, comma, opening_parenthesis, quote}
use Rattle.mail_codec.specs.Places.{begins}
use Rattle.mail_address.specs.Addresses.{element_at, element_len, is_separator, member_at, member_len, Single, single}
use Rattle.mail_address.specs.Grammar.{IsMailbox}
use Rattle.mail_address.specs.Mailbox.{Parts}
use Rattle.mail_address.specs.Tokens.{comment_token, dot, is_atom_byte, is_in, is_white}
use Rattle.mail_address.specs.declared.plain.Level.{Level}
use Rattle.mail_address.specs.declared.plain.Level.TheVariants as levels
use Rattle.mail_address.specs.declared.tokens.Span.TheVariants.{White}

-- the offset at which the atoms and single dots at the front end; the byte before them is one of an atom or not
abbrev pub atoms_place : Bool → List ℕ → ℕ
atoms_place in_atom [] = 0
atoms_place in_atom (b ∷ rest) =
    if is_atom_byte b then suc (atoms_place true rest) else
    if in_atom && b == dot then suc (atoms_place false rest) else 0

-- the last of them is an atom
abbrev pub ends_in_atom : Bool → List ℕ → Bool
ends_in_atom in_atom [] = in_atom
ends_in_atom in_atom (b ∷ rest) =
    if is_atom_byte b then ends_in_atom true rest else
    if in_atom && b == dot then ends_in_atom false rest else in_atom

-- the length of the atoms and dots at the front, or 0 if a dot begins or ends them
unfoldable pub dot_atom_len : List ℕ → ℕ
dot_atom_len bytes = if ends_in_atom false bytes then atoms_place false bytes else 0

-- a byte of atoms with dots and whitespace between them
abbrev pub is_phrase_byte : ℕ → Bool
is_phrase_byte b = is_atom_byte b || (is_white b || b == dot)

-- a byte within quotes that quotes nothing
abbrev pub is_inner_byte : ℕ → Bool
is_inner_byte b = not (b == quote) && not (b == backslash)

-- the length of a quoted string without backslashes and of the whitespace after it, from the bytes after its quote; 0 if it is not
-- closed
unfoldable pub quoted_len : List ℕ → ℕ
quoted_len rest =
    let len = prefix_len is_inner_byte rest in
    if begins (λ b. b == quote) (drop len rest) then len + 2 + prefix_len is_white (drop (suc len) rest) else 0

-- the length of a plain name at the front
abbrev pub word_name_len : List ℕ → ℕ
word_name_len [] = 0
word_name_len (b ∷ rest) =
    if is_atom_byte b then prefix_len is_phrase_byte (b ∷ rest) else
    if b == quote then quoted_len rest else 0

-- the same, with the whitespace before it
unfoldable pub plain_name_len : List ℕ → ℕ
plain_name_len bytes =
    let white = prefix_len is_white bytes in
    white + word_name_len (drop white bytes)

-- the bytes begin with the mailbox with these parts, which has this length
pub record IsFront (bytes : List ℕ) (m : Parts) (len : ℕ) : Type 0 where
  pub within : len ≤ length bytes
  pub is : IsMailbox (take len bytes) m

-- the bytes are none, or begin with a separator
abbrev pub ends_at : (ℕ → Bool) → List ℕ → Bool
ends_at separates [] = true
ends_at separates (b ∷ rest) = separates b

-- the element at the front is this mailbox, which has this length
pub record IsElement (start : ℕ) (bytes : List ℕ) (s : Single) (len : ℕ) : Type 0 where
  pub within : len ≤ length bytes
  pub at : element_at start bytes ≡ single s ∷ []
  pub len_is : element_len bytes ≡ min (suc len) (length bytes)

-- the member of a group at the front is this mailbox
pub record IsMember (start : ℕ) (bytes : List ℕ) (s : Single) (len : ℕ) : Type 0 where
  pub within : len ≤ length bytes
  pub at : member_at start bytes ≡ s ∷ []
  pub len_is : member_len bytes ≡ min (suc len) (length bytes)

-- a separator of elements, or of the members of a group
abbrev pub separates : Level → ℕ → Bool
separates levels.List = is_separator
separates levels.Group = λ b. b == comma

-- the element or the member at the front is this mailbox
abbrev pub IsSingle : Level → ℕ → List ℕ → Single → ℕ → Type 0
IsSingle levels.List = IsElement
IsSingle levels.Group = IsMember

-- the length of the whitespace or of the comment at the front, or 0
abbrev pub white_step : List ℕ → ℕ
white_step [] = 0
white_step (b ∷ rest) =
    if is_white b then 1 + prefix_len is_white rest else
    if b == opening_parenthesis then (if is_in White (comment_token rest).kind then (comment_token rest).len else 0) else 0

-- a text is a dot-atom and nothing else
abbrev pub IsDotAtom : List ℕ → Type 0
IsDotAtom text = (ends_in_atom false text ≡ true) × (atoms_place false text ≡ length text)
