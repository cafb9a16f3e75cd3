-- Display names that may show anything: quoted strings, and atoms such as encoded words (RFC 5322, section 3.2.5; RFC 2047,
-- section 5); and a mailbox with such a name.
use Rattle.std.specs.Prelude.{◌≡◌, ℕ, true, List, [], ◌∷◌, ◌++◌}
use Rattle.std.specs.List.{list_all}
use Rattle.mail_codec.specs.Ascii.{greater_than, less_than, quote, space}
use Rattle.mail_address.specs.Addresses.{Element, single}
use Rattle.mail_address.specs.Enclosed.{IsBetween}
use Rattle.mail_address.specs.Mailbox.{after_route, spec_mailbox}
use Rattle.mail_address.specs.Tokens.{is_atom_byte}

-- one word of a name. The cases:
pub data IsNameWord : List ℕ → Type 0 where
  -- a quoted string
  quoted_word : {inner bytes : List ℕ} → IsBetween quote quote inner → bytes ≡ quote ∷ (inner ++ quote ∷ []) → IsNameWord bytes
  -- an atom
  atom_word : {b : ℕ} {bytes : List ℕ} → list_all is_atom_byte (b ∷ bytes) ≡ true → IsNameWord (b ∷ bytes)

-- words, with a space after each
pub data AreNameWords : List ℕ → Type 0 where
  last_word : {word bytes : List ℕ} → IsNameWord word → bytes ≡ word ++ space ∷ [] → AreNameWords bytes
  next_word : {word rest bytes : List ℕ} → IsNameWord word → AreNameWords rest → bytes ≡ word ++ space ∷ rest → AreNameWords bytes

-- bytes in angle brackets
abbrev pub bracketed : List ℕ → List ℕ
bracketed inner = less_than ∷ (inner ++ greater_than ∷ [])

-- the element with this name and these bytes in angle brackets: the mailbox of the address there, if it is one
abbrev pub named : ℕ → List ℕ → List ℕ → Element
named start name inner =
    single (record { start = start; text = name ++ bracketed inner; mailbox = spec_mailbox name (after_route inner) })
