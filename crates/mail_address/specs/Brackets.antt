-- Where the address is that is read leniently in a text with angle brackets.
use Rattle.std.specs.Prelude.{◌≡◌, ℕ, true, List, ◌∷◌, ◌++◌, take, drop, Some, None}
use Rattle.mail_address.specs.declared.tokens.Span.TheVariants.{BeforeAngle}
use Rattle.mail_address.specs.Addresses.{Single}
use Rattle.mail_address.specs.Lenient.{closed_len, has_brackets}
use Rattle.mail_address.specs.Mailbox.{Parts, mailbox_of, within_ends}
use Rattle.mail_address.specs.Tokens.{at_sign, far, front_token, run}

-- the bytes before a comment that is not closed: all bytes if there is none
unfoldable pub before_open : List ℕ → List ℕ
before_open text = take (far closed_len text) text

-- a pair of angle brackets at the front without the brackets
abbrev pub inside_front : List ℕ → List ℕ
inside_front rest = within_ends (take (front_token rest).len rest)

-- the bytes within the first pair of angle brackets outside of quotes and comments
abbrev pub in_brackets : List ℕ → List ℕ
in_brackets text = inside_front (drop (run BeforeAngle text) text)

-- these bytes contain the local part, an `@` and the domain, one directly after the other
pub record IsAddressIn (bytes : List ℕ) (m : Parts) : Type 0 where
  pub before : List ℕ
  pub after : List ℕ
  pub made : bytes ≡ before ++ (m.local_part ++ at_sign ∷ (m.domain ++ after))

-- a text has a pair of angle brackets, and it is no mailbox by the grammar, with a comment that is not closed or without it
pub record HasBracketsAlone (text : List ℕ) : Type 0 where
  pub whole : mailbox_of text ≡ None
  pub closed : mailbox_of (before_open text) ≡ None
  pub brackets : has_brackets (before_open text) ≡ true

-- the address of an element with such a text is the one in the first pair
abbrev pub IsInBrackets : Single → Type 0
IsInBrackets s = (m : Parts) → s.mailbox ≡ Some m → HasBracketsAlone s.text → IsAddressIn (in_brackets (before_open s.text)) m
