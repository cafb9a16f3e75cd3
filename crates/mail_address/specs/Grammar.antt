-- The grammar of a mailbox: RFC 5322, sections 3.2, 3.4 and 4.4, over bytes that are not decoded; a byte of 128 or more belongs to an
-- atom (RFC 6532). It has no tokens, except that `are_clean` excludes control characters: each rule describes bytes. `Enclosed`
-- has the bytes within quotes, parentheses and square brackets; a word that is an atom or a quoted string is in `Names`.
use Rattle.std.specs.Prelude.{◌≡◌, ℕ, true, List, [], ◌∷◌, ◌++◌, Some}
use Rattle.std.specs.List.{list_all}
use Rattle.mail_codec.specs.Ascii.{closing_parenthesis, colon, comma, greater_than, less_than, opening_parenthesis}
use Rattle.mail_address.specs.Addresses.{Single}
use Rattle.mail_address.specs.Enclosed.{IsBetween, IsCommented}
use Rattle.mail_address.specs.Mailbox.{are_clean, Parts}
use Rattle.mail_address.specs.Names.{IsNameWord}
use Rattle.mail_address.specs.Tokens.{at_sign, closing_bracket, dot, is_atom_byte, is_white, opening_bracket}

-- ---- Words.

-- folding whitespace and comments, or nothing ([CFWS] in RFC 5322). The cases:
pub data IsWhite : List ℕ → Type 0 where
  -- no more
  white_ends : IsWhite []
  -- a byte of whitespace
  white_byte : {b : ℕ} {rest : List ℕ} → is_white b ≡ true → IsWhite rest → IsWhite (b ∷ rest)
  -- a comment
  white_comment : {inner rest bytes : List ℕ} → IsCommented inner → IsWhite rest
      → bytes ≡ opening_parenthesis ∷ (inner ++ closing_parenthesis ∷ rest) → IsWhite bytes

-- which words a rule has: atoms and quoted strings (word), atoms alone, or domain literals
pub data Words : Type 0 where
  any_words : Words
  atoms : Words
  literals : Words

-- one of these words
pub data IsWord : Words → List ℕ → Type 0 where
  -- an atom or a quoted string
  any_word : {bytes : List ℕ} → IsNameWord bytes → IsWord any_words bytes
  -- an atom
  atom : {b : ℕ} {bytes : List ℕ} → list_all is_atom_byte (b ∷ bytes) ≡ true → IsWord atoms (b ∷ bytes)
  -- a domain literal
  literal : {inner bytes : List ℕ} → IsBetween opening_bracket closing_bracket inner
      → bytes ≡ opening_bracket ∷ (inner ++ closing_bracket ∷ []) → IsWord literals bytes

-- a word, with folding whitespace and comments around it
pub record IsPadded (words : Words) (bytes : List ℕ) : Type 0 where
  pub before : List ℕ
  pub word : List ℕ
  pub after : List ℕ
  pub white_before : IsWhite before
  pub is_word : IsWord words word
  pub white_after : IsWhite after
  pub made : bytes ≡ before ++ (word ++ after)

-- dots, with a word after each
pub data AreDotWords (words : Words) : List ℕ → Type 0 where
  dots_end : AreDotWords words []
  dot_word : {word rest bytes : List ℕ} → IsPadded words word → AreDotWords words rest → bytes ≡ dot ∷ (word ++ rest)
      → AreDotWords words bytes

-- words separated by dots
pub record AreDotted (words : Words) (bytes : List ℕ) : Type 0 where
  pub first : List ℕ
  pub rest : List ℕ
  pub is_first : IsPadded words first
  pub are_rest : AreDotWords words rest
  pub made : bytes ≡ first ++ rest

-- ---- Addresses.

-- the bytes before the `@` (local-part, obs-local-part)
abbrev pub IsLocalPart : List ℕ → Type 0
IsLocalPart bytes = AreDotted any_words bytes

-- the bytes after the `@` (domain, obs-domain): atoms separated by dots, or a domain literal
pub data IsDomain : List ℕ → Type 0 where
  dotted : {bytes : List ℕ} → AreDotted atoms bytes → IsDomain bytes
  in_brackets : {bytes : List ℕ} → IsPadded literals bytes → IsDomain bytes

-- ---- Names.

-- the bytes after the first word of a phrase (phrase, obs-phrase). The cases:
pub data IsPhraseRest : List ℕ → Type 0 where
  -- no more
  phrase_ends : IsPhraseRest []
  -- folding whitespace and comments
  phrase_white : {white rest bytes : List ℕ} → IsWhite white → IsPhraseRest rest → bytes ≡ white ++ rest → IsPhraseRest bytes
  -- a dot
  phrase_dot : {rest : List ℕ} → IsPhraseRest rest → IsPhraseRest (dot ∷ rest)
  -- a word
  phrase_word : {word rest bytes : List ℕ} → IsNameWord word → IsPhraseRest rest → bytes ≡ word ++ rest → IsPhraseRest bytes

-- a phrase: its first word may have folding whitespace and comments before it
pub record IsPhrase (bytes : List ℕ) : Type 0 where
  pub before : List ℕ
  pub first : List ℕ
  pub rest : List ℕ
  pub white_before : IsWhite before
  pub is_first : IsNameWord first
  pub is_rest : IsPhraseRest rest
  pub made : bytes ≡ before ++ (first ++ rest)

-- the bytes before an address in angle brackets: a phrase or none
pub data IsName : List ℕ → Type 0 where
  no_name : {bytes : List ℕ} → IsWhite bytes → IsName bytes
  phrase : {bytes : List ℕ} → IsPhrase bytes → IsName bytes

-- ---- Routes (obs-route, obs-domain-list); one may not begin with a comma, unlike in RFC 5322.

-- a stop of a route: an `@` and a domain, or nothing
pub data IsStop : List ℕ → Type 0 where
  no_stop : {bytes : List ℕ} → IsWhite bytes → IsStop bytes
  stop : {white domain bytes : List ℕ} → IsWhite white → IsDomain domain → bytes ≡ white ++ at_sign ∷ domain → IsStop bytes

-- stops separated by commas
pub data AreStops : List ℕ → Type 0 where
  last_stop : {bytes : List ℕ} → IsStop bytes → AreStops bytes
  next_stop : {first rest bytes : List ℕ} → IsStop first → AreStops rest → bytes ≡ first ++ comma ∷ rest → AreStops bytes

-- a route: stops, of which the first has a domain
pub data IsRoute : List ℕ → Type 0 where
  one_stop : {white domain bytes : List ℕ} → IsWhite white → IsDomain domain → bytes ≡ white ++ at_sign ∷ domain → IsRoute bytes
  more_stops : {white domain rest bytes : List ℕ} → IsWhite white → IsDomain domain → AreStops rest
      → bytes ≡ white ++ at_sign ∷ (domain ++ comma ∷ rest) → IsRoute bytes

-- a route with its colon, or nothing
pub data MayBeRoute : List ℕ → Type 0 where
  no_route : MayBeRoute []
  route : {stops bytes : List ℕ} → IsRoute stops → bytes ≡ stops ++ colon ∷ [] → MayBeRoute bytes

-- ---- Mailboxes.

-- the text is the mailbox with these parts (mailbox). Neither quoted strings nor domain literals of its address contain control
-- characters, but for folding. The cases:
pub data IsMailbox : List ℕ → Parts → Type 0 where
  -- an address (addr-spec)
  address : {local domain text : List ℕ} → IsLocalPart local → IsDomain domain → are_clean local domain ≡ true
      → text ≡ local ++ at_sign ∷ domain
      → IsMailbox text (record { display_name = []; local_part = local; domain = domain })
  -- an address in angle brackets, after a name or none (name-addr)
  named_address : {name may_be_route local domain after text : List ℕ} → IsName name → MayBeRoute may_be_route → IsLocalPart local
      → IsDomain domain → are_clean local domain ≡ true → IsWhite after
      → text ≡ name ++ less_than ∷ ((may_be_route ++ (local ++ at_sign ∷ domain)) ++ greater_than ∷ after)
      → IsMailbox text (record { display_name = name; local_part = local; domain = domain })

-- ---- Lists.

-- an element without members is the mailbox that its text is by the grammar, and no mailbox if its text is not one
abbrev pub IsByGrammar : Single → Type 0
IsByGrammar s = (m : Parts) → (s.mailbox ≡ Some m → IsMailbox s.text m) × (IsMailbox s.text m → s.mailbox ≡ Some m)
