-- A list of addresses: RFC 5322, sections 3.4 and 4.4, with groups as RFC 6854 has them.
use Rattle.std.specs.Prelude.{ℕ, zero, suc, ◌+◌, Bool, ◌&&◌, ◌||◌, ◌==◌, min, List, [], ◌∷◌, ◌++◌, length, map, take, drop, Option, if◌then◌else◌}
use Rattle.mail_codec.specs.Ascii.{colon, comma, semicolon}
use Rattle.mail_codec.specs.Places.{begins, is_empty}
use Rattle.mail_address.specs.declared.tokens.Span.TheVariants.{White, BeforeComma, BeforeSeparator, BeforeDelimiter, InGroup}
use Rattle.mail_address.specs.Tokens.{is_all_white, run}
use Rattle.mail_address.specs.Mailbox.{Parts, is_phrase, mailbox_of}

-- an element without members: where it starts, its text, and the parts of the mailbox that it is, if it is one
pub record Single : Type 0 where
  pub start : ℕ
  pub text : List ℕ
  pub mailbox : Option Parts

-- a group: where it starts, its text, its name and its members
pub record Group : Type 0 where
  pub start : ℕ
  pub text : List ℕ
  pub display_name : List ℕ
  pub members : List Single

-- an element of a list
pub data Element : Type 0 where
  single : Single → Element
  group : Group → Element

-- the element before a separator; none if there is only whitespace and comments
unfoldable pub single_at : ℕ → List ℕ → List Single
single_at start text =
    if is_all_white text then [] else record { start = start; text = text; mailbox = mailbox_of text } ∷ []

-- the length of the member at the front with the comma after it
unfoldable pub member_len : List ℕ → ℕ
member_len bytes = min (suc (run BeforeComma bytes)) (length bytes)

-- the element before the comma
unfoldable pub member_at : ℕ → List ℕ → List Single
member_at start bytes = single_at start (take (run BeforeComma bytes) bytes)

-- the items one after another in bytes that begin at the offset `start`, each with its length: at most `most`
abbrev pub items_within : {A : Type 0} → (ℕ → List ℕ → List A) → (List ℕ → ℕ) → ℕ → ℕ → List ℕ → List A
items_within at len zero start bytes = []
items_within at len (suc most) start bytes =
    if is_empty bytes then [] else at start bytes ++ items_within at len most (start + len bytes) (drop (len bytes) bytes)

unfoldable pub items : {A : Type 0} → (ℕ → List ℕ → List A) → (List ℕ → ℕ) → ℕ → List ℕ → List A
items at len start bytes = items_within at len (length bytes) start bytes

-- the members of a group, from the bytes between its colon and semicolon, which begin at the offset `start`
abbrev pub members_at : ℕ → List ℕ → List Single
members_at start bytes = items member_at member_len start bytes

-- the length of a group's name, which ends before its colon
unfoldable pub name_len : List ℕ → ℕ
name_len bytes = run BeforeDelimiter bytes

-- the bytes after a group's name and its colon
abbrev pub after_name : List ℕ → List ℕ
after_name bytes = drop (suc (name_len bytes)) bytes

-- the number of bytes between a group's colon and its semicolon
unfoldable pub inner_len : List ℕ → ℕ
inner_len bytes = run InGroup (after_name bytes)

-- the bytes after a group's semicolon
abbrev pub after_group : List ℕ → List ℕ
after_group bytes = drop (suc (inner_len bytes)) (after_name bytes)

-- there is a group at the front: a phrase, a colon, members without a colon outside of quotes, comments and brackets, and a semicolon
unfoldable pub is_group : List ℕ → Bool
is_group bytes =
    begins (λ b. b == colon) (drop (name_len bytes) bytes) && is_phrase (take (name_len bytes) bytes)
    && begins (λ b. b == semicolon) (drop (inner_len bytes) (after_name bytes))

-- the length of the group at the front, with the whitespace and comments after its semicolon
unfoldable pub group_len : List ℕ → ℕ
group_len bytes = name_len bytes + inner_len bytes + 2 + run White (after_group bytes)

-- the group at the front
unfoldable pub group_at : ℕ → List ℕ → Group
group_at start bytes = record {
  start = start;
  text = take (group_len bytes) bytes;
  display_name = take (name_len bytes) bytes;
  members = members_at (start + suc (name_len bytes)) (take (inner_len bytes) (after_name bytes));
}

-- a comma, or a semicolon in its place
abbrev pub is_separator : ℕ → Bool
is_separator b = b == comma || b == semicolon

-- the length of the separator at the front: 1, or 0 if there is none
abbrev pub separator_len : List ℕ → ℕ
separator_len bytes = if begins is_separator bytes then 1 else 0

-- the length of the element at the front with the separator after it; a group needs none
unfoldable pub element_len : List ℕ → ℕ
element_len bytes =
    if is_group bytes then group_len bytes + separator_len (drop (group_len bytes) bytes)
    else min (suc (run BeforeSeparator bytes)) (length bytes)

-- the element at the front, if there is one before the separator
unfoldable pub element_at : ℕ → List ℕ → List Element
element_at start bytes =
    if is_group bytes then group (group_at start bytes) ∷ []
    else map single (single_at start (take (run BeforeSeparator bytes) bytes))

-- the elements of a list
abbrev pub addresses : List ℕ → List Element
addresses raw = items element_at element_len 0 raw

-- each of these elements without members has a property
abbrev pub EachSingle : (Single → Type 0) → List Single → Type 0
EachSingle P [] = Unit {0}
EachSingle P (s ∷ ss) = P s × EachSingle P ss

-- so has each element of a list and each member of a group
abbrev pub EachElement : (Single → Type 0) → List Element → Type 0
EachElement P [] = Unit {0}
EachElement P (single s ∷ es) = P s × EachElement P es
EachElement P (group g ∷ es) = EachSingle P g.members × EachElement P es
