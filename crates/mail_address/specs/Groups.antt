-- The grammar of a group of mailboxes (RFC 5322, sections 3.4 and 4.4; RFC 6854), by bytes, as that of a mailbox is.
use Rattle.std.specs.Prelude.{◌≡◌, ℕ, suc, ◌+◌, List, [], ◌∷◌, ◌++◌, Some, length}
use Rattle.mail_codec.specs.Ascii.{colon, comma, semicolon}
use Rattle.mail_address.specs.Addresses.{Element, Group, Single, single, group}
use Rattle.mail_address.specs.Grammar.{IsMailbox, IsPhrase, IsWhite}
use Rattle.mail_address.specs.Mailbox.{Parts}

-- the element of a mailbox at an offset
abbrev pub mailbox_at : ℕ → List ℕ → Parts → Single
mailbox_at start text m = record { start = start; text = text; mailbox = Some m }

-- the bytes between a colon and a semicolon, which begin at the offset, have these members (group-list, obs-group-list). The cases:
pub data AreMembers : ℕ → List ℕ → List Single → Type 0 where
  -- folding whitespace and comments, or nothing
  no_member : {start : ℕ} {bytes : List ℕ} → IsWhite bytes → AreMembers start bytes []
  -- a mailbox
  one_member : {start : ℕ} {text : List ℕ} {m : Parts} → IsMailbox text m → AreMembers start text (mailbox_at start text m ∷ [])
  -- folding whitespace and comments, a comma, and more
  blank_member : {start : ℕ} {white rest bytes : List ℕ} {members : List Single} → IsWhite white
      → AreMembers (start + suc (length white)) rest members → bytes ≡ white ++ comma ∷ rest → AreMembers start bytes members
  -- a mailbox, a comma, and more
  next_member : {start : ℕ} {text rest bytes : List ℕ} {m : Parts} {members : List Single} → IsMailbox text m
      → AreMembers (start + suc (length text)) rest members → bytes ≡ text ++ comma ∷ rest
      → AreMembers start bytes (mailbox_at start text m ∷ members)

-- the bytes, which begin at the offset, are this group of mailboxes (group): a name, a colon, its members, a semicolon, and folding
-- whitespace and comments
pub record IsGroup (start : ℕ) (bytes : List ℕ) (g : Group) : Type 0 where
  pub name : List ℕ
  pub inner : List ℕ
  pub white : List ℕ
  pub members : List Single
  pub is_name : IsPhrase name
  pub are_members : AreMembers (start + suc (length name)) inner members
  pub white_after : IsWhite white
  pub made : bytes ≡ name ++ colon ∷ (inner ++ semicolon ∷ white)
  pub same : g ≡ record { start = start; text = bytes; display_name = name; members = members }

-- each of these elements is a mailbox
abbrev pub AreMailboxes : List Single → Type 0
AreMailboxes [] = Unit {0}
AreMailboxes (s ∷ ss) = ((m : Parts) × (s.mailbox ≡ Some m)) × AreMailboxes ss

-- each group whose members are all mailboxes is a group of mailboxes by the grammar
abbrev pub GroupsFollow : List Element → Type 0
GroupsFollow [] = Unit {0}
GroupsFollow (single s ∷ es) = GroupsFollow es
GroupsFollow (group g ∷ es) = (AreMailboxes g.members → IsGroup g.start g.text g) × GroupsFollow es
