-- Lists of addresses, written so that they read back: RFC 5322, section 3.4, and RFC 2047, section 5, rule (3). Which form a name
-- takes is our own rule.
use Rattle.std.specs.Prelude.{ℕ, Bool, true, false, ◌&&◌, ◌||◌, ◌==◌, List, [], ◌∷◌, ◌++◌, length, map, flat_map, Option, Some, if◌then◌else◌}
use Rattle.std.specs.List.{list_all}
use Rattle.std.specs.Option.{option_map}
use Rattle.std.specs.Str.{IsUtf8}
use Rattle.mail_codec.specs.Ascii.{carriage_return, colon, comma, line_feed, semicolon, space}
use Rattle.mail_codec.specs.Charset.{Charsets}
use Rattle.mail_codec.specs.Places.{is_empty}
use Rattle.mailparse.specs.Value.{lenient_value_in}
use Rattle.mail_address.specs.Encode.{is_plain_value, one_word}
use Rattle.mail_address.specs.declared.tokens.Span.TheVariants.{Literals}
use Rattle.mail_address.specs.declared.writer.NewAddress.{NewAddress}
use Rattle.mail_address.specs.declared.writer.NewAddress.TheVariants as new
use Rattle.mail_address.specs.declared.writer.NewGroup.{NewGroup}
use Rattle.mail_address.specs.declared.writer.NewMailbox.{NewMailbox}
use Rattle.mail_address.specs.declared.writer.WriteError.{WriteError}
use Rattle.mail_address.specs.declared.writer.WriteError.TheVariants as errors
use Rattle.mail_address.specs.Addresses.{Element, Single, single, group}
use Rattle.mail_address.specs.Folding.{has_no_control, without_white}
use Rattle.mail_address.specs.Names.{bracketed}
use Rattle.mail_address.specs.Text.{address_bytes, needs_no_quotes, phrase_text, quoted_text}
use Rattle.mail_address.specs.Tokens.{at_sign, front_token, is_atom_byte, is_in}

-- ---- What can be written.

-- a domain literal and nothing else
unfoldable pub is_literal : List ℕ → Bool
is_literal text = is_in Literals (front_token text).kind && (front_token text).len == length text

-- an address that can be written: it contains no control character, and its domain is a dot-atom or a domain literal
unfoldable pub is_writable : NewMailbox → Bool
is_writable m =
    has_no_control m.local_part.now && has_no_control m.domain.now && (needs_no_quotes m.domain.now || is_literal m.domain.now)

-- an element whose addresses can all be written
abbrev pub is_element_writable : NewAddress → Bool
is_element_writable (new.Mailbox m) = is_writable m
is_element_writable (new.Group g) = list_all is_writable g.members.now

abbrev pub are_writable : List NewAddress → Bool
are_writable list = list_all is_element_writable list

-- an error that is a refusal
abbrev pub is_refusal : WriteError → Bool
is_refusal errors.Address = true
is_refusal (errors.Memory e) = false

-- ---- What a name is written as.

-- atoms separated by single spaces; the byte before them is one of an atom or not
abbrev pub are_atoms_after : Bool → List ℕ → Bool
are_atoms_after in_word [] = in_word
are_atoms_after in_word (b ∷ rest) =
    if b == space then in_word && are_atoms_after false rest else is_atom_byte b && are_atoms_after true rest

abbrev pub are_atoms : List ℕ → Bool
are_atoms text = are_atoms_after false text

-- a name: a plain one as atoms, if it is atoms, and else as a quoted string; any other as an encoded word
unfoldable pub written_phrase : List ℕ → List ℕ
written_phrase name =
    if is_plain_value name then (if are_atoms name then name else quoted_text name)
    else one_word name

-- a name and a space, or nothing
unfoldable pub written_name : List ℕ → List ℕ
written_name name = if is_empty name then [] else written_phrase name ++ space ∷ []

-- ---- What a list is written as.

-- a local part: with quotes if it needs them
unfoldable pub written_local : List ℕ → List ℕ
written_local local = if needs_no_quotes local then local else quoted_text local

-- an address
abbrev pub written_address : NewMailbox → List ℕ
written_address m = written_local m.local_part.now ++ at_sign ∷ m.domain.now

-- a mailbox: its address in angle brackets, after its name
abbrev pub written_mailbox : NewMailbox → List ℕ
written_mailbox m = written_name m.display_name.now ++ bracketed (written_address m)

-- the separator of two elements: a comma and a fold
abbrev pub separator : List ℕ
separator = comma ∷ carriage_return ∷ line_feed ∷ space ∷ []

-- texts with separators between them
abbrev pub joined : {A : Type 0} → (A → List ℕ) → List A → List ℕ
joined written [] = []
joined written (x ∷ xs) = written x ++ flat_map (λ y. separator ++ written y) xs

-- a mailbox with a separator before it
abbrev pub next_mailbox : NewMailbox → List ℕ
next_mailbox m = separator ++ written_mailbox m

-- a group: its name, a colon, its members and a semicolon
abbrev pub written_group : NewGroup → List ℕ
written_group g = written_phrase g.display_name.now ++ colon ∷ (joined written_mailbox g.members.now ++ semicolon ∷ [])

abbrev pub written_element : NewAddress → List ℕ
written_element (new.Mailbox m) = written_mailbox m
written_element (new.Group g) = written_group g

-- an element with a separator before it
abbrev pub next_element : NewAddress → List ℕ
next_element e = separator ++ written_element e

-- a list: its elements, with separators between them
unfoldable pub written_list : List NewAddress → List ℕ
written_list list = joined written_element list

-- ---- What is seen of a list that is read.

-- the text of a mailbox's name, and its address in canonical form
pub record Seen : Type 0 where
  pub name : List ℕ
  pub address : List ℕ

-- what is seen of an element: of a group its name and its members, and nothing of an element that is not an address
pub data SeenElement : Type 0 where
  seen_single : Option Seen → SeenElement
  seen_group : List ℕ → List (Option Seen) → SeenElement

module _ (known : Charsets) where
  abbrev pub single_shows : Single → Option Seen
  single_shows s =
      option_map (λ p. record { name = lenient_value_in known (phrase_text p.display_name); address = address_bytes p.local_part p.domain }) s.mailbox

  abbrev pub element_shows : Element → SeenElement
  element_shows (single s) = seen_single (single_shows s)
  element_shows (group g) = seen_group (lenient_value_in known (phrase_text g.display_name)) (map single_shows g.members)

-- what a written mailbox has to show: its address without the whitespace in a domain literal
abbrev pub mailbox_shown_for : NewMailbox → Option Seen
mailbox_shown_for m = Some (record {
  name = m.display_name.now;
  address = written_local m.local_part.now ++ at_sign ∷ without_white false m.domain.now;
})

abbrev pub element_shown_for : NewAddress → SeenElement
element_shown_for (new.Mailbox m) = seen_single (mailbox_shown_for m)
element_shown_for (new.Group g) = seen_group g.display_name.now (map mailbox_shown_for g.members.now)

-- the names are texts
abbrev pub AreTexts : List NewMailbox → Type 0
AreTexts [] = Unit {0}
AreTexts (m ∷ ms) = IsUtf8 m.display_name.now × AreTexts ms

abbrev pub HasTexts : NewAddress → Type 0
HasTexts (new.Mailbox m) = IsUtf8 m.display_name.now
HasTexts (new.Group g) = IsUtf8 g.display_name.now × AreTexts g.members.now

abbrev pub HaveTexts : List NewAddress → Type 0
HaveTexts [] = Unit {0}
HaveTexts (e ∷ es) = HasTexts e × HaveTexts es
