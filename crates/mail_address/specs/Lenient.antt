-- A lenient reading of addresses, above the grammar. Only an element that is no mailbox by the grammar is read again, and a mailbox
-- without a display name looks for one in a comment. The rules are our own; each is about text that real mail has.
use Rattle.std.specs.Prelude.{◌≡◌, ℕ, suc, ◌+◌, ◌-◌, Bool, true, false, not, ◌&&◌, ◌||◌, ◌==◌, List, length, map, take, drop, min, flat_map, [], ◌∷◌, ◌++◌, Option, Some, None, is_none, option_map, codes, if◌then◌else◌}
use Rattle.std.specs.List.{list_all, prefix_len}
use Rattle.std.specs.Option.{is_some, option_or}
use Rattle.mail_codec.specs.Ascii.{colon, comma, less_than, opening_parenthesis, quote}
use Rattle.mail_codec.specs.Places.{begins, has_prefix, is_empty, text_place}
use Rattle.mailparse.specs.Header.{Header}
use Rattle.mailparse.specs.Map.{all_with_key}
use Rattle.mail_address.specs.declared.tokens.Kind.{Kind}
use Rattle.mail_address.specs.declared.tokens.Kind.TheVariants.{Comment, Quoted}
use Rattle.mail_address.specs.declared.tokens.Span.TheVariants.{White, AfterAngle, BeforeAngle, BeforeAt, BeforeColon, BeforeOpening, BeforeWhite, Dots}
use Rattle.mail_address.specs.Addresses.{Element, Group, Single, addresses, after_name, group, is_separator, items, members_at, name_len, single, single_at}
use Rattle.mail_address.specs.Headers.{only_mailbox}
use Rattle.mail_address.specs.Mailbox.{Parts, after_white, are_clean, is_domain, is_enclosed, is_local_part, is_phrase, mailbox_of, within_ends}
use Rattle.mail_address.specs.Order.{start_of, text_of}
use Rattle.mail_address.specs.Tokens.{at_sign, dot, far, front_token, is_all_white, run}

-- ---- Names in comments.

-- a comment
abbrev pub is_comment : Kind → Bool
is_comment Comment = true
is_comment _ = false

-- the length of the token at the front, or 0 if it is a comment
unfoldable pub no_comment_len : List ℕ → ℕ
no_comment_len bytes = if is_comment (front_token bytes).kind then 0 else (front_token bytes).len

-- the bytes from the first comment outside of angle brackets on
unfoldable pub from_comment : List ℕ → List ℕ
from_comment text = drop (far no_comment_len text) text

-- a mailbox with this text has no display name, but a comment outside of angle brackets
unfoldable pub is_named_in_comment : List ℕ → Parts → Bool
is_named_in_comment text m = is_all_white m.display_name && is_comment (front_token (from_comment text)).kind

-- the bytes within the first comment
unfoldable pub comment_name : List ℕ → List ℕ
comment_name text = within_ends (take (front_token (from_comment text)).len (from_comment text))

-- a mailbox with this text, named by its first comment if it has no other name
unfoldable pub with_comment : List ℕ → Parts → Parts
with_comment text m =
    if is_named_in_comment text m
    then record { display_name = comment_name text; local_part = m.local_part; domain = m.domain } else m

-- ---- Addresses.

-- the bytes are atoms and dots in any order, with whitespace and comments around them: `a..b` and `a.`, as telephones had them
unfoldable pub is_dots : List ℕ → Bool
is_dots text =
    let white = run White text in
    let len = run Dots (drop white text) in
    not (len == 0) && is_all_white (drop (white + len) text)

-- the length of the whitespace at the front, and of the atoms and dots after it
unfoldable pub dots_end : List ℕ → ℕ
dots_end text = run White text + run Dots (drop (run White text) text)

-- a domain without the dot of the root at its end
unfoldable pub without_root : List ℕ → List ℕ
without_root text =
    if begins (λ b. b == dot) (drop (dots_end text - 1) text) && is_all_white (drop (dots_end text) text)
    then take (dots_end text - 1) text else text

-- the bytes begin as an encoded word does
unfoldable pub begins_word : List ℕ → Bool
begins_word text = has_prefix (codes "=?") (after_white text)

-- a local part: by the grammar, or atoms and dots; but no encoded word
unfoldable pub is_lenient_local : List ℕ → Bool
is_lenient_local text = not (begins_word text) && (is_local_part text || is_dots text)

-- the mailbox of a name, a local part and a domain, if they are ones
unfoldable pub lenient_parts : List ℕ → List ℕ → List ℕ → Option Parts
lenient_parts name local_part domain =
    if is_lenient_local local_part && (is_domain domain && are_clean local_part domain)
    then Some (record { display_name = name; local_part = local_part; domain = domain }) else None

-- the mailbox of a name and an address
unfoldable pub lenient_spec : List ℕ → List ℕ → Option Parts
lenient_spec name text =
    let len = run BeforeAt text in
    if begins (λ b. b == at_sign) (drop len text)
    then lenient_parts name (take len text) (without_root (drop (suc len) text)) else None

-- the bytes after a route of any form: one that begins with an `@`, up to its colon
unfoldable pub after_any_route : List ℕ → List ℕ
after_any_route text =
    let len = run BeforeColon text in
    if begins (λ b. b == at_sign) (after_white text) && begins (λ b. b == colon) (drop len text) then drop (suc len) text else text

-- ---- Addresses in angle brackets.

-- a quoted string
abbrev pub is_quoted : Kind → Bool
is_quoted Quoted = true
is_quoted _ = false

-- the bytes begin with a quote that is not closed
unfoldable pub begins_open_quote : List ℕ → Bool
begins_open_quote text = begins (λ b. b == quote) text && not (is_quoted (front_token text).kind)

-- a display name without a quote that is not closed at its start
unfoldable pub without_quote : List ℕ → List ℕ
without_quote text = if begins_open_quote (after_white text) then drop 1 (after_white text) else text

-- the display name in the bytes before an angle bracket: those before the first bracket that is not closed
unfoldable pub lenient_name : List ℕ → List ℕ
lenient_name text = without_quote (take (run BeforeOpening text) text)

-- the mailbox of the bytes before a pair of angle brackets, and of the brackets with what follows them: whitespace, comments and
-- closing brackets
unfoldable pub angle_mailbox : List ℕ → List ℕ → Option Parts
angle_mailbox name rest =
    let len = (front_token rest).len in
    let after = drop len rest in
    if run AfterAngle after == length after
    then lenient_spec (lenient_name name) (after_any_route (within_ends (take len rest))) else None

-- the mailbox of a name, an angle bracket that is not closed, and an address
unfoldable pub opened_mailbox : List ℕ → List ℕ → Option Parts
opened_mailbox name rest = lenient_spec (without_quote name) (after_any_route (drop 1 rest))

-- ---- Addresses without angle brackets.

-- the length of a word at the front with the whitespace and comments after it, or 0 if there is none or if it begins as an encoded
-- word does
unfoldable pub name_word_len : List ℕ → ℕ
name_word_len bytes =
    let len = run BeforeWhite bytes in
    let white = run White (drop len bytes) in
    if has_prefix (codes "=?") bytes || white == 0 then 0 else len + white

-- the length of the words before the local part, which is directly before the first `@`
unfoldable pub bare_name_len : List ℕ → ℕ
bare_name_len text = far name_word_len (take (run BeforeAt text) text)

-- the mailbox of a phrase, or of no name, and an address
unfoldable pub bare_mailbox : List ℕ → Option Parts
bare_mailbox text =
    let name = take (bare_name_len text) text in
    if is_all_white name || is_phrase name then lenient_spec name (drop (bare_name_len text) text) else None

-- ---- Elements.

-- the mailbox that a text is in which every comment is closed
unfoldable pub closed_mailbox : List ℕ → Option Parts
closed_mailbox text =
    let angle = run BeforeAngle text in
    let opening = run BeforeOpening text in
    if is_enclosed (front_token (drop angle text)).kind then angle_mailbox (take angle text) (drop angle text) else
    if begins (λ b. b == less_than) (drop opening text) then opened_mailbox (take opening text) (drop opening text)
    else bare_mailbox text

-- the length of the token at the front, or 0 if it is a comment that is not closed
unfoldable pub closed_len : List ℕ → ℕ
closed_len bytes =
    let token = front_token bytes in
    if begins (λ b. b == opening_parenthesis) bytes && not (is_comment token.kind) then 0 else token.len

-- the bytes contain no opening angle bracket
abbrev pub has_no_opening : List ℕ → Bool
has_no_opening bytes = list_all (λ b. not (b == less_than)) bytes

-- the mailbox that a text is, if it is one; a comment that is not closed, and that has no `<` in it, is left out
unfoldable pub lenient_mailbox : List ℕ → Option Parts
lenient_mailbox text =
    let len = far closed_len text in
    if has_no_opening (drop len text)
    then option_map (with_comment text) (option_or (mailbox_of (take len text)) (closed_mailbox (take len text))) else None

-- the element at an offset with this text, of which the grammar makes this mailbox or none
abbrev pub refined_as : ℕ → List ℕ → Option Parts → Single
refined_as start text (Some m) = record { start = start; text = text; mailbox = Some (with_comment text m) }
refined_as start text None = record { start = start; text = text; mailbox = lenient_mailbox text }

-- an element without members, read leniently
abbrev pub refined_single : Single → Single
refined_single s = refined_as s.start s.text s.mailbox

-- a text contains a pair of angle brackets outside of quotes and comments
abbrev pub has_brackets : List ℕ → Bool
has_brackets text = is_enclosed (front_token (drop (run BeforeAngle text) text)).kind

-- ---- Commas in names.

-- an element is words of a name before a comma: a phrase, so no address
abbrev pub is_name_part : List ℕ → Element → Bool
is_name_part raw (single s) = is_none s.mailbox && (is_phrase s.text && begins (λ b. b == comma) (drop (length s.text) (drop s.start raw)))
is_name_part raw (group g) = false

-- an element is a mailbox with an address in angle brackets
abbrev pub is_bracketed : Element → Bool
is_bracketed (single s) = has_brackets s.text && is_some (option_or s.mailbox (lenient_mailbox s.text))
is_bracketed (group g) = false

-- the first element that is no words of a name is such a mailbox
abbrev pub has_bracketed : List ℕ → List Element → Bool
has_bracketed raw [] = false
has_bracketed raw (e ∷ es) = if is_name_part raw e then has_bracketed raw es else is_bracketed e

-- the offset after an element
abbrev pub end_of : Element → ℕ
end_of e = start_of e + length (text_of e)

-- the offset after that mailbox
abbrev pub bracketed_end : List ℕ → List Element → ℕ
bracketed_end raw [] = 0
bracketed_end raw (e ∷ es) = if is_name_part raw e then bracketed_end raw es else end_of e

-- the bytes between two offsets as an element, which is no mailbox by the grammar
abbrev pub between : List ℕ → ℕ → ℕ → Element
between raw start end = single (record { start = start; text = take (end - start) (drop start raw); mailbox = None })

-- the elements of a list with these bytes, where a mailbox with an address in angle brackets is one with the words of its name
-- that are before it
abbrev pub joined : List ℕ → List Element → List Element
joined raw [] = []
joined raw (e ∷ es) =
    if is_name_part raw e && has_bracketed raw es then between raw (start_of e) (bracketed_end raw es) ∷ drop 1 (joined raw es)
    else e ∷ joined raw es

-- elements at the front of a list: the one that they are joined to, or themselves
abbrev pub front_elements : Option Element → List Element → List Element
front_elements (Some e) es = e ∷ []
front_elements None es = es

-- ---- Members of groups, and elements.

-- the member that an element is, read leniently; a group has none of its own
abbrev pub lenient_member : Element → List Single
lenient_member (single s) = refined_single s ∷ []
lenient_member (group g) = []

-- so those that elements are
abbrev pub lenient_members : List Element → List Single
lenient_members es = flat_map lenient_member es

-- the members of a group in a list with these bytes, read leniently: a name may join them, as it does elements
abbrev pub refined_members : List ℕ → List Single → List Single
refined_members raw members = lenient_members (joined raw (map single members))

-- bytes contain an `@` and no pair of angle brackets outside of quotes and comments
abbrev pub has_bare_address : List ℕ → Bool
has_bare_address bytes =
    begins (λ b. b == at_sign) (drop (run BeforeAt bytes) bytes) && not (is_enclosed (front_token (drop (run BeforeAngle bytes) bytes)).kind)

-- the bytes are a group without its semicolon: a phrase, a colon, and nothing or addresses without angle brackets
unfoldable pub is_open_group : List ℕ → Bool
is_open_group bytes =
    begins (λ b. b == colon) (drop (name_len bytes) bytes)
    && (is_phrase (take (name_len bytes) bytes) && (is_all_white (after_name bytes) || has_bare_address (after_name bytes)))

-- that group in a list with the bytes `raw`
unfoldable pub open_group : List ℕ → ℕ → List ℕ → Group
open_group raw start bytes = record {
  start = start;
  text = bytes;
  display_name = take (name_len bytes) bytes;
  members = refined_members raw (members_at (start + suc (name_len bytes)) (after_name bytes));
}

-- the element at an offset with this text, of which the grammar makes this mailbox or none, in a list with the bytes `raw`
abbrev pub refined_element : List ℕ → ℕ → List ℕ → Option Parts → Element
refined_element raw start text (Some m) = single (refined_as start text (Some m))
refined_element raw start text None =
    if is_open_group text then group (open_group raw start text) else single (refined_as start text None)

-- an element of a list with these bytes, read leniently
abbrev pub refined : List ℕ → Element → Element
refined raw (single s) = refined_element raw s.start s.text s.mailbox
refined raw (group g) =
    group (record { start = g.start; text = g.text; display_name = g.display_name; members = refined_members raw g.members })

-- ---- Several addresses in one element.

-- the length of the bytes up to the end of the first pair of angle brackets
unfoldable pub angle_end : List ℕ → ℕ
angle_end bytes =
    let angle = run BeforeAngle bytes in
    angle + (front_token (drop angle bytes)).len

-- the length of the bytes up to the first `@`, and of that
unfoldable pub at_end : List ℕ → ℕ
at_end bytes = suc (run BeforeAt bytes)

-- the length of the bytes up to the end of the first word with an `@`
unfoldable pub word_end : List ℕ → ℕ
word_end bytes = at_end bytes + run BeforeWhite (drop (at_end bytes) bytes)

-- the length of the bytes up to the end of the first address, with angle brackets or without
abbrev pub address_end : Bool → List ℕ → ℕ
address_end true bytes = angle_end bytes
address_end false bytes = word_end bytes

-- that length with the whitespace and comments after the address
unfoldable pub several_len : Bool → List ℕ → ℕ
several_len angles bytes =
    let len = address_end angles bytes in
    min (len + run White (drop len bytes)) (length bytes)

-- that length if the first address is a mailbox, or 0
unfoldable pub known_len : Bool → List ℕ → ℕ
known_len angles bytes =
    let len = several_len angles bytes in
    if is_some (lenient_mailbox (take len bytes)) then len else 0

-- the bytes are addresses with nothing between them, and contain no `=?`, since brackets in an encoded word enclose no address
unfoldable pub are_several : List ℕ → Bool
are_several text = is_none (text_place text (codes "=?")) && far (known_len (has_brackets text)) text == length text

-- the first of them
unfoldable pub several_at : Bool → ℕ → List ℕ → List Element
several_at angles start bytes = single (refined_as start (take (several_len angles bytes) bytes) None) ∷ []

-- the elements that they are
unfoldable pub several : ℕ → List ℕ → List Element
several start text = items (several_at (has_brackets text)) (several_len (has_brackets text)) start text

-- the elements that an element at an offset with this text is, which was read as this mailbox or none
abbrev pub parted_as : ℕ → List ℕ → Option Parts → List Element
parted_as start text (Some m) = single (record { start = start; text = text; mailbox = Some m }) ∷ []
parted_as start text None =
    if are_several text then several start text else single (record { start = start; text = text; mailbox = None }) ∷ []

-- the elements that an element is, if one without members is these
abbrev pub divided : (ℕ → List ℕ → Option Parts → List Element) → Element → List Element
divided make (single s) = make s.start s.text s.mailbox
divided make (group g) = group g ∷ []

-- the elements that an element is: several if it is not read as one
abbrev pub parted : Element → List Element
parted e = divided parted_as e

-- ---- Elements in a comment that is not closed.

-- the offset of the first separator, or the length
abbrev pub separator_place : List ℕ → ℕ
separator_place bytes = prefix_len (λ b. not (is_separator b)) bytes

-- a text ends in a comment that is not closed, and that has no `<` in it
unfoldable pub has_open_comment : List ℕ → Bool
has_open_comment text =
    let tail = drop (far closed_len text) text in
    not (is_empty tail) && has_no_opening tail

-- the length of such a text up to the first separator in its comment
unfoldable pub opened_len : List ℕ → ℕ
opened_len text =
    let len = far closed_len text in
    len + separator_place (drop len text)

-- the length of the bytes up to a separator, and of the separator
unfoldable pub piece_len : List ℕ → ℕ
piece_len bytes = min (suc (separator_place bytes)) (length bytes)

-- the element before the separator, if there is one
unfoldable pub piece_at : ℕ → List ℕ → List Element
piece_at start bytes = map single (single_at start (take (separator_place bytes) bytes))

-- the elements that such a text is: the first separator in its comment ends the first, and each separator after it ends one
unfoldable pub opened : ℕ → List ℕ → List Element
opened start text =
    let len = opened_len text in
    let after = min (suc len) (length text) in
    map single (single_at start (take len text)) ++ items piece_at piece_len (start + after) (drop after text)

-- the elements that an element at an offset with this text is, of which the grammar makes this mailbox or none
abbrev pub opened_as : ℕ → List ℕ → Option Parts → List Element
opened_as start text (Some m) = single (record { start = start; text = text; mailbox = Some m }) ∷ []
opened_as start text None =
    if has_open_comment text then opened start text else single (record { start = start; text = text; mailbox = None }) ∷ []

-- the elements that an element is: several if a comment is not closed
abbrev pub reopened : Element → List Element
reopened e = divided opened_as e

-- ---- Lists.

-- the elements that an element by the grammar is, in a list with these bytes, read leniently
abbrev pub lenient_element : List ℕ → Element → List Element
lenient_element raw e = flat_map parted (map (refined raw) (reopened e))

-- so those that elements are
abbrev pub lenient_elements : List ℕ → List Element → List Element
lenient_elements raw es = flat_map (lenient_element raw) es

-- the elements of a list
abbrev pub lenient_addresses : List ℕ → List Element
lenient_addresses raw = lenient_elements raw (joined raw (addresses raw))

-- the elements in the values of some headers, in order
abbrev pub lenient_addresses_in : List Header → List Element
lenient_addresses_in headers = flat_map (λ h. lenient_addresses h.value) headers

-- the elements in all headers with this name, in the order of the mail
unfoldable pub lenient_addresses_of : List ℕ → List Header → List Element
lenient_addresses_of name headers = lenient_addresses_in (all_with_key name headers)

-- the sender of a mail: the only mailbox of its `Sender`, or else that of its `From`
unfoldable pub lenient_sender_of : List Header → Option Single
lenient_sender_of headers =
    option_or (only_mailbox (lenient_addresses_of (codes "Sender") headers)) (only_mailbox (lenient_addresses_of (codes "From") headers))

-- an element without members is a mailbox by the grammar, with a display name or without a comment that could be one
abbrev pub IsComplete : Single → Type 0
IsComplete s = (m : Parts) × ((s.mailbox ≡ Some m) × (is_named_in_comment s.text m ≡ false))
