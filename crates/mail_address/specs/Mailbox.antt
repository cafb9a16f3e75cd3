-- One mailbox: RFC 5322, sections 3.4 and 4.4.
use Rattle.std.specs.Prelude.{ℕ, suc, ◌+◌, ◌-◌, Bool, true, false, not, ◌&&◌, ◌||◌, ◌==◌, min, List, [], length, take, drop, Option, Some, None, if◌then◌else◌}
use Rattle.mail_codec.specs.Ascii.{colon}
use Rattle.mail_codec.specs.Places.{begins}
use Rattle.mail_address.specs.declared.tokens.Kind.{Kind}
use Rattle.mail_address.specs.declared.tokens.Kind.TheVariants.{Angle, Blank, Comment, Literal, Quoted}
use Rattle.mail_address.specs.declared.tokens.Span.{Span}
use Rattle.mail_address.specs.declared.tokens.Span.TheVariants.{White, Phrase, Word, Atoms, Literals, BeforeAt, BeforeColon, BeforeComma}
use Rattle.mail_address.specs.Folding.{has_no_control, unfolded, without_white}
use Rattle.mail_address.specs.Tokens.{at_sign, dot, far, is_all_white, is_in, run, step, front_token}

-- the length of the word at the front, with the whitespace and comments around it, or 0 if there is none
unfoldable pub word_len : Span → List ℕ → ℕ
word_len span text =
    let white = run White text in
    let len = step span (drop white text) in
    if len == 0 then 0 else white + len + run White (drop (white + len) text)

-- the length of a dot and the word after it
unfoldable pub dot_word_len : Span → List ℕ → ℕ
dot_word_len span text =
    let len = word_len span (drop 1 text) in
    if begins (λ b. b == dot) text && not (len == 0) then 1 + len else 0

-- the bytes are one word
unfoldable pub is_word : Span → List ℕ → Bool
is_word span text = not (word_len span text == 0) && word_len span text == length text

-- the bytes are words separated by dots
unfoldable pub is_dotted : Span → List ℕ → Bool
is_dotted span text =
    let len = word_len span text in
    not (len == 0) && len + far (dot_word_len span) (drop len text) == length text

-- a local part (local-part and obs-local-part in RFC 5322)
abbrev pub is_local_part : List ℕ → Bool
is_local_part text = is_dotted Word text

-- a domain (domain and obs-domain)
unfoldable pub is_domain : List ℕ → Bool
is_domain text = is_dotted Atoms text || is_word Literals text

-- the bytes after the whitespace and comments at the front
unfoldable pub after_white : List ℕ → List ℕ
after_white text = drop (run White text) text

-- one stop of a route: an `@` and a domain, or nothing
unfoldable pub is_stop : List ℕ → Bool
is_stop text =
    is_all_white text || (begins (λ b. b == at_sign) (after_white text) && is_domain (drop 1 (after_white text)))

-- the length of a stop and the comma after it
unfoldable pub stop_len : List ℕ → ℕ
stop_len text =
    let len = run BeforeComma text in
    if is_stop (take len text) then min (suc len) (length text) else 0

-- the bytes are a route (obs-domain-list): stops separated by commas, the first with a domain
unfoldable pub is_route : List ℕ → Bool
is_route text = begins (λ b. b == at_sign) (after_white text) && far stop_len text == length text

-- the bytes after the route and its colon (obs-route), or all bytes if there is no route
unfoldable pub after_route : List ℕ → List ℕ
after_route text =
    let len = run BeforeColon text in
    if begins (λ b. b == colon) (drop len text) && is_route (take len text) then drop (suc len) text else text

-- a phrase (phrase and obs-phrase): words, and dots after the first word
unfoldable pub is_phrase : List ℕ → Bool
is_phrase text = is_in Word (front_token (after_white text)).kind && run Phrase text == length text

-- a token of an address without control characters, but for folding in a quoted string, and whitespace in a domain literal
abbrev pub is_clean_token : Kind → List ℕ → Bool
is_clean_token Blank text = true
is_clean_token Comment text = true
is_clean_token Quoted text = has_no_control (unfolded text)
is_clean_token Literal text = has_no_control (without_white false text)
is_clean_token _ text = has_no_control text

-- the length of the token at the front, if it is such a token
unfoldable pub clean_len : List ℕ → ℕ
clean_len bytes =
    let token = front_token bytes in
    if is_clean_token token.kind (take token.len bytes) then token.len else 0

-- the bytes are such tokens
unfoldable pub is_clean : List ℕ → Bool
is_clean bytes = far clean_len bytes == length bytes

-- a local part and a domain of such tokens
abbrev pub are_clean : List ℕ → List ℕ → Bool
are_clean local_part domain = is_clean local_part && is_clean domain

-- the parts of a mailbox, as they are written: its display name, its local part and its domain
pub record Parts : Type 0 where
  pub display_name : List ℕ
  pub local_part : List ℕ
  pub domain : List ℕ

-- the mailbox of an address (addr-spec): a local part, an `@` and a domain, without control characters
unfoldable pub spec_mailbox : List ℕ → List ℕ → Option Parts
spec_mailbox name text =
    let len = run BeforeAt text in
    let domain = drop (suc len) text in
    if begins (λ b. b == at_sign) (drop len text)
    && (is_local_part (take len text) && is_domain domain && are_clean (take len text) domain)
    then Some (record { display_name = name; local_part = take len text; domain = domain }) else None

-- a pair of angle brackets with bytes between them
abbrev pub is_enclosed : Kind → Bool
is_enclosed Angle = true
is_enclosed _ = false

-- the bytes without the first and the last one
abbrev pub within_ends : List ℕ → List ℕ
within_ends text = take (length text - 2) (drop 1 text)

-- the mailbox of a name, perhaps an empty one, and an address in angle brackets
unfoldable pub named_mailbox : List ℕ → List ℕ → Option Parts
named_mailbox name rest =
    let len = (front_token rest).len in
    if (is_all_white name || is_phrase name) && is_all_white (drop len rest)
    then spec_mailbox name (after_route (within_ends (take len rest))) else None

-- the mailbox that a text is, if it is one (mailbox in RFC 5322)
unfoldable pub mailbox_of : List ℕ → Option Parts
mailbox_of text =
    let len = run Phrase text in
    if is_enclosed (front_token (drop len text)).kind then named_mailbox (take len text) (drop len text) else spec_mailbox [] text
