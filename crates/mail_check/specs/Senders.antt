-- Senders as all programs read them (RFC 5322, section 3.4, without comments, groups and obsolete forms); this crate's own words.
use Rattle.std.specs.Prelude.{ℕ, Bool, true, false, ◌&&◌, ◌||◌, not, ◌==◌, nat_lt, List, [], ◌∷◌, is_some, codes, if◌then◌else◌}
use Rattle.std.specs.Char.{is_ascii_alphanumeric}
use Rattle.mail_codec.specs.Ascii.{backslash, carriage_return, greater_than, is_blank, less_than, line_feed, quote, space, tilde}
use Rattle.mail_codec.specs.Places.{byte_place}
use Rattle.mail_check.specs.Bytes.{is_control}
use Rattle.mail_check.specs.Lines.{HeaderLine, is_named}
use Rattle.mail_check.specs.declared.senders.SenderState.{SenderState}
use Rattle.mail_check.specs.declared.senders.SenderState.TheVariants.{Front, FrontReturn, FrontFeed, FrontFold, Atom, Dot, Word, Gap, GapReturn, GapFeed, GapFold, Quoted, Escaped, LocalStart, Local, DomainStart, Label, Hyphen, BareStart, BareLabel, BareHyphen, End, Wrong}

-- a character of an atom (RFC 5322, section 3.2.3)
abbrev pub is_atom : ℕ → Bool
is_atom b = is_ascii_alphanumeric b || is_some (byte_place (codes "!#$%&'*+-/=?^_`{|}~") b)

abbrev pub full_stop : ℕ
full_stop = 46

abbrev pub hyphen : ℕ
hyphen = 45

abbrev pub at_sign : ℕ
at_sign = 64

-- a printable character of ASCII
abbrev pub is_printable : ℕ → Bool
is_printable b = not (nat_lt b space) && not (nat_lt tilde b)

-- a word, a text in quotes or an address in angle brackets begins
abbrev pub after_gap : SenderState → ℕ → SenderState
after_gap word b =
    if is_atom b then word else (if b == quote then Quoted else (if b == less_than then LocalStart else Wrong))

-- the same, or a blank or a line end before it
abbrev pub after_word : ℕ → SenderState
after_word b =
    if is_blank b then Gap else (if b == line_feed then GapFeed else
    (if b == carriage_return then GapReturn else after_gap Word b))

-- in a label of a domain, and after a hyphen of it
abbrev pub after_hyphen : SenderState → SenderState → ℕ → SenderState
after_hyphen label hyphens b = if is_ascii_alphanumeric b then label else (if b == hyphen then hyphens else Wrong)

-- The state after one more byte. An address may be by itself, or in angle brackets after words and texts in quotes, between which
-- there may be blanks and one fold. Its local part is atoms with dots between them, its domain labels with dots between them.
abbrev pub after_sender_byte : SenderState → ℕ → SenderState
after_sender_byte Front b =
    if is_blank b then Front else (if b == line_feed then FrontFeed else
    (if b == carriage_return then FrontReturn else after_gap Atom b))
after_sender_byte FrontReturn b = if b == line_feed then FrontFeed else Wrong
after_sender_byte FrontFeed b = if is_blank b then FrontFold else Wrong
after_sender_byte FrontFold b = if is_blank b then FrontFold else after_gap Atom b
after_sender_byte Atom b =
    if b == full_stop then Dot else (if b == at_sign then BareStart else (if is_atom b then Atom else after_word b))
after_sender_byte Dot b = if b == full_stop then Word else (if is_atom b then Atom else after_word b)
after_sender_byte Word b = if b == full_stop then Word else after_word b
after_sender_byte Gap b = after_word b
after_sender_byte GapReturn b = if b == line_feed then GapFeed else Wrong
after_sender_byte GapFeed b = if is_blank b then GapFold else Wrong
after_sender_byte GapFold b = if is_blank b then GapFold else after_gap Word b
after_sender_byte Quoted b =
    if b == quote then Gap else (if b == backslash then Escaped else (if is_control b then Wrong else Quoted))
after_sender_byte Escaped b = if is_printable b then Quoted else Wrong
after_sender_byte LocalStart b = if is_atom b then Local else Wrong
after_sender_byte Local b =
    if is_atom b then Local else (if b == full_stop then LocalStart else (if b == at_sign then DomainStart else Wrong))
after_sender_byte DomainStart b = if is_ascii_alphanumeric b then Label else Wrong
after_sender_byte Label b =
    if b == full_stop then DomainStart else (if b == greater_than then End else after_hyphen Label Hyphen b)
after_sender_byte Hyphen b = after_hyphen Label Hyphen b
after_sender_byte BareStart b = if is_ascii_alphanumeric b then BareLabel else Wrong
after_sender_byte BareLabel b = if b == full_stop then BareStart else after_hyphen BareLabel BareHyphen b
after_sender_byte BareHyphen b = after_hyphen BareLabel BareHyphen b
after_sender_byte End b = Wrong
after_sender_byte Wrong b = Wrong

-- the state after some bytes
abbrev pub after_sender_bytes : SenderState → List ℕ → SenderState
after_sender_bytes state [] = state
after_sender_bytes state (b ∷ bytes) = after_sender_bytes (after_sender_byte state b) bytes

-- a sender may end in this state
abbrev pub is_address_end : SenderState → Bool
is_address_end End = true
is_address_end BareLabel = true
is_address_end _ = false

-- the bytes are one address, or a plain name and one in angle brackets
unfoldable pub is_plain_sender : List ℕ → Bool
is_plain_sender bytes = is_address_end (after_sender_bytes Front bytes)

-- a header names senders in another form
abbrev pub is_bad_sender : HeaderLine → Bool
is_bad_sender line = is_named (codes "From") line && not (is_plain_sender line.value)
