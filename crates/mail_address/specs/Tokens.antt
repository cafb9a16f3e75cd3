-- The tokens of addresses: RFC 5322, sections 3.2 and 4.4, over bytes whose encoded words are not decoded; a byte from 128 on
-- belongs to an atom (RFC 6532, section 3.2).
use Rattle.std.specs.Prelude.{ℕ, zero, suc, ◌+◌, ◌-◌, Bool, true, false, not, ◌&&◌, ◌||◌, ◌==◌, nat_lt, min, List, [], ◌∷◌, length, drop, if◌then◌else◌}
use Rattle.std.specs.List.{prefix_len}
use Rattle.mail_codec.specs.Ascii.{tab, line_feed, carriage_return, space, quote, opening_parenthesis, closing_parenthesis, comma, colon, semicolon, less_than, greater_than, backslash}
use Rattle.mail_codec.specs.Places.{begins, is_empty}
use Rattle.mail_address.specs.declared.tokens.Kind.{Kind}
use Rattle.mail_address.specs.declared.tokens.Kind.TheVariants.{Blank, Comment, Atom, Quoted, Literal, Angle, Dot, At, Comma, Semicolon, Colon, Opening, Closing, Other}
use Rattle.mail_address.specs.declared.tokens.Span.{Span}
use Rattle.mail_address.specs.declared.tokens.Span.TheVariants.{White, Phrase, Word, Atoms, Literals, BeforeAt, BeforeColon, BeforeComma, BeforeSeparator, BeforeDelimiter, InGroup, Dots, BeforeWhite, BeforeAngle, BeforeOpening, AfterAngle}
use Rattle.mail_address.specs.declared.tokens.Token.{Token}

-- ---- Bytes.

abbrev pub dot : ℕ
dot = 46

abbrev pub at_sign : ℕ
at_sign = 64

abbrev pub opening_bracket : ℕ
opening_bracket = 91

abbrev pub closing_bracket : ℕ
closing_bracket = 93

abbrev pub delete : ℕ
delete = 127

-- a space, a tab, a CR or a LF
abbrev pub is_white : ℕ → Bool
is_white b = b == space || b == tab || b == carriage_return || b == line_feed

-- a special byte (specials in RFC 5322, section 3.2.3)
abbrev pub is_special : ℕ → Bool
is_special b =
    b == quote || b == opening_parenthesis || b == closing_parenthesis || b == comma || b == dot || b == colon || b == semicolon
    || b == less_than || b == greater_than || b == at_sign || b == opening_bracket || b == closing_bracket || b == backslash

-- a byte of an atom: visible and not special
unfoldable pub is_atom_byte : ℕ → Bool
is_atom_byte b = nat_lt space b && not (b == delete) && not (is_special b)

-- ---- Where something closes.

-- how many comments are open after a byte, if `depth` are open before it: a quoted byte neither opens nor closes one
abbrev pub depth_after : Bool → ℕ → ℕ → ℕ
depth_after quoted depth b =
    if quoted then depth else
    if b == opening_parenthesis then suc depth else
    if b == closing_parenthesis then depth - 1 else depth

-- a byte closes the outermost comment
abbrev pub closes_comment : Bool → ℕ → ℕ → Bool
closes_comment quoted depth b = not quoted && (b == closing_parenthesis && depth == 0)

-- the offset of the `)` that closes a comment, or the length if none does: `depth` comments are open within it, and the first
-- byte is quoted or not
abbrev pub comment_place : Bool → ℕ → List ℕ → ℕ
comment_place quoted depth [] = 0
comment_place quoted depth (b ∷ rest) =
    if closes_comment quoted depth b then 0
    else suc (comment_place (not quoted && b == backslash) (depth_after quoted depth b) rest)

-- the offset of the first unquoted byte that is one of two, or the length if there is none
abbrev pub unquoted_place : ℕ → ℕ → Bool → List ℕ → ℕ
unquoted_place one other quoted [] = 0
unquoted_place one other quoted (b ∷ rest) =
    if not quoted && (b == one || b == other) then 0
    else suc (unquoted_place one other (not quoted && b == backslash) rest)

-- ---- Tokens.

-- the comment that a `(` before these bytes opens; an unclosed one extends to the end and is not a comment
unfoldable pub comment_token : List ℕ → Token
comment_token rest =
    let n = comment_place false 0 rest in
    if nat_lt n (length rest) then record { kind = Comment; len = n + 2 } else record { kind = Other; len = n + 1 }

-- the quoted string that a `"` before these bytes opens; if it is not closed, the byte alone
unfoldable pub quoted_token : List ℕ → Token
quoted_token rest =
    let n = unquoted_place quote quote false rest in
    if nat_lt n (length rest) then record { kind = Quoted; len = n + 2 } else record { kind = Other; len = 1 }

-- the domain literal that a `[` before these bytes opens; if it is not closed before the next `[`, the byte alone
unfoldable pub literal_token : List ℕ → Token
literal_token rest =
    let n = unquoted_place opening_bracket closing_bracket false rest in
    if begins (λ b. b == closing_bracket) (drop n rest) then record { kind = Literal; len = n + 2 } else record { kind = Other; len = 1 }

-- the kind of a token of one byte
unfoldable pub single_kind : ℕ → Kind
single_kind b =
    if b == dot then Dot else
    if b == at_sign then At else
    if b == comma then Comma else
    if b == semicolon then Semicolon else
    if b == colon then Colon else
    if b == less_than then Opening else
    if b == greater_than then Closing else Other

-- the token at the front, with each angle bracket as a token of its own; a backslash outside of quotes takes the byte after it
abbrev pub plain_token : List ℕ → Token
plain_token [] = record { kind = Other; len = 0 }
plain_token (b ∷ rest) =
    if is_white b then record { kind = Blank; len = 1 + prefix_len is_white rest } else
    if is_atom_byte b then record { kind = Atom; len = 1 + prefix_len is_atom_byte rest } else
    if b == opening_parenthesis then comment_token rest else
    if b == quote then quoted_token rest else
    if b == opening_bracket then literal_token rest else
    if b == backslash then record { kind = Other; len = min 2 (1 + length rest) }
    else record { kind = single_kind b; len = 1 }

-- how many bytes at the front a repeated step takes, until it takes none
abbrev pub far_within : (List ℕ → ℕ) → ℕ → List ℕ → ℕ
far_within step zero bytes = 0
far_within step (suc most) bytes =
    if is_empty bytes || step bytes == 0 then 0 else step bytes + far_within step most (drop (step bytes) bytes)

unfoldable pub far : (List ℕ → ℕ) → List ℕ → ℕ
far step bytes = far_within step (length bytes) bytes

-- an angle bracket
abbrev pub is_angle : Kind → Bool
is_angle Opening = true
is_angle Closing = true
is_angle _ = false

-- the length of a token that is not an angle bracket
abbrev pub angle_step : List ℕ → ℕ
angle_step bytes = if is_angle (plain_token bytes).kind then 0 else (plain_token bytes).len

-- the offset of the first angle bracket
abbrev pub angle_place : List ℕ → ℕ
angle_place bytes = far angle_step bytes

-- the token that a `<` before these bytes opens: up to its `>`, if that is the next angle bracket
unfoldable pub angle_token : List ℕ → Token
angle_token rest =
    let n = angle_place rest in
    if begins (λ b. b == greater_than) (drop n rest) then record { kind = Angle; len = n + 2 } else record { kind = Opening; len = 1 }

-- the token at the front
unfoldable pub front_token : List ℕ → Token
front_token bytes = if begins (λ b. b == less_than) bytes then angle_token (drop 1 bytes) else plain_token bytes

-- ---- Runs of tokens.

-- the kinds of tokens that a run may have
abbrev pub is_in : Span → Kind → Bool
is_in White Blank = true
is_in White Comment = true
is_in White _ = false
is_in Phrase Blank = true
is_in Phrase Comment = true
is_in Phrase Atom = true
is_in Phrase Quoted = true
is_in Phrase Dot = true
is_in Phrase _ = false
is_in Word Atom = true
is_in Word Quoted = true
is_in Word _ = false
is_in Atoms Atom = true
is_in Atoms _ = false
is_in Literals Literal = true
is_in Literals _ = false
is_in BeforeAt At = false
is_in BeforeAt _ = true
is_in BeforeColon Colon = false
is_in BeforeColon _ = true
is_in BeforeComma Comma = false
is_in BeforeComma _ = true
is_in BeforeSeparator Comma = false
is_in BeforeSeparator Semicolon = false
is_in BeforeSeparator _ = true
is_in BeforeDelimiter Comma = false
is_in BeforeDelimiter Semicolon = false
is_in BeforeDelimiter Colon = false
is_in BeforeDelimiter _ = true
is_in InGroup Semicolon = false
is_in InGroup Colon = false
is_in InGroup _ = true
is_in Dots Atom = true
is_in Dots Dot = true
is_in Dots _ = false
is_in BeforeWhite Blank = false
is_in BeforeWhite Comment = false
is_in BeforeWhite Angle = false
is_in BeforeWhite _ = true
is_in BeforeAngle Angle = false
is_in BeforeAngle _ = true
is_in BeforeOpening Opening = false
is_in BeforeOpening Angle = false
is_in BeforeOpening _ = true
is_in AfterAngle Blank = true
is_in AfterAngle Comment = true
is_in AfterAngle Closing = true
is_in AfterAngle _ = false

-- the length of the token at the front, if the run may have it
unfoldable pub step : Span → List ℕ → ℕ
step span bytes = if is_in span (front_token bytes).kind then (front_token bytes).len else 0

-- the length of the run of such tokens at the front
abbrev pub run : Span → List ℕ → ℕ
run span bytes = far (step span) bytes

-- the bytes are only whitespace and comments (CFWS in RFC 5322, section 3.2.2), or empty
unfoldable pub is_all_white : List ℕ → Bool
is_all_white bytes = run White bytes == length bytes
