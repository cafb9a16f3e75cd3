-- The names of findings, their classes and their sentences; this crate's own words.
use Rattle.std.specs.Prelude.{ℕ, List, codes}
use Rattle.mail_check.specs.declared.names.Class.{Class}
use Rattle.mail_check.specs.declared.names.Class.TheVariants as class
use Rattle.mail_check.specs.declared.names.Name.{Name}
use Rattle.mail_check.specs.declared.names.Name.TheVariants as name

-- the text of a name
abbrev pub text_of : Name → List ℕ
text_of name.Nul = codes "nul"
text_of name.LoneCr = codes "lone-cr"
text_of name.MixedLineEnds = codes "mixed-line-ends"
text_of name.LongLine = codes "long-line"
text_of name.Many = codes "many"
text_of name.NoHeaders = codes "no-headers"
text_of name.NoBlankLine = codes "no-blank-line"
text_of name.BadKey = codes "bad-key"
text_of name.BlankFold = codes "blank-fold"
text_of name.CommentFold = codes "comment-fold"
text_of name.Header8bit = codes "header-8bit"
text_of name.Duplicate = codes "duplicate"
text_of name.TypeSyntax = codes "type-syntax"
text_of name.DuplicateParameter = codes "duplicate-parameter"
text_of name.QuotedSpecial = codes "quoted-special"
text_of name.QuotedPair = codes "quoted-pair"
text_of name.ExtendedParameter = codes "extended-parameter"
text_of name.TypeExtended = codes "type-extended"
text_of name.WordParameter = codes "word-parameter"
text_of name.TypeWord = codes "type-word"
text_of name.NoType = codes "no-type"
text_of name.TwoNames = codes "two-names"
text_of name.UnsafeName = codes "unsafe-name"
text_of name.FromSyntax = codes "from-syntax"
text_of name.WordSyntax = codes "word-syntax"
text_of name.WordJoin = codes "word-join"
text_of name.WordBytes = codes "word-bytes"
text_of name.NameAddress = codes "name-address"
text_of name.EncodingSyntax = codes "encoding-syntax"
text_of name.EncodingOnComposite = codes "encoding-on-composite"
text_of name.OtherMessage = codes "other-message"
text_of name.BadBoundary = codes "bad-boundary"
text_of name.Preamble = codes "preamble"
text_of name.NoDelimiter = codes "no-delimiter"
text_of name.DelimiterInside = codes "delimiter-inside"
text_of name.DelimiterTail = codes "delimiter-tail"
text_of name.NoClose = codes "no-close"
text_of name.LateDelimiter = codes "late-delimiter"
text_of name.Base64Syntax = codes "base64-syntax"
text_of name.Base64Bits = codes "base64-bits"
text_of name.QpSyntax = codes "qp-syntax"
text_of name.QpBlank = codes "qp-blank"
text_of name.EightBitBody = codes "8bit-body"
text_of name.Uuencode = codes "uuencode"
text_of name.Charset = codes "charset"
text_of name.Refused = codes "refused"

-- the text of a class
abbrev pub class_text : Class → List ℕ
class_text class.Structure = codes "structure"
class_text class.Bytes = codes "bytes"
class_text class.Name = codes "name"
class_text class.Text = codes "text"
class_text class.Note = codes "note"

-- the class of a name
abbrev pub class_of : Name → Class
class_of name.Nul = class.Structure
class_of name.LoneCr = class.Structure
class_of name.MixedLineEnds = class.Structure
class_of name.LongLine = class.Note
class_of name.Many = class.Structure
class_of name.NoHeaders = class.Structure
class_of name.NoBlankLine = class.Structure
class_of name.BadKey = class.Structure
class_of name.BlankFold = class.Structure
class_of name.CommentFold = class.Structure
class_of name.Header8bit = class.Name
class_of name.Duplicate = class.Structure
class_of name.TypeSyntax = class.Structure
class_of name.DuplicateParameter = class.Structure
class_of name.QuotedSpecial = class.Name
class_of name.QuotedPair = class.Name
class_of name.ExtendedParameter = class.Name
class_of name.TypeExtended = class.Structure
class_of name.WordParameter = class.Name
class_of name.TypeWord = class.Structure
class_of name.NoType = class.Name
class_of name.TwoNames = class.Name
class_of name.UnsafeName = class.Note
class_of name.FromSyntax = class.Name
class_of name.WordSyntax = class.Name
class_of name.WordJoin = class.Name
class_of name.WordBytes = class.Name
class_of name.NameAddress = class.Name
class_of name.EncodingSyntax = class.Bytes
class_of name.EncodingOnComposite = class.Structure
class_of name.OtherMessage = class.Structure
class_of name.BadBoundary = class.Structure
class_of name.Preamble = class.Structure
class_of name.NoDelimiter = class.Structure
class_of name.DelimiterInside = class.Structure
class_of name.DelimiterTail = class.Structure
class_of name.NoClose = class.Structure
class_of name.LateDelimiter = class.Structure
class_of name.Base64Syntax = class.Bytes
class_of name.Base64Bits = class.Note
class_of name.QpSyntax = class.Bytes
class_of name.QpBlank = class.Bytes
class_of name.EightBitBody = class.Note
class_of name.Uuencode = class.Note
class_of name.Charset = class.Text
class_of name.Refused = class.Structure

-- the sentence of a name
abbrev pub sentence_of : Name → List ℕ
sentence_of name.Nul = codes "The mail contains a NUL byte: readers in C may end the line or the mail there."
sentence_of name.LoneCr = codes "A CR has no LF after it: some readers end the line there."
sentence_of name.MixedLineEnds = codes "A line end is not like the first one of the mail: some readers end lines at CR LF alone."
sentence_of name.LongLine = codes "A line has more than 998 bytes: mail servers may cut or fold it."
sentence_of name.Many = codes "The part is nested 10 levels deep or has 100 messages and parts before it: readers have limits."
sentence_of name.NoHeaders = codes "The message has no headers: what follows may be read as headers, or its empty lines be lost."
sentence_of name.NoBlankLine = codes "The headers end with their part, without an empty line: readers differ in where the body begins."
sentence_of name.BadKey = codes "The header has no colon, two of them, or a name with other characters than printable ASCII: some readers end the headers there."
sentence_of name.BlankFold = codes "A line that continues the header has only spaces and tabs: some readers end the headers there."
sentence_of name.CommentFold = codes "A closing parenthesis precedes a folding of the addresses or ids: some readers end the headers there."
sentence_of name.Header8bit = codes "The value of the header has bytes that are not ASCII: readers guess the charset, or remove them."
sentence_of name.Duplicate = codes "The header is the second of a name that may occur once: readers take the first or the last."
sentence_of name.TypeSyntax = codes "The type or disposition is not of the plain syntax that all readers know: they read other types, names or parameters."
sentence_of name.DuplicateParameter = codes "A parameter occurs twice in the header: readers take the first or the last."
sentence_of name.QuotedSpecial = codes "A parameter in quotes has a semicolon, a tab, a line end or spaces at its ends: readers cut it off or remove them."
sentence_of name.QuotedPair = codes "A parameter has a backslash: readers remove it or take it for a part of the value."
sentence_of name.ExtendedParameter = codes "A parameter has an asterisk in its name: some readers do not join or decode it."
sentence_of name.TypeExtended = codes "A parameter of the type has an asterisk in its name: some readers do not join or decode it, and read another boundary or charset."
sentence_of name.WordParameter = codes "A parameter has an encoded word: some readers decode it, others do not."
sentence_of name.TypeWord = codes "A parameter of the type has an encoded word: some readers decode it, and read another boundary or charset."
sentence_of name.NoType = codes "The part has a file name and no type: some readers read no name then."
sentence_of name.TwoNames = codes "The part has two file names that differ, or a parameter of the other header: readers take one or the other."
sentence_of name.UnsafeName = codes "The name of the file has a slash, a colon, a control character or one that changes the direction of text, or a dot or blank at an end."
sentence_of name.FromSyntax = codes "The sender is not one address, or a plain name and one in angle brackets: readers take another address, or none."
sentence_of name.WordSyntax = codes "An encoded word is not of the plain syntax that all readers know: some decode it, others show it as it is written."
sentence_of name.WordJoin = codes "A Base64 word with padding is before one in the same charset: some readers join their letters before they decode them."
sentence_of name.WordBytes = codes "An encoded word has an unknown charset, bytes that its charset lacks, or control characters: readers show different texts."
sentence_of name.NameAddress = codes "The name of a sender has an at sign or hides a character of addresses in an encoded word: readers take another address."
sentence_of name.EncodingSyntax = codes "The transfer encoding is not exactly one of the five names: some readers decode the body, others do not."
sentence_of name.EncodingOnComposite = codes "A multipart or a message is in base64 or quoted-printable: some readers decode it before they split it."
sentence_of name.OtherMessage = codes "The type begins with message/ but is not one that all readers know: some read a mail in it."
sentence_of name.BadBoundary = codes "A multipart has no boundary of 1 to 70 allowed characters, or another type has a boundary: readers split it or not."
sentence_of name.Preamble = codes "The text before the first delimiter has a colon: some readers take it for a part with headers."
sentence_of name.NoDelimiter = codes "The multipart has no part: readers show its text, or nothing."
sentence_of name.DelimiterInside = codes "The dash-boundary occurs within a line: some readers take it for a delimiter."
sentence_of name.DelimiterTail = codes "A line begins with the dash-boundary and goes on: some readers take it for a delimiter."
sentence_of name.NoClose = codes "The multipart has no close-delimiter: readers differ in where its last part ends, or refuse it."
sentence_of name.LateDelimiter = codes "A delimiter follows the close-delimiter, or that comes first: readers differ in whether parts begin there."
sentence_of name.Base64Syntax = codes "The Base64 is not lines of whole groups with padding at the end alone: readers stop, skip or go on."
sentence_of name.Base64Bits = codes "The last letter of the Base64 before its padding has bits that make no byte and are not 0: they may hide data."
sentence_of name.QpSyntax = codes "An equals sign begins no escape in upper case and no soft line break, or a control character occurs: readers keep or drop it."
sentence_of name.QpBlank = codes "Blanks end a line of quoted-printable, a soft line break ends the body, or a line end is escaped: readers keep or drop it."
sentence_of name.EightBitBody = codes "A body in 7bit or quoted-printable has bytes that are not ASCII."
sentence_of name.Uuencode = codes "A line of the text begins a file in uuencode or yEnc: some programs take the file out of the text."
sentence_of name.Charset = codes "The text has an unknown charset, bytes that its charset lacks, a NUL or a byte order mark: readers show different texts."
sentence_of name.Refused = codes "The mail in the part cannot be read as a mail: other programs read something in it."
