-- The findings of a mail: where programs may read something else; this crate's own words.
use Rattle.std.specs.List.{list_any}
use Rattle.std.specs.Prelude.{ℕ, suc, ◌+◌, ◌-◌, ◌^◌, Bool, true, false, ◌&&◌, ◌||◌, not, ◌==◌, min, List, [], ◌∷◌, ◌++◌, flat_map, length, drop, Option, Some, None, is_none, codes, if◌then◌else◌}
use Rattle.mail_codec.specs.Ascii.{colon}
use Rattle.mail_codec.specs.Charset.{Charsets}
use Rattle.mail_codec.specs.Places.{byte_place}
use Rattle.mailparse.specs.Body.{BodyKind, in_base64, in_quoted_printable, in_7bit, in_8bit, in_binary}
use Rattle.mailparse.specs.ContentType.{ContentType}
use Rattle.mailparse.specs.Disposition.{Disposition}
use Rattle.mailparse.specs.Mail.{Node, Tree, body_kind, root, shown_as}
use Rattle.mailparse.specs.Placement.{Placement}
use Rattle.mailparse.specs.Ranges.{Range}
use Rattle.mail_read.specs.Files.{is_leaf}
use Rattle.mail_read.specs.InnerMails.{dot_count}
use Rattle.mail_read.specs.PartPlaces.{Place, places}
use Rattle.mail_check.specs.Bodies.{is_base64_lines}
use Rattle.mail_check.specs.HiddenBits.{hidden_bits}
use Rattle.mail_check.specs.Bytes.{earlier, first_byte, first_offset, is_bad_escape, is_control, is_end_blank, is_escaped_end, is_high}
use Rattle.mail_check.specs.Bytes.{is_lone_return, is_nul, mixed_line_end}
use Rattle.mail_check.specs.FileNames.{has_two_names, has_unsafe_name, has_untyped_name}
use Rattle.mail_check.specs.Lines.{HeaderLine, begins_type, ends_block, has_blank_fold, has_comment_fold, has_high_value}
use Rattle.mail_check.specs.Lines.{header_lines, is_bad_encoding, is_bad_key, is_composite, is_encoding, is_named}
use Rattle.mail_check.specs.Lines.{is_other_message, second_named, single_names}
use Rattle.mail_check.specs.Multiparts.{dash_of, is_bad_boundary, is_close, is_inside, is_tailed, late_delimiter}
use Rattle.mail_check.specs.LineTests.{begins_file, first_line, is_long_line}
use Rattle.mail_check.specs.Names.{class_of}
use Rattle.mail_check.specs.Senders.{is_bad_sender}
use Rattle.mail_check.specs.Texts.{has_bad_text}
use Rattle.mail_check.specs.WordBytes.{has_bad_octets}
use Rattle.mail_check.specs.Words.{has_join, is_bad_name, is_bad_piece, is_worded, pieces}
use Rattle.mail_check.specs.Parameters.{has_extended, has_other_name, has_quoted_pair, has_quoted_special, has_repeat, has_word, is_bad_value, is_type, none_seen, parameter_names, strict_value}
use Rattle.mail_check.specs.declared.names.Class.{Class}
use Rattle.mail_check.specs.declared.names.Name.{Name}
use Rattle.mail_check.specs.declared.names.Name.TheVariants as name

-- a finding: its name and its class, the range of the mail, and the path of the part
pub record Finding : Type 0 where
  pub name : Name
  pub class : Class
  pub range : Range
  pub path : List ℕ

-- the sum of two offsets, or the greatest number of 64 bits
abbrev pub plus : ℕ → ℕ → ℕ
plus a b = min (a + b) (2 ^ 64 - 1)

-- where findings may be: the path of the part, an offset of the mail, and how many bytes a finding has
pub record Spot : Type 0 where
  pub path : List ℕ
  pub start : ℕ
  pub size : ℕ

-- that of a message at an offset after its first byte
abbrev pub spot_in : Place → ℕ → ℕ → Spot
spot_in place offset size = record {
  path = place.path;
  start = plus place.placement.whole.start offset;
  size = size;
}

-- that of its body
abbrev pub spot_of_body : Place → ℕ → Spot
spot_of_body place size = record {
  path = place.path;
  start = place.placement.body.start;
  size = size;
}

-- the finding with a name at an offset after that of a spot
abbrev pub finding_at : Spot → Name → ℕ → Finding
finding_at spot name offset = record {
  name = name;
  class = class_of name;
  range = record {
    start = plus spot.start offset;
    end = plus (plus spot.start offset) spot.size;
  };
  path = spot.path;
}

-- the finding at an offset, if there is one
abbrev pub listed : Spot → Name → Option ℕ → List Finding
listed spot name None = []
listed spot name (Some offset) = finding_at spot name offset ∷ []

-- the finding of a whole spot, if it is to be
abbrev pub listed_if : Spot → Name → Bool → List Finding
listed_if spot name is = if is then finding_at spot name 0 ∷ [] else []

-- ---- a whole mail

-- line ends and NUL bytes, each where it first occurs
abbrev pub byte_findings : Spot → List ℕ → List Finding
byte_findings spot bytes =
    listed spot name.Nul (first_offset (is_nul bytes) bytes)
    ++ (listed spot name.LoneCr (first_offset (is_lone_return bytes) bytes)
    ++ listed spot name.MixedLineEnds (mixed_line_end bytes))

-- these, and the first long line
abbrev pub first_findings : Spot → List ℕ → List Finding
first_findings spot bytes =
    byte_findings spot bytes ++ listed spot name.LongLine (first_line is_long_line bytes)

-- ---- the headers of a message

-- how one header is written, in a block of this size
abbrev pub line_findings : Spot → ℕ → HeaderLine → List Finding
line_findings spot size line =
    listed_if spot name.NoBlankLine (ends_block size line)
    ++ (listed_if spot name.BadKey (is_bad_key line)
    ++ (listed_if spot name.BlankFold (has_blank_fold line)
    ++ (listed_if spot name.CommentFold (has_comment_fold line)
    ++ listed_if spot name.Header8bit (has_high_value line))))

-- the name of an asterisk in the name of a parameter: in a type it may be that of the boundary
abbrev pub extended_name : HeaderLine → Name
extended_name line = if is_type line then name.TypeExtended else name.ExtendedParameter

-- that of an encoded word in a parameter
abbrev pub word_name : HeaderLine → Name
word_name line = if is_type line then name.TypeWord else name.WordParameter

-- a type or a disposition whose value is of this text, if that has the syntax that all programs know
abbrev pub value_findings : Spot → HeaderLine → List ℕ → List Finding
value_findings spot line bytes =
    listed_if spot name.QuotedSpecial (has_quoted_special bytes)
    ++ (listed_if spot name.QuotedPair (has_quoted_pair bytes)
    ++ (listed_if spot (extended_name line) (has_extended bytes)
    ++ listed_if spot (word_name line) (has_word bytes)))

-- one whose parameters have these names
abbrev pub name_findings : Spot → HeaderLine → List (List ℕ) → List Finding
name_findings spot line names =
    listed_if spot name.DuplicateParameter (has_repeat none_seen names)
    ++ listed_if spot name.TwoNames (has_other_name line names)

-- both, of a header whose value is of this text
abbrev pub strict_findings : Spot → HeaderLine → Option (List ℕ) → List Finding
strict_findings spot line None = []
strict_findings spot line (Some bytes) =
    value_findings spot line bytes ++ name_findings spot line (parameter_names bytes)

-- a header as a type or a disposition
abbrev pub parameter_findings : Spot → HeaderLine → List Finding
parameter_findings spot line =
    listed_if spot name.TypeSyntax (is_bad_value line) ++ strict_findings spot line (strict_value line)

-- what one header says of a message of this type
abbrev pub type_findings : Spot → ContentType → HeaderLine → List Finding
type_findings spot ctype line =
    listed_if spot name.EncodingSyntax (is_bad_encoding line)
    ++ (listed_if spot name.EncodingOnComposite (is_encoding line && is_composite ctype)
    ++ (listed_if spot name.OtherMessage
    (is_named (codes "Content-Type") line && is_other_message ctype)
    ++ listed_if spot name.BadBoundary
    (is_named (codes "Content-Type") line && is_bad_boundary ctype)))

-- a subject or a sender with these pieces, under the charsets that are known
abbrev pub word_findings : Charsets → Spot → HeaderLine → List (List ℕ) → List Finding
word_findings known spot line found =
    listed_if spot name.WordSyntax (list_any is_bad_piece found)
    ++ (listed_if spot name.WordJoin (has_join [] found)
    ++ (listed_if spot name.WordBytes (list_any (has_bad_octets known) found)
    ++ listed_if spot name.NameAddress (is_bad_name line found)))

-- a header as a subject or a sender
abbrev pub worded_findings : Charsets → Spot → HeaderLine → List Finding
worded_findings known spot line =
    if is_worded line then word_findings known spot line (pieces line.value) else []

-- a header as a sender of the whole mail, before which no message comes
abbrev pub sender_findings : ℕ → Spot → HeaderLine → List Finding
sender_findings number spot line = listed_if spot name.FromSyntax (number == 0 && is_bad_sender line)

-- the findings of one header of a message, given how many come before it
abbrev pub header_findings : Charsets → ℕ → Place → HeaderLine → List Finding
header_findings known number place line =
    let node = root place.part in
    let spot = spot_in place line.start (length line.bytes) in
    line_findings spot (length node.block) line
    ++ (parameter_findings spot line
    ++ (type_findings spot node.ctype line
    ++ (sender_findings number spot line ++ worded_findings known spot line)))

-- the second header with a name, if there is one
abbrev pub repeated : Place → Option HeaderLine → List Finding
repeated place None = []
repeated place (Some line) =
    finding_at (spot_in place line.start (length line.bytes)) name.Duplicate 0 ∷ []

-- those of each of some names
abbrev pub repeated_findings : Place → List HeaderLine → List (List ℕ) → List Finding
repeated_findings place lines names =
    flat_map (λ name. repeated place (second_named name lines)) names

-- there is no header
abbrev pub has_none : List HeaderLine → Bool
has_none [] = true
has_none (line ∷ lines) = false

-- those of all headers, and then of each name that occurs twice
abbrev pub block_findings : Charsets → ℕ → Place → List HeaderLine → List Finding
block_findings known number place lines =
    listed_if (spot_in place 0 0) name.NoHeaders (has_none lines)
    ++ (flat_map (header_findings known number place) lines ++ repeated_findings place lines single_names)

-- ---- file names

-- the file names of a message, which is to be shown so
abbrev pub file_findings : Spot → Disposition → Node → List Finding
file_findings spot shown node =
    listed_if spot name.NoType (has_untyped_name shown node)
    ++ (listed_if spot name.TwoNames (has_two_names shown node.ctype)
    ++ listed_if spot name.UnsafeName (has_unsafe_name shown node.ctype))

-- ---- the parts of a multipart

-- the delimiters in the text of a multipart with this dash-boundary
abbrev pub delimiter_findings : Spot → List ℕ → List ℕ → List Finding
delimiter_findings spot dash text =
    listed spot name.DelimiterInside (first_offset (is_inside dash text) text)
    ++ (listed spot name.DelimiterTail (first_offset (is_tailed dash text) text)
    ++ listed spot name.LateDelimiter (late_delimiter dash text))

-- whether it has parts, and a close-delimiter after them
abbrev pub part_findings : Place → ℕ → List ℕ → List ℕ → List Finding
part_findings place size dash text =
    listed_if (spot_in place size 0) name.NoDelimiter (is_leaf place.part)
    ++ listed_if (spot_in place size (length text)) name.NoClose
    (not (is_leaf place.part) && is_none (first_offset (is_close dash text) text))

-- the findings of a message with this dash-boundary, if it has one
abbrev pub multipart_findings : Place → Option (List ℕ) → List Finding
multipart_findings place None = []
multipart_findings place (Some dash) =
    let node = root place.part in
    let size = length node.block in
    let text = drop size node.bytes in
    listed (spot_of_body place 1) name.Preamble (byte_place node.body colon)
    ++ (part_findings place size dash text
    ++ delimiter_findings (spot_in place size (length dash)) dash text)

-- ---- bodies

-- the findings of a body in quoted-printable
abbrev pub quoted_findings : Spot → List ℕ → List Finding
quoted_findings spot body =
    listed spot name.QpSyntax
    (earlier (first_offset (is_bad_escape body) body) (first_byte is_control body))
    ++ (listed spot name.QpBlank
    (earlier (first_offset (is_end_blank body) body) (first_offset (is_escaped_end body) body))
    ++ listed spot name.EightBitBody (first_byte is_high body))

-- the findings of a body in Base64
abbrev pub base64_findings : Place → List ℕ → List Finding
base64_findings place body =
    listed_if (spot_of_body place (length body)) name.Base64Syntax (not (is_base64_lines body))
    ++ listed (spot_of_body place 4) name.Base64Bits (hidden_bits body)

-- the findings of a body in this encoding
abbrev pub encoded_findings : Place → BodyKind → List ℕ → List Finding
encoded_findings place in_base64 body = base64_findings place body
encoded_findings place in_quoted_printable body = quoted_findings (spot_of_body place 1) body
encoded_findings place in_7bit body =
    listed (spot_of_body place 1) name.EightBitBody (first_byte is_high body)
encoded_findings place in_8bit body = []
encoded_findings place in_binary body = []

-- the first line of a text that begins a file
abbrev pub file_line : ContentType → List ℕ → Option ℕ
file_line ctype body = if begins_type (codes "text/") ctype then first_line begins_file body else None

-- the findings of the text of a message with this body, under the charsets that are known
abbrev pub text_findings : Charsets → Place → Node → List ℕ → List Finding
text_findings known place node body =
    listed (spot_of_body place 1) name.Uuencode (file_line node.ctype body)
    ++ listed_if (spot_of_body place (length body)) name.Charset (has_bad_text known node)

-- the findings of the body of a message
abbrev pub body_findings : Charsets → Place → Node → List Finding
body_findings known place node =
    encoded_findings place (body_kind node) node.body ++ text_findings known place node node.body

-- a message has no parts and is no multipart
abbrev pub is_single : Tree → Bool
is_single t = is_leaf t && not (begins_type (codes "multipart") (root t).ctype)

-- the findings of its body
abbrev pub leaf_findings : Charsets → Place → List Finding
leaf_findings known place =
    if is_single place.part then body_findings known place (root place.part) else []

-- ---- all

-- a part is nested 10 levels deep, or 100 messages come before it
abbrev pub is_far : ℕ → Place → Bool
is_far number place = number == 100 || dot_count place.path == 9

-- the findings of a message, given how many come before it: those of the whole mail if it is the first
abbrev pub message_findings : Charsets → ℕ → Place → List Finding
message_findings known number place =
    let node = root place.part in
    (if number == 0 then first_findings (spot_in place 0 1) node.bytes else [])
    ++ (listed_if (spot_in place 0 (length node.bytes)) name.Many (is_far number place)
    ++ (block_findings known number place (header_lines node)
    ++ (file_findings (spot_in place 0 (length node.block)) (shown_as node) node
    ++ (multipart_findings place (dash_of node.ctype)
    ++ leaf_findings known place))))

-- those of some messages, given how many come before them
abbrev pub findings_from : Charsets → ℕ → List Place → List Finding
findings_from known number [] = []
findings_from known number (place ∷ found) =
    message_findings known number place ++ findings_from known (suc number) found

-- the findings of a mail and its parts, each before its own parts, given their placements, under the charsets that are
-- known
unfoldable pub findings : Charsets → Tree → List Placement → List Finding
findings known mail placements = findings_from known 0 (places mail placements)
