-- Texts whose paragraphs flow over lines: the format `flowed` of `text/plain` (RFC 3676, section
-- 4).
use Rattle.std.specs.Prelude.{ℕ, Bool, false, not, ◌==◌, ◌&&◌, ◌||◌, List, [], ◌∷◌, ◌++◌, length, drop, map, flat_map, replicate, codes, if◌then◌else◌}
use Rattle.std.specs.List.{prefix_len}
use Rattle.std.specs.Option.{option_map_or}
use Rattle.std.specs.Str.{bytes_eq, str_eq_ignore_ascii_case}
use Rattle.mail_codec.specs.Ascii.{line_feed, carriage_return, space, greater_than}
use Rattle.mail_codec.specs.Charset.{Charsets}
use Rattle.mail_codec.specs.Places.{is_empty}
use Rattle.mailparse.specs.ContentType.{ContentType}
use Rattle.mailparse.specs.Mail.{Node}
use Rattle.mail_data.specs.Texts.{text_type}
use Rattle.mail_read.specs.lenient.Texts.{BodyText, body_text}

-- ---- lines

-- the bytes of a line, and its LF, if there is one
abbrev pub Piece : Type 0
Piece = List ℕ × List ℕ

-- the same lines with one more byte at the front
abbrev pub with_front : ℕ → List Piece → List Piece
with_front b [] = (b ∷ [], []) ∷ []
with_front b (piece ∷ pieces) = (b ∷ piece.0, piece.1) ∷ pieces

-- a text cut after each LF
abbrev pub pieces : List ℕ → List Piece
pieces [] = []
pieces (b ∷ rest) =
    if b == line_feed then ([], b ∷ []) ∷ pieces rest else with_front b (pieces rest)

-- a line: the number of its quote marks, its content, and its line end, if there is one
pub record Line : Type 0 where
  pub depth : ℕ
  pub content : List ℕ
  pub ending : List ℕ

-- the number of quote marks at the front
abbrev pub quote_depth : List ℕ → ℕ
quote_depth text = prefix_len (λ b. b == greater_than) text

-- a text without the space at its front, if there is one
abbrev pub unstuffed : List ℕ → List ℕ
unstuffed [] = []
unstuffed (b ∷ rest) = if b == space then rest else b ∷ rest

-- a text ends in this byte
abbrev pub ends_in : ℕ → List ℕ → Bool
ends_in b [] = false
ends_in b (c ∷ []) = c == b
ends_in b (c ∷ d ∷ rest) = ends_in b (d ∷ rest)

-- a text without its last byte
abbrev pub without_last : List ℕ → List ℕ
without_last [] = []
without_last (c ∷ []) = []
without_last (c ∷ d ∷ rest) = c ∷ without_last (d ∷ rest)

-- a text without the space at its end, if there is one
abbrev pub without_space : List ℕ → List ℕ
without_space text = if ends_in space text then without_last text else text

-- the line that consists of a text and this line end: its quote marks and a space after them do not
-- belong to its content
abbrev pub line_with : List ℕ → List ℕ → Line
line_with text ending = record {
  depth = quote_depth text;
  content = unstuffed (drop (quote_depth text) text);
  ending = ending;
}

-- the same, where a CR before the LF belongs to the line end
abbrev pub line_of : Piece → Line
line_of piece =
    if not (is_empty piece.1) && ends_in carriage_return piece.0
    then line_with (without_last piece.0) (carriage_return ∷ piece.1) else line_with piece.0 piece.1

-- ---- paragraphs

-- a line separates the signature from the text
abbrev pub is_separator : Line → Bool
is_separator line = bytes_eq line.content (codes "-- ")

-- a line is flowed: it ends in a space, and does not separate a signature
abbrev pub is_flowed : Line → Bool
is_flowed line = ends_in space line.content && not (is_separator line)

-- a line continues in the next one: it is flowed, and the next one is as deep and does not separate
-- a signature
abbrev pub continues : Line → Line → Bool
continues line next = is_flowed line && line.depth == next.depth && not (is_separator next)

-- a paragraph: its first line, and the lines in which that continues
pub record Paragraph : Type 0 where
  pub first : Line
  pub others : List Line

-- paragraphs with one more line at the front: a part of the first one, if the line continues there
abbrev pub with_line : Line → List Paragraph → List Paragraph
with_line line [] = record { first = line; others = [] } ∷ []
with_line line (p ∷ ps) =
    if continues line p.first then record { first = line; others = p.first ∷ p.others } ∷ ps
    else record { first = line; others = [] } ∷ p ∷ ps

-- the paragraphs that lines form
abbrev pub paragraphs : List Line → List Paragraph
paragraphs [] = []
paragraphs (line ∷ lines) = with_line line (paragraphs lines)

-- the content of a line as its paragraph shows it: without the space at the end of a flowed line,
-- if that is to be deleted
abbrev pub shown : Bool → Line → List ℕ
shown deletes line = if deletes && is_flowed line then without_space line.content else line.content

-- the text between the quote marks of a line and its content: a space, if there are both
abbrev pub gap : Line → List ℕ
gap line = if line.depth == 0 || length line.content == 0 then [] else space ∷ []

-- the text before a paragraph
abbrev pub marks : Line → List ℕ
marks line = replicate line.depth greater_than ++ gap line

-- the text between the contents of two lines: nothing, if one continues in the other
abbrev pub between : Line → Line → List ℕ
between line next = if continues line next then [] else line.ending ++ marks next

-- the line end of the last of some lines
abbrev pub last_ending : Line → List Line → List ℕ
last_ending line [] = line.ending
last_ending line (next ∷ lines) = last_ending next lines

-- a paragraph as one line
abbrev pub paragraph_text : Bool → Paragraph → List ℕ
paragraph_text deletes p =
    marks p.first ++ (flat_map (shown deletes) (p.first ∷ p.others) ++ last_ending p.first p.others)

-- a text with each paragraph as one line
unfoldable pub unflowed : Bool → List ℕ → List ℕ
unflowed deletes text = flat_map (paragraph_text deletes) (paragraphs (map line_of (pieces text)))

-- ---- the text of a part

-- the value of a parameter of a type is this word, ignoring ASCII case
abbrev pub is_parameter : List ℕ → List ℕ → ContentType → Bool
is_parameter name word ctype =
    option_map_or (λ text. str_eq_ignore_ascii_case text word) (ctype.params name) false

-- the paragraphs of a text of this type flow over lines
abbrev pub has_flowed_text : ContentType → Bool
has_flowed_text ctype =
    bytes_eq (text_type ctype.mimetype) (codes "text/plain")
    && is_parameter (codes "format") (codes "flowed") ctype

-- a text of this type, with each paragraph as one line if they flow
abbrev pub unflowed_of : ContentType → List ℕ → List ℕ
unflowed_of ctype text =
    if has_flowed_text ctype then unflowed (is_parameter (codes "delsp") (codes "yes") ctype) text
    else text

-- the same of the text of a body, as it is read leniently
unfoldable pub flowed_text : Charsets → Node → BodyText
flowed_text known node =
    let read = body_text known node in record read { text = unflowed_of node.ctype read.text }
