-- What is shown of a mail; the program's own form.
use Rattle.std.specs.Prelude.{ℕ, List, [], ◌∷◌, ◌++◌, is_some, length, flat_map, map, codes, if◌then◌else◌}
use Rattle.std.specs.Str.Lines.{lines}
use Rattle.mail_codec.specs.Charset.{Charsets}
use Rattle.mailparse.specs.Mail.{Node, Tree, root}
use Rattle.mailparse.specs.Map.{all_with_key}
use Rattle.mail_read.specs.Files.{is_leaf}
use Rattle.mail_read.specs.lenient.FileNames.{lenient_file_name}
use Rattle.mail_data.specs.InlineTexts.{InlineText, inline_texts}
use Rattle.mail_read.specs.PartPlaces.{Place, places}
use Rattle.mail_read.specs.Reading.{mail_placements}
use Rattle.mail_read.specs.lenient.Content.{message_content}
use Rattle.mail_read.specs.lenient.Refused.{was_kept}
use Rattle.mail_read.specs.lenient.Values.{header_text}
use Rattle.mail_html.specs.declared.links.Links.TheVariants.{Footnotes}
use Rattle.mail_html.specs.declared.references.References.{References}
use Rattle.mail_view.specs.Addresses.{address_lines}
use Rattle.mail_view.specs.Line.{Line, empty, line, lines_text}
use Rattle.mail_view.specs.Row.{row, size_text}
use Rattle.mail_view.specs.declared.line.Prefix.{Prefix}
use Rattle.mail_view.specs.declared.line.Prefix.TheVariants.{From, ReplyTo, To, Cc, Date, Subject, Heading, Text, Part}

-- a line of the text of a mail
abbrev pub text_line : List ℕ → Line
text_line [] = empty
text_line (b ∷ bs) = line Text (b ∷ bs)

-- the size of the decoded body of a part, and whether it is damaged; and whether its headers could not be read
abbrev pub decoded_size : Node → List ℕ
decoded_size node = let content = message_content node in size_text (length content.bytes) (is_some content.fault)

abbrev pub part_size : Node → List ℕ
part_size node = if was_kept node then decoded_size node ++ codes ", headers not read" else decoded_size node

-- the lines of a text
abbrev pub lines_of : InlineText → List Line
lines_of text = map text_line (lines text.read.text)

-- a line with the path of the part that has a text, between empty ones, and the lines of the text
abbrev pub headed_lines : InlineText → List Line
headed_lines text = empty ∷ line Heading text.path ∷ empty ∷ lines_of text

-- the lines of the texts of a mail: those of the first after an empty line, and of each other after a line with its path
abbrev pub body_lines : List InlineText → List Line
body_lines [] = []
body_lines (first ∷ others) = empty ∷ (lines_of first ++ flat_map headed_lines others)

-- Under the charsets that are known.
module _ (known : Charsets) where
  -- a line for the text of each header with this name
  abbrev pub value_lines : Prefix → List ℕ → Node → List Line
  value_lines prefix key node = map (λ header. line prefix (header_text known header.value)) (all_with_key key node.headers)

  -- the lines of the headers
  abbrev pub header_lines : Node → List Line
  header_lines node =
      address_lines known From (codes "From") node
      ++ (address_lines known ReplyTo (codes "Reply-To") node
      ++ (address_lines known To (codes "To") node
      ++ (address_lines known Cc (codes "Cc") node
      ++ (value_lines Date (codes "Date") node ++ value_lines Subject (codes "Subject") node))))

  -- the description of a part
  abbrev pub part_text : Place → List ℕ
  part_text place =
      let node = root place.part in
      row place.path node.ctype.mimetype (part_size node) (lenient_file_name known node)

  -- the line of a part, if it has no parts of its own
  abbrev pub part_lines : Place → List Line
  part_lines place = if is_leaf place.part then line Part (part_text place) ∷ [] else []

-- Under the references of HTML and the charsets that are known.
module _ (references : References) (known : Charsets) where
  -- the lines of a mail: its headers, its texts with the targets of links, and its parts
  abbrev pub view_lines : Tree → List Line
  view_lines mail =
      header_lines known (root mail) ++ (body_lines (inline_texts known Footnotes references mail)
      ++ (empty ∷ flat_map (part_lines known) (places mail (mail_placements mail))))

  -- the text of a mail as it is shown
  unfoldable pub view_text : Tree → List ℕ
  view_text mail = lines_text (view_lines mail)
