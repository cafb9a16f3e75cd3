-- The text that shows a message with its parts; the program's own form.
use Rattle.std.specs.Prelude.{ℕ, suc, List, [], ◌∷◌, ◌++◌, length, codes, decimal, Ok}
use Rattle.std.specs.List.{flat_map}
use Rattle.mailparse.specs.Refusal.{◌>>=◌, Reads}
use Rattle.mailparse.specs.Header.{Header, key_text}
use Rattle.mailparse.specs.Mail.{Node, Tree, read_mail, root, trees_within}
use Rattle.mailparse.specs.Value.{lenient_value}

-- the line of a header: two spaces, the text of its key, a colon and a space, the text of its value
unfoldable pub header_line : Header → List ℕ
header_line header = codes "  " ++ key_text header ++ codes ": " ++ lenient_value header.value ++ codes "\n"

-- the line of the part with this number: its type, the number of its headers, and the size of its body
unfoldable pub part_line : ℕ → List ℕ → ℕ → ℕ → List ℕ
part_line number mimetype headers body =
    codes "part " ++ decimal number ++ codes ": " ++ mimetype ++ codes ", " ++ decimal headers ++ codes " headers, " ++ decimal body
    ++ codes " body bytes\n"

-- the text of a part: its line, and then one for each header
abbrev pub part_text : ℕ → Node → List ℕ
part_text number node = part_line number node.ctype.mimetype (length node.headers) (length node.body) ++ flat_map header_line node.headers

-- the texts of parts, numbered from this number onwards
abbrev pub parts_text : ℕ → List Tree → List ℕ
parts_text number [] = []
parts_text number (part ∷ parts) = part_text number (root part) ++ parts_text (suc number) parts

-- the text of a message: the texts of it and its parts, each before its own parts, numbered from 0
abbrev pub mail_text : Tree → List ℕ
mail_text message = parts_text 0 (trees_within message)

-- the text that the program writes for its input, or the refusal that it reports
unfoldable pub output_text : List ℕ → Reads (List ℕ)
output_text input = do
  mail ← read_mail input
  Ok (mail_text mail)
