-- The line that reports what was saved of a file of a mail; the program's own form.
use Rattle.std.specs.Prelude.{ℕ, List, ◌++◌, Option, codes}
use Rattle.json.specs.Json.{Json}
use Rattle.mail_json_text.specs.Printed.{number_or_null, object_of, one, string_or_null}

-- the members of a line: the name of the input, or none for standard input; the number of the mail in its mailbox; the
-- path of the part; the name under which it was saved; the number of its bytes; their SHA-256; and why it was not saved,
-- or not completely
pub record FileLine : Type 0 where
  pub file : Option (List ℕ)
  pub number : Option ℕ
  pub path : Option (List ℕ)
  pub saved : Option (List ℕ)
  pub size : Option ℕ
  pub sha256 : Option (List ℕ)
  pub error : Option (List ℕ)

-- the object of a line
abbrev pub file_line_value : FileLine → Json
file_line_value line = object_of (
    one (codes "file") (string_or_null line.file) ++ one (codes "number") (number_or_null line.number) ++ one (codes "path") (string_or_null line.path)
    ++ one (codes "saved") (string_or_null line.saved) ++ one (codes "size") (number_or_null line.size)
    ++ one (codes "sha256") (string_or_null line.sha256) ++ one (codes "error") (string_or_null line.error))
