-- The files of a mail as they are stored; the program's own choice.
use Rattle.std.specs.Prelude.{ℕ, List, codes, map}
use Rattle.std.specs.Option.{unwrap_or}
use Rattle.mail_codec.specs.Charset.{Charsets}
use Rattle.mailparse.specs.Mail.{Node, Tree, root}
use Rattle.mail_read.specs.FileNames.{safe_name}
use Rattle.mail_read.specs.Attachments.{attachments}
use Rattle.mail_read.specs.lenient.FileNames.{lenient_file_name}
use Rattle.mail_read.specs.lenient.Content.{Content, message_content}

-- a file that is stored: the path of its part, its name, and the bytes that can be read
pub record Stored : Type 0 where
  pub path : List ℕ
  pub name : List ℕ
  pub content : Content

-- the name under which a part is stored
unfoldable pub stored_name : Charsets → Node → List ℕ
stored_name known node = safe_name (unwrap_or (lenient_file_name known node) (codes "unnamed"))

-- a part that has this path, as it is stored
abbrev pub stored : Charsets → List ℕ × Tree → Stored
stored known p = record {
  path = p.0;
  name = stored_name known (root p.1);
  content = message_content (root p.1);
}

-- the files of a mail
abbrev pub stored_files : Charsets → Tree → List Stored
stored_files known mail = map (stored known) (attachments known mail)
