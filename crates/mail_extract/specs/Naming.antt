-- The options of saving, and the name under which a file is saved if that is free; the program's own rule.
use Rattle.std.specs.Prelude.{ℕ, List, Option}
use Rattle.mail_read.specs.FileNames.{safe_name}
use Rattle.mail_read.specs.WindowsNames.{windows_name}
use Rattle.mail_extract.specs.Choice.{Choice}
use Rattle.mail_extract.specs.declared.hash.Hashing.{Hashing}
use Rattle.mail_extract.specs.declared.options.Naming.{Naming}
use Rattle.mail_extract.specs.declared.options.Naming.TheVariants.{BySender, ForWindows, ByHash}
use Rattle.mail_program.specs.Hash.{hash_text}

-- the limit on the messages, parts and headers of each mail, the chosen limit on the bytes that are decoded for the mails
-- inside a mail, whether files are hashed, what names them, and which are saved
pub record Options : Type 0 where
  pub limit : ℕ
  pub most_bytes : Option ℕ
  pub hashing : Hashing
  pub naming : Naming
  pub choice : Choice

-- the name under which bytes are saved if it is free: that of the sender, which Windows takes if that is asked for, or their SHA-256
unfoldable pub target : Naming → (name bytes : List ℕ) → List ℕ
target BySender name bytes = name
target ForWindows name bytes = windows_name name
target ByHash name bytes = safe_name (hash_text bytes)
