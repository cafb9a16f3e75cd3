-- What a contract sees of the files of a mail.
use Rattle.std.specs.Prelude.{ℕ, List, string_bytes}
use Rattle.mailparse.specs.Mail.{Tree}
use Rattle.mailparse.specs.Views.{tree_of}
use Rattle.mail_read.specs.declared.files.Attachment.{Attachment}

-- a file: its path, and the part that it is
abbrev pub attachment_view : Attachment → List ℕ × Tree
attachment_view file = (string_bytes file.path, tree_of file.part.now)
