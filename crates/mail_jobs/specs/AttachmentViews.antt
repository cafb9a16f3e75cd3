-- What a contract sees of a file that is stored.
use Rattle.std.specs.Prelude.{string_bytes}
use Rattle.mail_read.specs.lenient.ContentViews.{content_view}
use Rattle.mail_jobs.specs.Attachments.{Stored}
use Rattle.mail_jobs.specs.declared.attachments.StoredFile.{StoredFile}

-- its path, its name and its content
abbrev pub stored_view : StoredFile → Stored
stored_view file = record {
  path = string_bytes file.path;
  name = string_bytes file.name;
  content = content_view file.content;
}
