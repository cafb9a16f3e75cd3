use Rattle.std.proofs.Common.{◌≡◌, ◌++◌, map, string_bytes, All}
use Rattle.mailparse.specs.Views.{tree_of}
use Rattle.mail_read.specs.FileNames.{IsSafeName}
use Rattle.mail_read.specs.FileViews.{attachment_view}
use Rattle.mail_jobs.specs.Attachments.{stored, stored_files}
use Rattle.mail_jobs.specs.AttachmentViews.{stored_view}
use Rattle.mail_jobs.proofs.attachments.stored_files.Given as goal

-- the files stored so far, and those that are left as they are stored, are all; and each name so far is safe
abbrev pub invariant-loop-file : goal.invariant-loop-file
invariant-loop-file g l = record {
  all : map stored_view l.files.items ++ map (stored (g.K.KnownCharsets.known l.known)) (map attachment_view l.file-iterator.rest.items) ≡ stored_files (g.K.KnownCharsets.known l.known) (tree_of l.mail);
  each : All (λ file. IsSafeName (string_bytes file.name)) l.files.items;
}
