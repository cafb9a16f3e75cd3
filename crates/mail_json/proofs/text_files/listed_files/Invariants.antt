-- The files so far, and then those that are left, are all files.
use Rattle.std.proofs.Common.{◌≡◌, ◌++◌, ◌+◌, drop, map}
use Rattle.mail_data.specs.TextFileViews.{text_file_view}
use Rattle.mail_json.specs.TextFiles.{listed_files}
use Rattle.mail_json.specs.TextFileViews.{listed_view}
use Rattle.mail_json.proofs.text_files.listed_files.Given as goal

abbrev pub invariant-loop-file : goal.invariant-loop-file
invariant-loop-file l = record {
  count : l.number ≡ l.file-index;
  all : map listed_view l.listed.items ++ listed_files l.hashes l.path (l.number + 1) (map text_file_view (drop l.file-index l.files))
      ≡ listed_files l.hashes l.path 1 (map text_file_view l.files);
}
