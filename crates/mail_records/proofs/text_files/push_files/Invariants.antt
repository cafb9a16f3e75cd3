-- The files so far, and those that are left.
use Rattle.std.proofs.Common.{◌≡◌, List, ◌++◌, map, drop}
use Rattle.mail_data.specs.TextFiles.{TextFile}
use Rattle.mail_data.specs.TextFileViews.{text_file_view}
use Rattle.mail_records.specs.TextFiles.{file_record, file_text}
use Rattle.mail_records.specs.Rows.{ListsRows}
use Rattle.mail_records.proofs.text_files.push_files.Given as goal

abbrev pub invariant-loop-file : goal.invariant-loop-file
invariant-loop-file l =
    (done : List TextFile) × (done ++ map text_file_view (drop l.file-index l.files) ≡ map text_file_view l.files)
    × ListsRows file_record file_text done l.initial.found l.found
