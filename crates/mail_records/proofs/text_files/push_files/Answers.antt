use Rattle.std.proofs.Common.{◌+◌, [], ◌∷◌, map, drop, get_or, ap, arith}
use Rattle.mail_data.specs.TextFileViews.{text_file_view}
use Rattle.mail_records.specs.TextFiles.{file_record, file_text}
use Rattle.mail_records.proofs.lemmas.Rows.{next-at, rows-more}
use Rattle.mail_records.proofs.text_files.push_files.Goals as goal

pub loop-file-preserved : goal.loop-file-preserved
loop-file-preserved c =
    let before = c.loop-file.invariant in
    rows-more file_record file_text c.loop-file.found c.push_file.new.found before.0 (text_file_view (get_or c.args.files.now c.loop-file.file-index _) ∷ []) _ _ _
    (ap (map text_file_view) (next-at c.args.files.now c.loop-file.file-index _ (omega arith))) before.1 before.2 c.in_ok-push_file.ensures
