-- The files so far, and then those after the last block, up to the limit, are all files.
use Rattle.std.proofs.Common.{map}
use Rattle.mail_data.specs.TextFileViews.{text_file_view}
use Rattle.mail_data.proofs.lemmas.TextFiles.{Found}
use Rattle.mail_data.proofs.text_files.text_files.Given as goal

abbrev pub invariant-search : goal.invariant-search
invariant-search l = Found l.limit l.text l.left l.at (map text_file_view l.files.items)

abbrev pub decreases-search : goal.decreases-search
decreases-search l = l.left
