-- The line of a file is JSON.
use Rattle.std.proofs.Common.{◌≡◌, ℕ, List, ◌++◌, refl, arith}
use Rattle.std.specs.Prelude.{codes}
use Rattle.mail_extract.specs.FileLine.{FileLine, file_line_value}
use Rattle.mail_json_text.specs.JsonLine.{IsJsonLine}
use Rattle.mail_json_text.specs.Printed.{line_of, text_of}
use Rattle.mail_json_text.proofs.lemmas.JsonLine.{IsGood, json_line, named_good, number_or_null_good, optional_good}

pub file_is_json : (line : FileLine) → (object : List ℕ) × IsJsonLine (file_line_value line) object × (line_of (file_line_value line) ≡ object ++ codes "\n")
file_is_json line =
    let good : IsGood 1 (file_line_value line) = named_good refl (optional_good 0 line.file, (number_or_null_good 0 line.number, (optional_good 0 line.path, (optional_good 0 line.saved, (number_or_null_good 0 line.size, (optional_good 0 line.sha256, (optional_good 0 line.error, tt))))))) in
    (text_of (file_line_value line), json_line 1 (file_line_value line) (omega arith) good, refl)
