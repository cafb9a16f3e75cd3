-- What a contract sees of the members of the line of a file.
use Rattle.std.specs.Prelude.{option_map}
use Rattle.mail_extract.specs.FileLine as words
use Rattle.mail_extract.specs.declared.file_line.FileLine.{FileLine}

-- the members, seen as texts and numbers
abbrev pub file_line_view : FileLine → words.FileLine
file_line_view line = record {
  file = option_map (λ text. text.now) line.file;
  number = line.number;
  path = option_map (λ text. text.now) line.path;
  saved = option_map (λ text. text.now) line.saved;
  size = line.size;
  sha256 = option_map (λ text. text.now) line.sha256;
  error = option_map (λ text. text.now) line.error;
}
