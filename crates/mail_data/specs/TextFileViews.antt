-- What a contract sees of the files in a text.
use Rattle.mail_data.specs.TextFiles as words
use Rattle.mail_data.specs.declared.text_files.TextFile.{TextFile}

-- a file
abbrev pub text_file_view : TextFile → words.TextFile
text_file_view file = record {
  name = file.name.now;
  lines = file.lines.now;
  block = record { start = file.block.start; end = file.block.end };
  is_ended = file.is_ended;
}
