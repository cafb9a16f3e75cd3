-- What a contract sees of a header.
use Rattle.mail_check.specs.Lines as words
use Rattle.mail_check.specs.declared.lines.HeaderLine.{HeaderLine}

-- a header
abbrev pub line_view : HeaderLine → words.HeaderLine
line_view line = record {
  start = line.start;
  end = line.end;
  bytes = line.bytes.now;
  key = line.key.now;
  value = line.value.now;
}
