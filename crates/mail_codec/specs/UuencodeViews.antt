-- What a contract sees of uuencoded files.
use Rattle.mail_codec.specs.Uuencode.{File}
use Rattle.mail_codec.specs.declared.transfer.uuencode.Uuencoded.{Uuencoded}

-- a file in a text
abbrev pub file_view : Uuencoded → File
file_view file = record {
  name = record { start = file.name.start; end = file.name.end };
  lines = record { start = file.lines.start; end = file.lines.end };
  block = record { start = file.block.start; end = file.block.end };
  is_ended = file.is_ended;
}
