-- What a contract sees of a line that is being written.
use Rattle.std.specs.Prelude.{ℕ, List, take}
use Rattle.mail_json_text.specs.declared.line_buffer.LineBuffer.{LineBuffer}

-- its bytes
abbrev pub line_bytes : LineBuffer → List ℕ
line_bytes line = take line.len line.bytes.items
