-- The text of the bytes so far.
use Rattle.std.proofs.Common.{◌≡◌, take}
use Rattle.std.specs.String.{string_bytes}
use Rattle.mail_view.specs.Report.{bytes_text}
use Rattle.mail_view.proofs.report.bytes_text.Given as goal

abbrev pub invariant-loop-byte : goal.invariant-loop-byte
invariant-loop-byte l = string_bytes l.text ≡ bytes_text (take l.byte-index l.bytes)
