use Rattle.std.proofs.Common.{◌≡◌, ◌++◌, length, encode_utf8_all, string_bytes}
use Rattle.mail_codec.specs.Charset.{utf_16_chars}
use Rattle.mail_codec.specs.private.Utf16.{unit_of}
use Rattle.mail_codec.proofs.charset.utf16.decode.Given as goal

-- the text so far, and then that of the rest, is the whole text
abbrev pub invariant-rest : goal.invariant-rest
invariant-rest l = string_bytes l.text ++ encode_utf8_all (utf_16_chars (unit_of l.order) l.rest) ≡ encode_utf8_all (utf_16_chars (unit_of l.order) l.bytes)

abbrev pub decreases-rest : goal.decreases-rest
decreases-rest l = length l.rest
