use Rattle.std.proofs.Common.{◌≡◌, ◌++◌, length, string_bytes}
use Rattle.mail_codec.specs.Utf7.{utf7_text}
use Rattle.mail_codec.proofs.charset.utf_7.decode_utf_7.Given as goal

-- the text so far, and then that of the rest, is the whole text
abbrev pub invariant-rest : goal.invariant-rest
invariant-rest l = string_bytes l.text ++ utf7_text l.rest ≡ utf7_text l.bytes

abbrev pub decreases-rest : goal.decreases-rest
decreases-rest l = length l.rest
