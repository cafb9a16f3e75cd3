use Rattle.std.proofs.Common.{◌≡◌, ◌++◌, length, string_bytes}
use Rattle.mail_codec.proofs.lemmas.CharsetSingleByte.{spelled}
use Rattle.mail_codec.proofs.charset.single_byte.push_text.Given as goal

-- the text so far, and then that of the rest, is the whole text
abbrev pub invariant-rest : goal.invariant-rest
invariant-rest l = string_bytes l.text ++ spelled l.high l.rest ≡ string_bytes l.fn.text ++ spelled l.high l.bytes

abbrev pub decreases-rest : goal.decreases-rest
decreases-rest l = length l.rest
