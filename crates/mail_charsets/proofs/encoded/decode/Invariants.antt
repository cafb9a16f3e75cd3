use Rattle.std.proofs.Common.{◌≡◌, ◌++◌, length, string_bytes}
use Rattle.mail_codec.specs.Front.{text_by}
use Rattle.mail_charsets.specs.Front.{front_by}
use Rattle.mail_charsets.proofs.encoded.decode.Given as goal

-- the text so far, and then that of the rest, is the whole text
abbrev pub invariant-rest : goal.invariant-rest
invariant-rest g l =
    let front = front_by (g.E.Encoded.long l.encoding) (g.E.Encoded.single l.encoding) (g.E.Encoded.pairs l.encoding) in
    string_bytes l.text ++ text_by front l.rest ≡ text_by front l.bytes

abbrev pub decreases-rest : goal.decreases-rest
decreases-rest g l = length l.rest
