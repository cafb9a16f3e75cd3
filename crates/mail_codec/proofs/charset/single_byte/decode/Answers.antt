use Rattle.std.proofs.Common.{sym, ◌∙◌}
use Rattle.std.proofs.lemmas.Str.{IsUtf8-from_ascii}
use Rattle.mail_codec.proofs.lemmas.CharsetSingleByte.{spelled_low}
use Rattle.mail_codec.proofs.charset.single_byte.decode.Goals as goal

pub from_utf8_unchecked-requires : goal.from_utf8_unchecked-requires
from_utf8_unchecked-requires c = IsUtf8-from_ascii _ c.if-is_ascii.ensures.cases

pub returns-then-is_ascii-clause-read : goal.returns-then-is_ascii-clause-read
returns-then-is_ascii-clause-read c = c.from_utf8_unchecked.ensures ∙ sym (spelled_low c.args.high.now c.args.bytes.now c.if-is_ascii.ensures.cases)
