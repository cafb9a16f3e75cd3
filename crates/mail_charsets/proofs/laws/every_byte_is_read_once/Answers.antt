use Rattle.std.proofs.Common.{refl}
use Rattle.mail_codec.proofs.lemmas.Front.{text_front}
use Rattle.mail_charsets.proofs.laws.every_byte_is_read_once.Goals as goal

pub returns : goal.returns
returns c = λ front bytes some takes. text_front front bytes ((front bytes).0) ((front bytes).1) some takes refl
