use Rattle.mail_address.proofs.lemmas.Names.{names-alone, names-first, one_space, quoted-is_word}
use Rattle.mail_address.proofs.lemmas.WriterWords.{quoted-shows}
use Rattle.mail_address.specs.Names.{last_word}
use Rattle.std.proofs.Common.{refl}
use Rattle.mail_address.proofs.laws.names_forge_nothing.Goals as goal

pub returns : goal.returns
returns c = record { alone = names-alone; first = names-first; quoted = λ text. last_word (quoted-is_word text) refl; shown = λ text. quoted-shows text one_space }
