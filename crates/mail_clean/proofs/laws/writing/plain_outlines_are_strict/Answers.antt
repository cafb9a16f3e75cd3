use Rattle.mail_clean.proofs.lemmas.PlainOutlines.{plain_is_clean, plain_is_strict}
use Rattle.mail_clean.proofs.laws.writing.plain_outlines_are_strict.Goals as goal

pub returns : goal.returns
returns c = record { strict = plain_is_strict; read = plain_is_clean }
