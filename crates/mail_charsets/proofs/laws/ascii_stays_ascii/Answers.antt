use Rattle.std.proofs.Common.{sym}
use Rattle.mail_charsets.proofs.lemmas.Front.{front_ascii}
use Rattle.mail_charsets.proofs.laws.ascii_stays_ascii.Goals as goal

pub returns : goal.returns
returns c = λ long single pairs bytes small. sym (front_ascii long single pairs bytes small)
