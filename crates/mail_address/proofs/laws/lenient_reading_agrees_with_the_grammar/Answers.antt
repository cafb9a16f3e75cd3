use Rattle.std.proofs.Common.{refl, ap, ◌∙◌}
use Rattle.mail_address.specs.Addresses.{addresses}
use Rattle.mail_address.specs.Lenient.{lenient_elements}
use Rattle.mail_address.proofs.lemmas.LenientCommas.{joined-same}
use Rattle.mail_address.proofs.lemmas.Lenient.{comment-domain, comment-local, lenient-same}
use Rattle.mail_address.proofs.laws.lenient_reading_agrees_with_the_grammar.Goals as goal

pub returns : goal.returns
returns c = record {
  mailboxes = λ raw start text m. refl;
  local_parts = comment-local;
  domains = comment-domain;
  same = λ raw are. ap (lenient_elements raw) (joined-same raw (addresses raw) are) ∙ lenient-same raw (addresses raw) are;
}
