use Rattle.mail_address.proofs.lemmas.WriterRead.{mailbox-alone, mailbox-separated}
use Rattle.mail_address.proofs.laws.separators_separate.Goals as goal

pub returns : goal.returns
returns c = record {
  first = λ start text rest separator m is separates. mailbox-separated text m is start separator rest separates;
  alone = λ start text m is. mailbox-alone text m is start;
}
