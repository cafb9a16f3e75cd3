use Rattle.mail_clean.proofs.lemmas.StrictHeaderLists.{headers_read, headers_there, one_list}
use Rattle.mail_clean.proofs.laws.strict_mails.strict_blocks_have_headers.Goals as goal

pub returns : goal.returns
returns c = record {
  there = headers_there;
  only = one_list;
  read = λ headers block body are. headers_read headers block are body;
}
