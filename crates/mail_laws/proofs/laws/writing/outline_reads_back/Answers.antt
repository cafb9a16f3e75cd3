use Rattle.mail_address.proofs.lemmas.EncodeRead.{caller_knows}
use Rattle.mail_laws.proofs.lemmas.RenderReadings.{outline_is_read, outline_is_refused, outline_is_mail, headers_show, outlines_are_one}
use Rattle.mail_laws.proofs.laws.writing.outline_reads_back.Goals as goal

pub returns : goal.returns
returns c = record {
  read = outline_is_read;
  refused = outline_is_refused;
  mail = outline_is_mail;
  shown = headers_show;
  tables = caller_knows;
  only = outlines_are_one;
}
