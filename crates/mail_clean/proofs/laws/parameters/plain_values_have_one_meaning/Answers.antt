use Rattle.mail_clean.proofs.lemmas.PlainValues.{disposition_meant, disposition_plain, one_disposition, one_type, type_meant}
use Rattle.mail_clean.proofs.lemmas.PlainValues.{type_plain}
use Rattle.mail_clean.proofs.laws.parameters.plain_values_have_one_meaning.Goals as goal

pub returns : goal.returns
returns c = record {
  types = λ value is. let meant = type_meant value is in (meant.mimetype, meant.parameters, meant.is);
  dispositions = λ value is. let meant = disposition_meant value is in (meant.name, meant.parameters, meant.is);
  plain_types = type_plain;
  plain_dispositions = disposition_plain;
  one_type = one_type;
  one_disposition = one_disposition;
}
