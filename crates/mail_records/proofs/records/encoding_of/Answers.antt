use Rattle.mail_records.proofs.lemmas.Lookup.{ascii-encoding}
use Rattle.mail_records.proofs.records.encoding_of.Goals as goal

pub returns : goal.returns
returns c = c.encoding_number.ensures _ _ c.in_ok-body.ensures.read

pub first_header-requires : goal.first_header-requires
first_header-requires c = ascii-encoding
