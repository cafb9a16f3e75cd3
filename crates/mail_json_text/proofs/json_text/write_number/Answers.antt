use Rattle.mail_json_text.specs.Printed.{text_of}
use Rattle.mail_json_text.proofs.lemmas.JsonText.{number_text-fits}
use Rattle.mail_json_text.proofs.lemmas.Written.{appends_as}
use Rattle.mail_json_text.proofs.json_text.write_number.Goals as goal

pub returns : goal.returns
unfolding text_of
returns g c = appends_as _ _ _ _ (number_text-fits c.args.number c.ranges.number.fits) c.in_ok-write.ensures.bytes
