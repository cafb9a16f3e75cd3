use Rattle.mail_json.proofs.range.write_first_part.Goals as goal

pub returns : goal.returns
returns g c = c.write_chosen.ensures
