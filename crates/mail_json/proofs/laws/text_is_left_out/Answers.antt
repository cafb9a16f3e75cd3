use Rattle.mail_json.proofs.lemmas.WithoutText.{line_whole}
use Rattle.mail_json.proofs.laws.text_is_left_out.Goals as goal

pub returns : goal.returns
returns c = λ options origin mail value is. line_whole options origin mail value is
