use Rattle.mail_laws.proofs.lemmas.WordTokens.{whitespace-between, line_end-between}
use Rattle.mail_laws.proofs.laws.values.adjacent_words_join.Goals as goal

pub returns : goal.returns
returns c = record { whitespace_between = whitespace-between; line_end_between = line_end-between }
