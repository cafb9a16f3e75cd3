use Rattle.std.proofs.Common.{arith}
use Rattle.mailparse.proofs.lemmas.Tokens.{token_ranges_fit, tokens_adjoin, tokens_make_line}
use Rattle.mail_laws.proofs.laws.values.tokens_make_up_line.Goals as goal

pub returns : goal.returns
returns c = record { adjoin = λ known line. tokens_adjoin known (token_ranges_fit known line) (omega arith); bytes = tokens_make_line }
