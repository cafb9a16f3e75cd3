use Rattle.mailparse.proofs.lemmas.Tokens.{token_ranges_fit, token_ranges_only}
use Rattle.mail_laws.proofs.laws.values.one_list_of_tokens_fits.Goals as goal

pub returns : goal.returns
returns c = record { fits = token_ranges_fit; only = token_ranges_only }
