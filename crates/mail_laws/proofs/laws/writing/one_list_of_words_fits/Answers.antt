use Rattle.mail_address.proofs.lemmas.Encode.{words_fit, words_only}
use Rattle.mail_laws.proofs.laws.writing.one_list_of_words_fits.Goals as goal

pub returns : goal.returns
returns c = record { fits = words_fit; only = λ characters words h. words_only h }
