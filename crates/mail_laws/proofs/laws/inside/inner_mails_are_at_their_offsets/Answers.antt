use Rattle.mail_laws.proofs.lemmas.InnerMails.{inner_mails-at, inner_mails_as-at, inner_mails_within-at}
use Rattle.mail_laws.proofs.laws.inside.inner_mails_are_at_their_offsets.Goals as goal

pub returns : goal.returns
returns c = record { read = inner_mails_as-at; strict = inner_mails-at; programs = inner_mails_within-at }
