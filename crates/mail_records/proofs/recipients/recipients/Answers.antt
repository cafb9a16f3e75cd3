use Rattle.std.proofs.Common.{inl, inr, ⊎_elim}
use Rattle.mailparse.specs.Views.{tree_of}
use Rattle.mail_read.specs.Reading.{mail_reading}
use Rattle.mail_records.specs.Results.{no_limit}
use Rattle.mail_records.proofs.lemmas.Records.{refused_code}
use Rattle.mail_records.proofs.lemmas.Recipients.{recipients_are, recipients_refused}
use Rattle.mail_records.proofs.recipients.recipients.Goals as goal

pub returns-in-Err : goal.returns-in-Err
returns-in-Err g c =
    let known = g.K.KnownCharsets.known c.args.known.now in
    let raw = c.args.raw.now in
    ⊎_elim (λ memory. inl memory) (λ refused. inr (recipients_refused known raw _ refused))
    (refused_code c.in-Err.error (mail_reading known no_limit raw) _ c.in-Err.ensures.read c.code_of.ensures)

pub returns-in-Ok-mail_recipients : goal.returns-in-Ok-mail_recipients
returns-in-Ok-mail_recipients g c =
    recipients_are (g.K.KnownCharsets.known c.args.known.now) c.args.raw.now (tree_of c.in-Ok.mail) _ c.in-Ok.ensures.read c.in-Ok-mail_recipients.ensures
