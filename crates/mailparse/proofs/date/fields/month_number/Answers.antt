use Rattle.std.proofs.Common.{sym, ap, ◌∙◌}
use Rattle.std.specs.Prelude.{ok_or}
use Rattle.mailparse.specs.Date.{month_of, unrecognized_month}
use Rattle.mail_codec.specs.Calendar.{months}
use Rattle.mail_codec.specs.Names.{look_up}
use Rattle.mailparse.proofs.date.fields.month_number.Goals as goal

pub returns-in-Some-clause-read : goal.returns-in-Some-clause-read
unfolding month_of
returns-in-Some-clause-read c =
    ap (λ month. ok_or month unrecognized_month) (ap (look_up months) (sym c.as_bytes.ensures.value) ∙ sym c.month_named.ensures.value ∙ c.in-Some.is)

pub returns-in-None-clause-read : goal.returns-in-None-clause-read
unfolding month_of
returns-in-None-clause-read c =
    ap (λ month. ok_or month unrecognized_month) (ap (look_up months) (sym c.as_bytes.ensures.value) ∙ sym c.month_named.ensures.value ∙ c.in-None.is)
