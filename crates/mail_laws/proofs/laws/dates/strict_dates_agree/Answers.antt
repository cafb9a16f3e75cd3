use Rattle.std.proofs.Common.{refl}
use Rattle.mail_laws.proofs.lemmas.StrictDates.{strict-read}
use Rattle.mail_laws.proofs.lemmas.StrictDatesLenient.{lenient-read}
use Rattle.mail_laws.proofs.laws.dates.strict_dates_agree.Goals as goal

pub returns : goal.returns
returns c = record {
  port = strict-read;
  lenient = lenient-read;
  example = record {
    week_day = refl;
    day = refl;
    month = refl;
    year = refl;
    exists = refl;
    hour = refl;
    minute = refl;
    second = refl;
    sign = refl;
    zone = refl;
    after = refl;
  };
  example_text = refl;
  example_seconds = refl;
}
