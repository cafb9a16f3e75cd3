use Rattle.std.proofs.Common.{ap, lit<, ◌∙◌}
use Rattle.std.proofs.lemmas.Str.Pattern.{strip_prefix_char}
use Rattle.mail_data.proofs.lemmas.Flowed.{unstuffed-either}
use Rattle.mail_data.proofs.flowed.unstuffed.Goals as goal

pub returns : goal.returns
returns c =
    ap (λ r. r.now) c.unwrap_or.ensures
    ∙ unstuffed-either c.args.text _ (strip_prefix_char 32 c.args.text.now _ c.strip_prefix.ensures.cases (lit< tt))
