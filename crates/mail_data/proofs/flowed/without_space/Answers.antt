use Rattle.std.proofs.Common.{ap, lit<, ◌∙◌}
use Rattle.std.proofs.lemmas.Str.Pattern.{strip_suffix_char}
use Rattle.mail_data.proofs.lemmas.Flowed.{without_space-either}
use Rattle.mail_data.proofs.flowed.without_space.Goals as goal

pub returns : goal.returns
returns c =
    ap (λ r. r.now) c.unwrap_or.ensures
    ∙ without_space-either c.args.text _ (strip_suffix_char 32 c.args.text.now _ c.strip_suffix.ensures.cases (lit< tt))
