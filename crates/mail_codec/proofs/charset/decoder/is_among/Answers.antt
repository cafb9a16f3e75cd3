use Rattle.std.proofs.Common.{sym, ◌∙◌, rules, tests}
use Rattle.std.specs.Str.{str_eq_ignore_ascii_case}
use Rattle.std.proofs.lemmas.Iterator.{YieldsList-from_slice}
use Rattle.std.proofs.lemmas.Iterator.Search.{any_from_yields_List}
use Rattle.mail_codec.proofs.lemmas.CharsetLabels.{is_among_labels-referred}
use Rattle.mail_codec.proofs.charset.decoder.is_among.Goals as goal

pub returns : goal.returns
returns c =
    any_from_yields_List (λ x. str_eq_ignore_ascii_case c.args.label.now x.now) _ _ _ c.any.ensures.ran (YieldsList-from_slice c.args.labels.now cc) (λ x b q k. search (rules, tests))
    ∙ sym (is_among_labels-referred c.args.labels.now c.args.label.now)
