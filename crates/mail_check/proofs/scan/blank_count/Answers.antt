use Rattle.std.proofs.Common.{◌∙◌, ap, length, rules, tests}
use Rattle.std.specs.Prelude.{not}
use Rattle.std.specs.Option.{unwrap_or}
use Rattle.std.proofs.lemmas.Iterator.{YieldsList-from_slice}
use Rattle.std.proofs.lemmas.Iterator.Search.{position_from_yields_List}
use Rattle.mail_codec.specs.Ascii.{is_blank}
use Rattle.mail_check.proofs.lemmas.Bytes.{first_unwrapped}
use Rattle.mail_check.proofs.scan.blank_count.Goals as goal

pub returns-clause-value : goal.returns-clause-value
returns-clause-value c =
    c.unwrap_or.ensures
    ∙ ap (λ o. unwrap_or o (length c.args.bytes.now))
    (position_from_yields_List (λ b. not (is_blank b)) _ _ c.position.result c.position.ensures.ran (YieldsList-from_slice _ c.iter.ensures.rest) (λ x b q k. search (rules, tests)))
    ∙ first_unwrapped (λ b. not (is_blank b)) c.args.bytes.now
