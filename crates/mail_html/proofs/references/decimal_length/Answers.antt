use Rattle.std.proofs.Common.{◌∙◌, ℕ, ap, length, not, rules, tests}
use Rattle.std.specs.Option.{unwrap_or}
use Rattle.std.proofs.lemmas.Iterator.{YieldsList-from_slice}
use Rattle.std.proofs.lemmas.Iterator.Search.{position_from_yields_List}
use Rattle.std.specs.Char.{is_ascii_digit}
use Rattle.mail_html.proofs.lemmas.Scans.{prefix_unwrapped}
use Rattle.mail_html.proofs.references.decimal_length.Goals as goal

pub returns-clause-value : goal.returns-clause-value
returns-clause-value c =
    c.unwrap_or.ensures
    ∙ ap (λ o. unwrap_or o (length c.args.bytes.now))
    (position_from_yields_List (λ (x : ℕ). not (is_ascii_digit x)) _ _ c.position.result c.position.ensures.ran (YieldsList-from_slice _ c.iter.ensures.rest) (λ x b q k. search (rules, tests)))
    ∙ prefix_unwrapped is_ascii_digit c.args.bytes.now
