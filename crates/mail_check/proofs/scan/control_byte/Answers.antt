use Rattle.std.proofs.Common.{◌∙◌, ◌-◌, drop, length, take, rules, sym, ap, tests}
use Rattle.std.specs.Prelude.{option_map, ◌+◌}
use Rattle.std.proofs.lemmas.Iterator.{YieldsList-from_slice}
use Rattle.std.proofs.lemmas.Iterator.Search.{position_from_yields_List}
use Rattle.mail_check.specs.Bytes.{is_control}
use Rattle.mail_check.proofs.lemmas.Bytes.{place_after, position_place}
use Rattle.mail_check.proofs.scan.control_byte.Goals as goal

pub returns-in-Some : goal.returns-in-Some
returns-in-Some c =
    let bytes = c.args.bytes.now in
    let found = position_from_yields_List is_control _ _ c.position.result c.position.ensures.ran (YieldsList-from_slice _ c.iter.ensures.rest) (λ x b q k. search (rules, tests)) ∙ position_place is_control (take (length bytes - c.plain_len-from.result) (drop c.plain_len-from.result bytes)) in
    ap (option_map (λ p. c.plain_len-from.result + p)) (sym c.in-Some.is)
    ∙ place_after is_control bytes c.plain_len-from.result c.plain_len-from.ensures.bounds c.plain_len-from.ensures.passed c.position.result found

pub returns-in-None : goal.returns-in-None
returns-in-None c =
    let bytes = c.args.bytes.now in
    let found = position_from_yields_List is_control _ _ c.position.result c.position.ensures.ran (YieldsList-from_slice _ c.iter.ensures.rest) (λ x b q k. search (rules, tests)) ∙ position_place is_control (take (length bytes - c.plain_len-from.result) (drop c.plain_len-from.result bytes)) in
    ap (option_map (λ p. c.plain_len-from.result + p)) (sym c.in-None.is)
    ∙ place_after is_control bytes c.plain_len-from.result c.plain_len-from.ensures.bounds c.plain_len-from.ensures.passed c.position.result found
