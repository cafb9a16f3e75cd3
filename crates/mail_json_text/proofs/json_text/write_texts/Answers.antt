use Rattle.std.proofs.Common.{map, ap, arith}
use Rattle.std.proofs.lemmas.List.{drop_all}
use Rattle.std.specs.String.{string_bytes}
use Rattle.json.specs.Json.{string}
use Rattle.mail_json_text.specs.Printed.{text_of}
use Rattle.mail_json_text.proofs.lemmas.JsonText.{drop_next, wrote_all, wrote_more}
use Rattle.mail_json_text.proofs.lemmas.Objects.{list_written, value_as}
use Rattle.mail_json_text.proofs.json_text.write_texts.Goals as goal

pub loop-text-preserved : goal.loop-text-preserved
loop-text-preserved g c =
    let left = ap (λ ts. map (λ t. string t) (map (λ t. string_bytes t) ts)) (drop_next c.args.texts.now c.loop-text.text-index c.text-item.result (omega arith) c.text-item.is) in
    wrote_more text_of _ _ _ _ _ _ _ _ _ left c.loop-text.invariant c.in_ok-write_comma.ensures (value_as (λ t. string t) _ _ _ _ c.as_str.ensures.value c.in_ok-write_text.ensures)

pub returns : goal.returns
returns g c =
    let none = ap (λ ts. map (λ t. string t) (map (λ t. string_bytes t) ts)) (drop_all c.loop-text.text-index c.args.texts.now (omega arith)) in
    list_written _ _ _ _ _ _ c.in_ok-write_word.ensures (wrote_all text_of _ _ _ _ _ none c.loop-text.invariant) c.write_word-2.ensures
