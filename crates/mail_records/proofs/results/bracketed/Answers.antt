use Rattle.std.proofs.Common.{◌+◌, ◌∷◌, map, drop, sym, ap, ◌∙◌, arith}
use Rattle.std.proofs.lemmas.List.{drop_all}
use Rattle.std.specs.String.{string_bytes}
use Rattle.mail_read.proofs.lemmas.InnerMails.{drop_next}
use Rattle.mail_records.proofs.lemmas.Ids.{all_made, more}
use Rattle.mail_records.proofs.results.bracketed.Goals as goal

pub loop-id-preserved : goal.loop-id-preserved
loop-id-preserved c =
    let rest = map (λ t. string_bytes t) (drop (c.loop-id.id-index + 1) c.args.ids.now) in
    let left =
    ap (map (λ t. string_bytes t)) (drop_next c.args.ids.now c.loop-id.id-index c.id-item.result (omega arith) c.id-item.is)
    ∙ ap (λ t. t ∷ rest) (sym c.as_bytes.ensures.value) in
    more _ c.as_bytes.result.now _ _ rest _ left c.in_ok-push_id.ensures c.loop-id.invariant

pub returns : goal.returns
returns c =
    let none = drop_all c.loop-id.id-index c.args.ids.now (omega arith) in
    all_made _ _ _ (ap (map (λ t. string_bytes t)) none) c.loop-id.invariant
