use Rattle.std.proofs.Common.{List, ◌∷◌, ◌+◌, drop, map, ap, sym, ◌∙◌, arith}
use Rattle.std.proofs.lemmas.List.{drop_all}
use Rattle.mailparse.proofs.lemmas.Mail.{trees_within-out}
use Rattle.mailparse.specs.Mail.{forest, trees_in, trees_within}
use Rattle.mailparse.specs.Views.{tree_of}
use Rattle.mailparse.specs.declared.mail.message.ParsedMail.{ParsedMail}
use Rattle.mail_json.proofs.lemmas.Bounced.{first_dropped, more_dropped, none_dropped}
use Rattle.mail_json_text.proofs.lemmas.JsonText.{drop_next}
use Rattle.mail_json.proofs.bounced.«+after_part».Goals as goal

pub loop-own-init : goal.loop-own-init
loop-own-init t c =
    let part = c.args.part.now in
    let whole = trees_within-out part ∙ ap (λ (ms : List ParsedMail). tree_of part ∷ trees_in (forest (map tree_of ms))) (sym c.deref-own-items.ensures.value) in
    first_dropped (tree_of part) _ _ c.args.parts.now _ whole c.after_first-rest.ensures

pub loop-own-preserved : goal.loop-own-preserved
loop-own-preserved t c =
    let items = c.deref-own-items.result.now in
    let own = c.own-item.result in
    let left = ap (λ (ms : List ParsedMail). trees_in (forest (map tree_of ms))) (drop_next items c.loop-own.own-index own (omega arith) c.own-item.is) in
    more_dropped (trees_within (tree_of own)) (trees_in (forest (map tree_of (drop (c.loop-own.own-index + 1) items)))) _ _ _ _ left c.after_part-rest.ensures c.loop-own.invariant

pub returns : goal.returns
returns t c =
    let none = ap (λ (ms : List ParsedMail). trees_in (forest (map tree_of ms))) (drop_all c.loop-own.own-index c.deref-own-items.result.now (omega arith)) in
    none_dropped _ _ _ none c.loop-own.invariant
