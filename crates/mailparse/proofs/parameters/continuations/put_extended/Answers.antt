use Rattle.std.proofs.Common.{◌≡◌, cond, Some, String, map, option_map, sym, ap, ◌∙◌}
use Rattle.std.proofs.lemmas.Iterator.Consumers.{YieldsList-end, YieldsList-from_rest}
use Rattle.std.proofs.lemmas.List.{map_push}
use Rattle.std.proofs.lemmas.Map.Views.{All-found, All-turn}
use Rattle.std.specs.BTreeMap.{get}
use Rattle.std.specs.Global.{Global}
use Rattle.std.specs.Option.{option_or}
use Rattle.std.specs.Str.{bytes_eq}
use Rattle.std.specs.String.{string_bytes, string_cmp, string_cmp_total}
use Rattle.mailparse.specs.Sections.{alone}
use Rattle.mailparse.specs.private.Sections.{section_view, sections_at}
use Rattle.mailparse.specs.Pairs.{text_at}
use Rattle.mailparse.specs.private.Filled.{filled, holds_name}
use Rattle.mailparse.specs.declared.parameters.sections.Section.{Section}
use Rattle.mailparse.proofs.lemmas.Filled.{filled_all, filled_push, taken_name}
use Rattle.mailparse.proofs.lemmas.Sections.{names_taken, unnamed}
use Rattle.mailparse.proofs.parameters.continuations.put_extended.Goals as goal

pub loop-name-preserved : goal.loop-name-preserved
loop-name-preserved g c = λ q.
    let t = text_at c.args.texts.now in
    let p = sections_at g.C.Decode.text c.args.extended in
    let name = string_bytes c.in-Some.name in
    let names = map taken_name c.loop-name.yielded in
    let e : String Global × Section g.row.C.Denot = (c.in-Some.name, c.in-Some.section) in
    let gives = c.into_iter-name-iterator.ensures.into_iter_gives in
    let turn : get string_cmp c.args.extended c.in-Some.name ≡ Some c.in-Some.section =
    All-turn (λ x. x) (λ (e : String Global × Section g.row.C.Denot). get string_cmp c.args.extended e.0 ≡ Some e.1) c.args.extended.entries c.loop-name.yielded _ _ _ _ _
    (All-found string_cmp_total c.args.extended gives.5) gives.0 c.loop-name.yielded_by c.in-Some.is c.next.ensures.steps in
    let is = ap (λ o. option_or (option_map alone (option_map (section_view g.C.Decode.text) o)) (t name)) turn in
    filled_push (λ z. option_or (option_map alone (p z)) (t z)) t names name q (text_at c.loop-name.texts q) _ (c.loop-name.invariant q)
    (c.in_ok-put_text.ensures q
    ∙ ap (λ v. cond (bytes_eq name q) (Some v) (text_at c.loop-name.texts q)) c.in_ok-text_alone.ensures
    ∙ ap (λ o. cond (bytes_eq name q) o (text_at c.loop-name.texts q)) (sym is))
    ∙ ap (λ ns. filled (λ z. option_or (option_map alone (p z)) (t z)) t ns q) (sym (map_push taken_name c.loop-name.yielded e))

pub returns : goal.returns
returns g c = λ q.
    let t = text_at c.args.texts.now in
    let p = sections_at g.C.Decode.text c.args.extended in
    let gives = c.into_iter-name-iterator.ensures.into_iter_gives in
    let all = YieldsList-end (YieldsList-from_rest c.args.extended.entries gives.0) c.loop-name.yielded _ c.loop-name.yielded_by _ _ c.in-None.is c.next.ensures.steps in
    filled_all (λ z. option_or (option_map alone (p z)) (t z)) t (map taken_name c.loop-name.yielded) q (text_at c.loop-name.texts q) (c.loop-name.invariant q)
    (λ none. ap (λ o. option_or (option_map alone (option_map (section_view g.C.Decode.text) o)) (t q)) (unnamed q c.args.extended (ap (λ ns. holds_name ns q) (sym (names_taken c.loop-name.yielded c.args.extended.entries all.0)) ∙ none)))
