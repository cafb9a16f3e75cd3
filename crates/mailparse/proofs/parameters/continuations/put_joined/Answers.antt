use Rattle.std.proofs.Common.{◌≡◌, cond, Some, String, map, option_map, is_some, sym, ap, ◌∙◌}
use Rattle.std.proofs.lemmas.Iterator.Consumers.{YieldsList-end, YieldsList-from_rest}
use Rattle.std.proofs.lemmas.List.{map_push}
use Rattle.std.proofs.lemmas.Map.Views.{All-found, All-turn}
use Rattle.std.specs.BTreeMap.{get}
use Rattle.std.specs.Global.{Global}
use Rattle.std.specs.Option.{option_or}
use Rattle.std.specs.Str.{bytes_eq}
use Rattle.std.specs.String.{string_bytes, string_cmp, string_cmp_total}
use Rattle.mailparse.specs.Pairs.{text_at}
use Rattle.mailparse.specs.private.Filled.{filled, holds_name}
use Rattle.mailparse.proofs.lemmas.ContinuationsBases.{base_kept, base_put}
use Rattle.mailparse.proofs.lemmas.Filled.{filled_all, filled_push, taken_name}
use Rattle.mailparse.proofs.lemmas.Sections.{names_taken, or_none, unnamed}
use Rattle.mailparse.proofs.lemmas.ExtendedValues.{is_some_map}
use Rattle.mailparse.proofs.parameters.continuations.put_joined.Goals as goal

pub loop-base-preserved-in-Continue-1 : goal.loop-base-preserved-in-Continue-1
loop-base-preserved-in-Continue-1 c = λ q.
    let t = text_at c.args.texts.now in
    let b = text_at c.args.bases in
    let name = string_bytes c.in-Some.base in
    let names = map taken_name c.loop-base.yielded in
    let e : String Global × String Global = (c.in-Some.base, c.in-Some.text) in
    let gives = c.into_iter-base-iterator.ensures.into_iter_gives in
    let turn : get string_cmp c.args.bases c.in-Some.base ≡ Some c.in-Some.text =
    All-turn (λ x. x) (λ (e : String Global × String Global). get string_cmp c.args.bases e.0 ≡ Some e.1) c.args.bases.entries c.loop-base.yielded _ _ _ _ _
    (All-found string_cmp_total c.args.bases gives.5) gives.0 c.loop-base.yielded_by c.in-Some.is c.next.ensures.steps in
    let absent = ap (λ n. is_some (text_at c.loop-base.texts n)) (sym c.as_str.ensures.value) ∙ is_some_map string_bytes _ ∙ sym c.if-not-contains_key.ensures in
    filled_push (λ z. option_or (t z) (b z)) t names name q (text_at c.loop-base.texts q) _ (c.loop-base.invariant q)
    (c.in_ok-put_text.ensures q
    ∙ ap (λ o. cond (bytes_eq name q) o (text_at c.loop-base.texts q)) (sym (base_put t b names name (string_bytes c.in-Some.text) _ (c.loop-base.invariant name) absent (ap (option_map string_bytes) turn))))
    ∙ ap (λ ns. filled (λ z. option_or (t z) (b z)) t ns q) (sym (map_push taken_name c.loop-base.yielded e))

pub loop-base-preserved : goal.loop-base-preserved
loop-base-preserved c = λ q.
    let t = text_at c.args.texts.now in
    let b = text_at c.args.bases in
    let name = string_bytes c.in-Some.base in
    let names = map taken_name c.loop-base.yielded in
    let e : String Global × String Global = (c.in-Some.base, c.in-Some.text) in
    let present = ap (λ n. is_some (text_at c.loop-base.texts n)) (sym c.as_str.ensures.value) ∙ is_some_map string_bytes _ ∙ sym c.if-not-contains_key.ensures in
    base_kept t b names name q (text_at c.loop-base.texts q) _ (c.loop-base.invariant q) (c.loop-base.invariant name) present
    ∙ ap (λ ns. filled (λ z. option_or (t z) (b z)) t ns q) (sym (map_push taken_name c.loop-base.yielded e))

pub returns : goal.returns
returns c = λ q.
    let t = text_at c.args.texts.now in
    let b = text_at c.args.bases in
    let gives = c.into_iter-base-iterator.ensures.into_iter_gives in
    let all = YieldsList-end (YieldsList-from_rest c.args.bases.entries gives.0) c.loop-base.yielded _ c.loop-base.yielded_by _ _ c.in-None.is c.next.ensures.steps in
    filled_all (λ z. option_or (t z) (b z)) t (map taken_name c.loop-base.yielded) q (text_at c.loop-base.texts q) (c.loop-base.invariant q)
    (λ none. ap (option_or (t q)) (ap (option_map string_bytes) (unnamed q c.args.bases (ap (λ ns. holds_name ns q) (sym (names_taken c.loop-base.yielded c.args.bases.entries all.0)) ∙ none))) ∙ or_none (t q))
