use Rattle.std.proofs.Common.{length, rules, sym, ◌∙◌, arith}
use Rattle.std.specs.Str.{chars}
use Rattle.std.proofs.lemmas.Iterator.{YieldsList-from_chars}
use Rattle.std.proofs.lemmas.Iterator.Consumers.{YieldsList-turn, YieldsList-end}
use Rattle.std.proofs.lemmas.List.{length_push}
use Rattle.mailparse.proofs.lemmas.Map.{same-none, same-differs, same-more, same-end, same_name}
use Rattle.mailparse.proofs.headers.map.is_spelled_by.Goals as goal

pub returns-in_default : goal.returns-in_default
returns-in_default c =
    let t = YieldsList-turn (YieldsList-from_chars c.args.name.now c.utf8.name cc) c.loop-character.yielded _ c.loop-character.yielded_by _ _ c.in-Some.character c.in-Some.is c.next.ensures.steps in
    sym (c.loop-character.invariant ∙ same-none c.loop-character.rest.now (chars c.args.name.now) (length c.loop-character.yielded) t.0 (search rules))

pub returns-then-not-eq_ignore_ascii_case : goal.returns-then-not-eq_ignore_ascii_case
returns-then-not-eq_ignore_ascii_case c =
    let t = YieldsList-turn (YieldsList-from_chars c.args.name.now c.utf8.name cc) c.loop-character.yielded _ c.loop-character.yielded_by _ _ c.in-Some.character c.in-Some.is c.next.ensures.steps in
    sym (c.loop-character.invariant ∙ same-differs c.loop-character.rest.now (chars c.args.name.now) (length c.loop-character.yielded) c.in-Some-split_first.byte.now c.in-Some.character c.in-Some-split_first.others.now c.in-Some-split_first.ensures.cases.0 t.0 t.1 (search rules))

pub loop-character-preserved : goal.loop-character-preserved
loop-character-preserved c =
    let t = YieldsList-turn (YieldsList-from_chars c.args.name.now c.utf8.name cc) c.loop-character.yielded _ c.loop-character.yielded_by _ _ c.in-Some.character c.in-Some.is c.next.ensures.steps in
    let n = length_push c.loop-character.yielded c.in-Some.character in
    rw n (c.loop-character.invariant ∙ same-more c.loop-character.rest.now (chars c.args.name.now) (length c.loop-character.yielded) c.in-Some-split_first.byte.now c.in-Some.character c.in-Some-split_first.others.now c.in-Some-split_first.ensures.cases.0 t.0 t.1 (search rules))

pub returns : goal.returns
returns c =
    let t = YieldsList-end (YieldsList-from_chars c.args.name.now c.utf8.name cc) c.loop-character.yielded _ c.loop-character.yielded_by _ _ c.in-None.is c.next.ensures.steps in
    sym (c.loop-character.invariant ∙ same-end c.loop-character.rest.now (chars c.args.name.now) (length c.loop-character.yielded) (omega (arith, t.1)) c.is_empty.result c.is_empty.ensures)

pub loop-character-init : goal.loop-character-init
loop-character-init c = same_name c.args.key.now c.args.name.now (λ i. omega (arith, c.type_inv.key i)) c.utf8.name
