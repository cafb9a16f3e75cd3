use Rattle.std.proofs.Common.{◌≡◌, false, true, length, map, is_some, sym, ap, ◌∙◌}
use Rattle.std.proofs.lemmas.List.{map_push}
use Rattle.std.specs.String.{string_bytes}
use Rattle.mailparse.specs.Continuations.{joined, sections_of}
use Rattle.mailparse.specs.private.Continuations.{joined_text, left_by, without_sections}
use Rattle.mailparse.specs.private.Sections.{stored_section}
use Rattle.mailparse.specs.Pairs.{text_at}
use Rattle.mailparse.specs.private.Filled.{holds_name}
use Rattle.mailparse.proofs.lemmas.ExtendedValues.{is_some_map}
use Rattle.mailparse.proofs.lemmas.ContinuationsTaken.{all_sections, joined_again, joined_known, joined_next, left_again, left_next}
use Rattle.mailparse.proofs.parameters.continuations.joined_bases.Goals as goal

pub loop-base-preserved-in-Continue-branch-2 : goal.loop-base-preserved-in-Continue-branch-2
loop-base-preserved-in-Continue-branch-2 g c =
    let at = stored_section g.C.Decode.text c.args.sections.now in
    let now = stored_section g.C.Decode.text c.loop-base.sections in
    let base = string_bytes c.in-Some.base in
    let bases = map string_bytes c.loop-base.yielded in
    let pushed = sym (map_push string_bytes c.loop-base.yielded c.in-Some.base) in
    let other : holds_name bases base ≡ false =
    sym (joined_known at bases base _ (c.loop-base.invariant.texts base))
    ∙ ap (λ n. is_some (text_at c.loop-base.texts n)) (sym c.as_str.ensures.value) ∙ is_some_map string_bytes _ ∙ sym c.if-not-contains_key.ensures in
    let key = c.as_str-then-not-contains_key.ensures.value in
    record {
      texts = λ q.
          joined_next at bases base q (string_bytes c.in_ok-text.text) (text_at c.loop-base.texts q) _ (c.loop-base.invariant.texts q)
          (c.in_ok-text.ensures.text ∙ ap (λ n. joined (sections_of now n)) key ∙ ap joined (all_sections at now bases base other c.loop-base.invariant.left))
          (c.in_ok-put_text.ensures q)
          ∙ ap (λ bs. joined_text at bs q) pushed;
      left = λ q.
          left_next at now bases base q _ other c.loop-base.invariant.left
          (c.in_ok-text.ensures.left q ∙ ap (λ n. without_sections now n (length (sections_of now n)) q) key)
          ∙ ap (λ bs. left_by at bs q) pushed;
    }

pub loop-base-preserved : goal.loop-base-preserved
loop-base-preserved g c =
    let at = stored_section g.C.Decode.text c.args.sections.now in
    let base = string_bytes c.in-Some.base in
    let bases = map string_bytes c.loop-base.yielded in
    let pushed = sym (map_push string_bytes c.loop-base.yielded c.in-Some.base) in
    let held : holds_name bases base ≡ true =
    sym (joined_known at bases base _ (c.loop-base.invariant.texts base))
    ∙ ap (λ n. is_some (text_at c.loop-base.texts n)) (sym c.as_str.ensures.value) ∙ is_some_map string_bytes _ ∙ sym c.if-not-contains_key.ensures in
    record {
      texts = λ q. joined_again at bases base q (text_at c.loop-base.texts q) (c.loop-base.invariant.texts q) held ∙ ap (λ bs. joined_text at bs q) pushed;
      left = λ q. left_again at bases base q (stored_section g.C.Decode.text c.loop-base.sections q) held (c.loop-base.invariant.left q) ∙ ap (λ bs. left_by at bs q) pushed;
    }
