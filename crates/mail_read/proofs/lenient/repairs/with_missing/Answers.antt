use Rattle.std.proofs.Common.{List, ℕ, ap, sym, subst, ◌∙◌, ◌++◌, rules}
use Rattle.std.proofs.lemmas.List.{nil_from_length}
use Rattle.std.proofs.lemmas.Str.{IsUtf8-past_char}
use Rattle.std.specs.Char.{encode_utf8}
use Rattle.std.specs.Str.{chars, IsUtf8}
use Rattle.std.specs.String.{string_bytes}
use Rattle.mail_read.specs.lenient.Repairs.{after, missing, settled}
use Rattle.mail_read.proofs.lemmas.lenient.Repairs.{repaired-end, repaired-next, repaired-start}
use Rattle.mail_read.proofs.lenient.repairs.with_missing.Goals as goal

pub loop-c-init : goal.loop-c-init
loop-c-init c =
    let all = c.chars-chars.ensures.rest in
    record {
      utf8 = subst IsUtf8 (sym all) c.utf8.text;
      text = search rules;
      left = search rules;
      made = repaired-start c.args.text.now _ _ _ c.new-made.ensures.bytes all c.extended_are_alone-is_alone.ensures;
    }

pub loop-c-preserved : goal.loop-c-preserved
loop-c-preserved c =
    let rest = c.loop-c.chars.rest.now in
    let next = c.next.new.self.rest.now in
    let left = c.loop-c.invariant.left in
    let moved = c.in_ok-position.ensures.position ∙ ap (λ (l : List ℕ). after (settled c.loop-c.position (chars l)) c.in-Some.c) left in
    let written = c.in_ok-position.ensures.written
    ∙ ap (λ (l : List ℕ). string_bytes c.loop-c.made ++ (missing c.extended_are_alone-is_alone.result (settled c.loop-c.position (chars l)) (chars l) ++ encode_utf8 c.in-Some.c)) left in
    record {
      utf8 = IsUtf8-past_char rest next c.in-Some.c c.loop-c.invariant.utf8 c.in-Some.ensures.steps.0;
      text = search rules;
      left = search rules;
      made = repaired-next (string_bytes c.loop-c.made) _ rest next c.extended_are_alone-is_alone.result c.loop-c.position _ c.in-Some.c c.loop-c.invariant.utf8
          c.in-Some.ensures.steps.0 moved written
          ∙ c.loop-c.invariant.made;
    }

pub returns : goal.returns
returns c =
    sym (repaired-end (string_bytes c.loop-c.made) _ c.loop-c.chars.rest.now c.extended_are_alone-is_alone.result c.loop-c.position (nil_from_length _ c.in_default.ensures.steps.0.0)
    (c.in_ok-push_str.ensures.bytes ∙ ap (λ (t : List ℕ). string_bytes c.loop-c.made ++ t) c.missing_at_end.ensures))
    ∙ c.loop-c.invariant.made
