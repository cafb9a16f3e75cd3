use Rattle.std.proofs.Common.{length, sym, ap, subst, ◌∙◌, arith}
use Rattle.std.proofs.lemmas.List.{nil_from_length}
use Rattle.std.proofs.lemmas.Str.{IsUtf8-past_char}
use Rattle.std.specs.Str.{IsUtf8}
use Rattle.mail_read.proofs.lemmas.lenient.Comments.{kept-start, kept-end, kept-next, shorter}
use Rattle.mail_read.proofs.lenient.comments.outside_comments.Goals as goal

pub loop-c-init : goal.loop-c-init
loop-c-init c =
    let all = ap (λ i. i.rest.now) c.into_iter-c-iterator.ensures.into_iter_gives ∙ c.chars-c-items.ensures.rest in
    record {
      utf8 = subst IsUtf8 (sym all) c.utf8.text;
      small = let same = ap length all in omega (arith, same);
      kept = kept-start c.args.text.now _ _ c.new-kept.ensures.bytes all;
    }

pub loop-c-preserved : goal.loop-c-preserved
loop-c-preserved c =
    let rest = c.loop-c.c-iterator.rest.now in
    let next = c.next.new.self.rest.now in
    let less = shorter rest next c.in-Some.c c.in-Some.ensures.steps.0 in
    record {
      utf8 = IsUtf8-past_char rest next c.in-Some.c c.loop-c.invariant.utf8 c.in-Some.ensures.steps.0;
      small = omega (arith, less, c.depth_beside-after.ensures.bounds);
      kept = kept-next _ _ rest next c.loop-c.in_string c.loop-c.is_quoted _ _ c.loop-c.depth _ c.in-Some.c c.loop-c.invariant.utf8 c.in-Some.ensures.steps.0
          c.depth_beside-after.ensures.value c.string_after-in_string.ensures c.quotes_next-is_quoted.ensures c.in_ok-push_outside.ensures
          ∙ c.loop-c.invariant.kept;
    }

pub returns : goal.returns
returns c = sym (kept-end _ c.loop-c.c-iterator.rest.now _ _ _ (nil_from_length _ c.in-None.ensures.steps.0.0)) ∙ c.loop-c.invariant.kept
