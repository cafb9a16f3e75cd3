use Rattle.std.proofs.Common.{ap, sym, subst, ◌∙◌}
use Rattle.std.proofs.lemmas.List.{nil_from_length}
use Rattle.std.proofs.lemmas.Str.{IsUtf8-past_char}
use Rattle.std.specs.Str.{IsUtf8}
use Rattle.mail_read.proofs.lemmas.FileNames.{characters-end, characters-more, characters-start}
use Rattle.mail_read.proofs.files.names.characters.Goals as goal

pub loop-c-init : goal.loop-c-init
loop-c-init c =
    let all = ap (λ i. i.rest.now) c.into_iter-c-iterator.ensures.into_iter_gives ∙ c.chars-c-items.ensures.rest in
    record { utf8 = subst IsUtf8 (sym all) c.utf8.name; made = characters-start c.args.name.now _ _ c.new-characters.ensures.items all }

pub loop-c-preserved : goal.loop-c-preserved
loop-c-preserved c =
    let rest = c.loop-c.c-iterator.rest.now in
    let next = c.next.new.self.rest.now in
    record {
      utf8 = IsUtf8-past_char rest next c.in-Some.c c.loop-c.invariant.utf8 c.in-Some.ensures.steps.0;
      made =
          characters-more c.loop-c.characters.items _ rest next c.in-Some.c c.loop-c.invariant.utf8 c.in-Some.ensures.steps.0 c.in_ok-push.ensures.items
          ∙ c.loop-c.invariant.made;
    }

pub returns : goal.returns
returns c = characters-end c.loop-c.characters.items _ (nil_from_length _ c.in-None.ensures.steps.0.0) ∙ c.loop-c.invariant.made
