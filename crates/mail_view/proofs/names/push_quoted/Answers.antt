use Rattle.std.proofs.Common.{◌++◌, sym, ap, subst, ◌∙◌}
use Rattle.std.proofs.lemmas.List.{nil_from_length}
use Rattle.std.proofs.lemmas.Str.{IsUtf8-past_char}
use Rattle.std.specs.Str.{IsUtf8}
use Rattle.std.specs.String.{string_bytes}
use Rattle.mail_program.proofs.lemmas.Characters.{made_of, made_past, made_end}
use Rattle.mail_view.specs.Names.{quoted_character}
use Rattle.mail_view.proofs.names.push_quoted.Goals as goal

pub loop-c-init : goal.loop-c-init
loop-c-init c =
    let all = ap (λ i. i.rest.now) c.into_iter-c-iterator.ensures.into_iter_gives ∙ c.chars-c-items.ensures.rest in
    record {
      utf8 = subst IsUtf8 (sym all) c.utf8.text;
      written = ap (λ t. string_bytes c.args.shown.now ++ made_of quoted_character t) all;
    }

pub loop-c-preserved : goal.loop-c-preserved
loop-c-preserved c =
    let rest = c.loop-c.c-iterator.rest.now in
    let next = c.next.new.self.rest.now in
    record {
      utf8 = IsUtf8-past_char rest next c.in-Some.c c.loop-c.invariant.utf8 c.in-Some.ensures.steps.0;
      written = made_past quoted_character _ (string_bytes c.loop-c.shown) rest next _ c.in-Some.c c.loop-c.invariant.utf8
          c.in-Some.ensures.steps.0 c.in_ok-push_quoted_character.ensures c.loop-c.invariant.written;
    }

pub returns : goal.returns
returns c = made_end quoted_character _ _ c.loop-c.c-iterator.rest.now (nil_from_length _ c.in-None.ensures.steps.0.0) c.loop-c.invariant.written
