use Rattle.std.proofs.Common.{List, ℕ, sym, subst, ◌∙◌, rules}
use Rattle.std.proofs.lemmas.List.{nil_from_length}
use Rattle.std.proofs.lemmas.Str.{IsUtf8-past_char}
use Rattle.std.specs.Str.{IsUtf8}
use Rattle.std.specs.String.{string_bytes}
use Rattle.mail_read.proofs.lemmas.lenient.Quoting.{quoted-end, quoted-next}
use Rattle.mail_read.proofs.lenient.quoting.in_quotes.Goals as goal

pub loop-c-preserved : goal.loop-c-preserved
loop-c-preserved c =
    let rest = c.loop-c.c-iterator.rest.now in
    let next = c.next.new.self.rest.now in
    record {
      utf8 = IsUtf8-past_char rest next c.in-Some.c c.loop-c.invariant.utf8 c.in-Some.ensures.steps.0;
      made = quoted-next (string_bytes c.loop-c.made) _ rest next c.in-Some.c c.loop-c.invariant.utf8 c.in-Some.ensures.steps.0
          c.in_ok-push_escaped.ensures
          ∙ c.loop-c.invariant.made;
    }

pub returns : goal.returns
returns c =
    quoted-end (string_bytes c.loop-c.made) _ c.loop-c.c-iterator.rest.now (nil_from_length _ c.in-None.ensures.steps.0.0) c.in_ok-push-2.ensures.bytes
    ∙ c.loop-c.invariant.made
