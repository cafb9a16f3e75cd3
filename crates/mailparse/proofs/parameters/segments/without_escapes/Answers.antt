use Rattle.std.proofs.Common.{◌≡◌, false, not, eqb, ◌&&◌}
use Rattle.std.proofs.lemmas.Str.{IsUtf8-past_char}
use Rattle.mail_codec.specs.Ascii.{backslash}
use Rattle.mailparse.proofs.lemmas.SegmentsQuoted.{unescapes_backslash, unescapes_other, stays_escaped, stays_plain}
use Rattle.mailparse.proofs.parameters.segments.without_escapes.Goals as goal
use Rattle.mailparse.proofs.parameters.segments.without_escapes.Goals.{else-c-eq92-via-then-c-eq92+else-not-is_escaped, else-c-eq92-via-else-c-eq92}

pub loop-c-preserved-then-not-is_escaped : goal.loop-c-preserved-then-not-is_escaped
loop-c-preserved-then-not-is_escaped c =
    let rest = c.loop-c.c-iterator.rest.now in
    let next = c.next.new.self.rest.now in
    record {
      utf8 = IsUtf8-past_char rest next c.in-Some.c c.loop-c.invariant.utf8 c.in-Some.ensures.steps.0;
      unescapes = unescapes_backslash c.args.text.now _ rest next c.loop-c.is_escaped c.in-Some.c c.loop-c.invariant.utf8 c.in-Some.ensures.steps.0
          c.if-c-eq92.true c.if-not-is_escaped.true c.loop-c.invariant.unescapes;
    }

pub loop-c-preserved : goal.loop-c-preserved
loop-c-preserved c =
    let rest = c.loop-c.c-iterator.rest.now in
    let next = c.next.new.self.rest.now in
    let stays : (eqb c.in-Some.c backslash && not c.loop-c.is_escaped) ≡ false = elim c.else-c-eq92.branch [
      | else-c-eq92-via-then-c-eq92+else-not-is_escaped w ↦ stays_escaped c.in-Some.c c.loop-c.is_escaped w.if-not-is_escaped.false
      | else-c-eq92-via-else-c-eq92 w ↦ stays_plain c.in-Some.c c.loop-c.is_escaped w.if-c-eq92.false
    ] in
    record {
      utf8 = IsUtf8-past_char rest next c.in-Some.c c.loop-c.invariant.utf8 c.in-Some.ensures.steps.0;
      unescapes = unescapes_other c.args.text.now _ rest next _ c.loop-c.is_escaped c.in-Some.c c.loop-c.invariant.utf8 c.in-Some.ensures.steps.0
          stays c.in_ok-push.ensures.bytes c.loop-c.invariant.unescapes;
    }
