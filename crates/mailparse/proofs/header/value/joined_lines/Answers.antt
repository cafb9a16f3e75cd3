use Rattle.std.proofs.Common.{◌++◌, string_bytes, sym, ap, ◌∙◌, arith}
use lib.Utf8.{encode}
use Rattle.std.proofs.lemmas.Bool.{eqb-false}
use Rattle.mailparse.proofs.lemmas.ValueJoined.{joined_more}
use Rattle.mailparse.proofs.header.value.joined_lines.Goals as goal

pub lines-preserved : goal.lines-preserved
unfolding encode
lines-preserved c =
    let some = eqb-false _ 0 (sym c.is_empty.ensures ∙ c.if-is_empty.false) in
    record {
      utf8 = c.in-Some.ensures.utf8;
      joined = joined_more c.lines.left.now c.in-Some.line.now c.in-Some.rest.now (string_bytes c.lines.joined) _ _ _ c.in-Some.ensures.cut
          (omega (arith, some)) c.lines.invariant.joined
          (c.in_ok-push_str.ensures.bytes ∙ ap (λ t. string_bytes c.lines.joined ++ t) c.trim_start.ensures.trim) c.in_ok-push.ensures.bytes;
    }
