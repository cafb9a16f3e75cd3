use Rattle.std.proofs.Common.{◌+◌, min, length, refl, sym, ap, ◌∙◌, arith}
use Rattle.mail_codec.specs.Uuencode.{begins_file}
use Rattle.mail_codec.proofs.lemmas.Uuencode.{at_begin, at_passed, end_begin, line_at-is}
use Rattle.mail_codec.proofs.transfer.uuencode.find_begin.Goals as goal

pub returns-then-begins_file-clause-place : goal.returns-then-begins_file-clause-place
returns-then-begins_file-clause-place c =
    sym (at_begin c.args.text.now c.lines.at c.line_end-end.result (min (c.line_end-end.result + 1) (length c.args.text.now)) (omega (arith, c.lines-test.true)) c.line_end-end.ensures.value refl
    _ refl (sym c.begins_file.ensures ∙ c.if-begins_file.true))
    ∙ c.lines.invariant.same

pub lines-preserved : goal.lines-preserved
lines-preserved c =
    record {
      within = omega (arith, c.min-next.ensures);
      same =
          sym (at_passed c.args.text.now c.lines.at c.line_end-end.result c.min-next.result (omega (arith, c.lines-test.true)) c.line_end-end.ensures.value c.min-next.ensures
          _ refl (sym c.begins_file.ensures ∙ c.if-begins_file.false))
          ∙ c.lines.invariant.same;
    }

pub returns-clause-place : goal.returns-clause-place
returns-clause-place c = sym (end_begin c.args.text.now c.lines.at (omega (arith, c.lines-test.false))) ∙ c.lines.invariant.same

pub returns-then-begins_file-clause-begins : goal.returns-then-begins_file-clause-begins
returns-then-begins_file-clause-begins c =
    ap begins_file (sym (line_at-is c.args.text.now c.lines.at c.line_end-end.result c.line_end-end.ensures.value)) ∙ sym c.begins_file.ensures ∙ c.if-begins_file.true
