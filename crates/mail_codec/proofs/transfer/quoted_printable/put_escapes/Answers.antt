use Rattle.std.proofs.Common.{◌+◌, ◌*◌, inl, inr, take, drop, sym, ap, ◌∙◌, arith}
use Rattle.std.proofs.lemmas.Bool.{cases_lt}
use Rattle.std.proofs.lemmas.List.{length-drop, length-set, take_more_set}
use Rattle.mail_codec.specs.QuotedPrintable.{first_escape}
use Rattle.mail_codec.proofs.lemmas.QuotedPrintableEscapes.{first_escape-short}
use Rattle.mail_codec.proofs.lemmas.QuotedPrintableSpecials.{escape_read}
use Rattle.mail_codec.proofs.transfer.quoted_printable.put_escapes.Goals as goal

pub escapes-preserved : goal.escapes-preserved
escapes-preserved c =
    let at = c.args.from + 3 * c.escapes.count in
    record {
      within = omega (arith, c.min-most.ensures);
      fits = omega (arith, length-set c.escapes.output c.escapes.count c.in-Some.byte);
      first = λ some none. elim (cases_lt 0 c.escapes.count) [
        | inl more ↦ c.escapes.invariant.first more none
        | inr zero ↦ (
            let here = ap (λ k. first_escape (drop k c.args.text.now)) {x = c.args.from + 3 * c.escapes.count} {y = c.args.from} (omega arith) in
            let read = c.in-Some.ensures.read in
            cc)
      ];
      so_far =
          sym (escape_read c.args.text.now (take c.escapes.count c.escapes.output) _ at (c.args.from + 3 * (c.escapes.count + 1)) c.in-Some.byte (omega arith)
          (sym c.in-Some.ensures.read) (take_more_set c.escapes.output c.escapes.count c.in-Some.byte (omega arith)))
          ∙ c.escapes.invariant.so_far;
    }

pub returns-clause-first : goal.returns-clause-first
returns-clause-first c = (
  (λ zero. first_escape-short (drop c.args.from c.args.text.now) (omega (arith, zero, c.min-most.ensures, length-drop c.args.from c.args.text.now))),
  (λ none. elim (cases_lt 0 c.escapes.count) [
    | inl more ↦ absurd (c.escapes.invariant.first more none)
    | inr zero ↦ omega arith
  ]),
)
