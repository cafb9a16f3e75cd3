use Rattle.std.proofs.Common.{◌≡◌, ◌+◌, ◌*◌, ◌-◌, ℕ, get_or, take, sym, ap, ◌∙◌, subst, ◌<◌, ◌^◌, arith}
use Rattle.std.specs.Str.Parse.{digits_value}
use Rattle.std.proofs.lemmas.Str.Parse.{digit_at}
use Rattle.mail_read.proofs.lemmas.lenient.Date.{value-next, value-small}
use Rattle.mail_read.proofs.lenient.date.numbers.number_of.Goals as goal

pub overflow_sub-digit : goal.overflow_sub-digit
overflow_sub-digit c = (digit_at c.args.digits.now c.loop-digit.digit-index c.requires.digits (omega arith)).0

pub loop-digit-preserved : goal.loop-digit-preserved
loop-digit-preserved c =
    let ds = c.args.digits.now in
    let i = c.loop-digit.digit-index in
    let value : 10 * c.loop-digit.number + c.from.result ≡ digits_value 10 (take (i + 1) ds) =
    ap (λ n. 10 * c.loop-digit.number + n) c.from.ensures ∙ ap (λ n. 10 * n + (get_or ds i 0 - 48)) c.loop-digit.invariant.value ∙ value-next ds i c.requires.digits (omega arith) in
    record {
      value = value;
      small = subst (λ (n : ℕ). n < 10 ^ 9) (sym value) (value-small ds (i + 1) c.requires.digits c.requires.short);
    }
