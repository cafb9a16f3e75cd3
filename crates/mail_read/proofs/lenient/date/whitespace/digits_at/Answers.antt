use Rattle.std.proofs.Common.{List, ℕ, sym, ap, ◌∙◌, subst, take}
use Rattle.std.specs.Str.Parse.{AllDigits}
use Rattle.mail_read.proofs.lemmas.lenient.Date.{run-digits}
use Rattle.mail_read.proofs.lenient.date.whitespace.digits_at.Goals as goal

pub returns-clause-digits : goal.returns-clause-digits
returns-clause-digits c =
    let rest = c.after_comments-rest.result.now in
    subst (λ (ds : List ℕ). AllDigits 10 ds) (sym (c.split_at.ensures.front ∙ ap (λ (n : ℕ). take n rest) c.digits_len.ensures.value)) (run-digits rest)
