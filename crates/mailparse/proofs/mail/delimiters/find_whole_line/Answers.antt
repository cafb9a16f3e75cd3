use Rattle.std.proofs.Common.{◌≡◌, ℕ, ◌+◌, ◌-◌, List, length, take, drop, sym, ap, ◌∙◌, arith, length-drop}
use Rattle.std.proofs.lemmas.List.{take_rest}
use Rattle.mailparse.specs.Delimiters.{ends_line}
use Rattle.mailparse.proofs.lemmas.Delimiters.{whole_left, whole_found, whole_last, whole_next}
use Rattle.mailparse.proofs.mail.delimiters.find_whole_line.Goals as goal

-- what follows the dash-boundary, as the code takes it
after : (raw line_delimiter : List ℕ) (at : ℕ) → ends_line (take (length raw - (at + (length line_delimiter - 1))) (drop (at + (length line_delimiter - 1)) raw))
    ≡ ends_line (drop (at + length (drop 1 line_delimiter)) raw)
after raw line_delimiter at =
    let len = length-drop 1 line_delimiter in
    ap ends_line (take_rest raw (at + (length line_delimiter - 1)) ∙ ap (λ n. drop n raw) (omega (arith, len)))

pub returns-then-ends_line-clause-least : goal.returns-then-ends_line-clause-least
returns-then-ends_line-clause-least c =
    whole_found (drop 1 c.args.line_delimiter.now) c.args.raw.now c.args.start c.delimiters.from c.delimiters.invariant.low c.delimiters.invariant.starts c.delimiters.invariant.none
    c.in-Some.at c.in-Some.ensures.least (sym (after c.args.raw.now c.args.line_delimiter.now c.in-Some.at) ∙ sym c.ends_line.ensures ∙ c.if-ends_line.true)

pub returns-in_default-line_after-clause-least : goal.returns-in_default-line_after-clause-least
returns-in_default-line_after-clause-least c =
    whole_last (drop 1 c.args.line_delimiter.now) c.args.raw.now c.args.start c.delimiters.from c.delimiters.invariant.low c.delimiters.invariant.starts c.delimiters.invariant.none
    c.in-Some.at c.in-Some.ensures.least (sym (after c.args.raw.now c.args.line_delimiter.now c.in-Some.at) ∙ sym c.ends_line.ensures ∙ c.if-ends_line.false) c.in_default-line_after.ensures.value

pub delimiters-preserved : goal.delimiters-preserved
delimiters-preserved c =
    let on = c.in-Some.ensures.bounds.0 in
    let past = c.in-Some-line_after.ensures.bounds.0 in
    let low = c.delimiters.invariant.low in
    let next = whole_next (drop 1 c.args.line_delimiter.now) c.args.raw.now c.args.start c.delimiters.from low c.delimiters.invariant.starts c.delimiters.invariant.none
    c.in-Some.at c.in-Some.ensures.least c.in-Some-line_after.next (sym (after c.args.raw.now c.args.line_delimiter.now c.in-Some.at) ∙ sym c.ends_line.ensures ∙ c.if-ends_line.false) c.in-Some-line_after.ensures.value in
    record { low = omega arith; within = c.in-Some-line_after.ensures.bounds.1; starts = next.0; none = next.1 }

pub returns-clause-least : goal.returns-clause-least
returns-clause-least c =
    whole_left (drop 1 c.args.line_delimiter.now) c.args.raw.now c.args.start c.delimiters.from c.delimiters.invariant.low c.delimiters.invariant.starts c.delimiters.invariant.none
    c.in_default.ensures.least
