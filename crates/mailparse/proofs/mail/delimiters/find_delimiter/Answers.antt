use Rattle.std.proofs.Common.{◌≡◌, ℕ, ◌-◌, ◌∷◌, List, Option, Some, None, length, take, drop, sym, ap, ◌∙◌, subst}
use Rattle.std.proofs.lemmas.List.{take_rest}
use Rattle.bstr.specs.Find.{FindsNeedle}
use Rattle.mail_codec.specs.Places.{has_prefix}
use Rattle.mailparse.proofs.lemmas.Delimiters.{found_line, found_nowhere, starts_delimiter}
use Rattle.mailparse.proofs.mail.delimiters.find_delimiter.Goals as goal

-- the delimiter is at the start, by the test of the code
tested : (raw line_delimiter : List ℕ) (start : ℕ) → has_prefix (take (length line_delimiter - 1) (drop 1 line_delimiter)) (take (length raw - start) (drop start raw)) ≡ has_prefix (drop 1 line_delimiter) (drop start raw)
tested raw line_delimiter start =
    ap (λ (dash_boundary : List ℕ). has_prefix dash_boundary (take (length raw - start) (drop start raw))) (take_rest line_delimiter 1) ∙ ap (has_prefix (drop 1 line_delimiter)) (take_rest raw start)

-- the result of the search, in the terms of the lemmas
sought : (raw line_delimiter : List ℕ) (start : ℕ) (r : Option ℕ) → line_delimiter ≡ 10 ∷ drop 1 line_delimiter → FindsNeedle (take (length raw - start) (drop start raw)) line_delimiter 0 r
    → FindsNeedle (drop start raw) (10 ∷ drop 1 line_delimiter) 0 r
sought raw line_delimiter start r feed h =
    subst (λ (l : List ℕ). FindsNeedle (drop start raw) l 0 r) feed (subst (λ (b : List ℕ). FindsNeedle b line_delimiter 0 r) (take_rest raw start) h)

pub returns-then-starts_with-clause-least : goal.returns-then-starts_with-clause-least
returns-then-starts_with-clause-least c =
    starts_delimiter (drop 1 c.args.line_delimiter.now) c.args.raw.now c.args.start c.requires.line_delimiter.some
    (sym (tested c.args.raw.now c.args.line_delimiter.now c.args.start) ∙ sym c.starts_with.ensures.value ∙ c.if-starts_with.true)

pub returns-in_err-offset-clause-least : goal.returns-in_err-offset-clause-least
returns-in_err-offset-clause-least c =
    c.from_residual.ensures
    ∙ found_nowhere (drop 1 c.args.line_delimiter.now) c.args.raw.now c.args.start c.requires.within
    (sym (tested c.args.raw.now c.args.line_delimiter.now c.args.start) ∙ sym c.starts_with.ensures.value ∙ c.if-starts_with.false)
    (sought c.args.raw.now c.args.line_delimiter.now c.args.start None c.requires.line_delimiter.feed c.in_err-offset.ensures)

pub returns-clause-least : goal.returns-clause-least
returns-clause-least c =
    (found_line (drop 1 c.args.line_delimiter.now) c.args.raw.now c.args.start c.in_ok-offset.offset c.requires.line_delimiter.some c.requires.within
    (sym (tested c.args.raw.now c.args.line_delimiter.now c.args.start) ∙ sym c.starts_with.ensures.value ∙ c.if-starts_with.false)
    (sought c.args.raw.now c.args.line_delimiter.now c.args.start (Some c.in_ok-offset.offset) c.requires.line_delimiter.feed c.in_ok-offset.ensures)).0
