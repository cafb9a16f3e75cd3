use Rattle.std.proofs.Common.{None, drop, ap, ◌∙◌, lit<}
use Rattle.std.proofs.lemmas.Str.Pattern.{strip_prefix_char}
use Rattle.mail_data.proofs.lemmas.Flowed.{depth-none, marks-depth}
use Rattle.mail_data.proofs.flowed.cut_marks.Goals as goal

pub returns-clause-depth : goal.returns-clause-depth
returns-clause-depth c =
    marks-depth c.args.text.now c.marks.rest.now c.marks.depth c.marks.invariant.count
    (depth-none c.marks.rest.now (strip_prefix_char 62 c.marks.rest.now None c.in_default.ensures.cases (lit< tt)))

pub returns-clause-rest : goal.returns-clause-rest
returns-clause-rest c =
    c.marks.invariant.left
    ∙ ap (λ n. drop n c.args.text.now) (marks-depth c.args.text.now c.marks.rest.now c.marks.depth c.marks.invariant.count
    (depth-none c.marks.rest.now (strip_prefix_char 62 c.marks.rest.now None c.in_default.ensures.cases (lit< tt))))
