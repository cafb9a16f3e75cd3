use Rattle.std.proofs.Common.{None, arith, lit<}
use Rattle.std.proofs.lemmas.Str.Pattern.{split_once_first}
use Rattle.mail_data.specs.FlowedViews.{line_view}
use Rattle.mail_data.proofs.lemmas.Flowed.{cut-none, cut-some}
use Rattle.mail_data.proofs.flowed.cut_line.Goals as goal

pub returns-in-Some-clause-cut : goal.returns-in-Some-clause-cut
returns-in-Some-clause-cut c =
    let cut = c.in-Some.ensures.byte (omega arith) (λ w o x. x) in
    cut-some c.args.text.now c.in-Some.line.now c.in-Some.rest.now (line_view c.line_before_feed.result) cut.2 cut.0 cut.1 c.line_before_feed.ensures

pub returns-in-None-clause-cut : goal.returns-in-None-clause-cut
returns-in-None-clause-cut c =
    cut-none c.args.text.now (line_view c.line_with.result) c.requires (split_once_first 10 c.args.text.now None c.in-None.ensures.cases (lit< tt))
    c.line_with.ensures
