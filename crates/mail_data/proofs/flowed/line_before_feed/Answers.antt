use Rattle.std.proofs.Common.{Some, None, ◌∙◌, lit<}
use Rattle.std.proofs.lemmas.Str.Pattern.{strip_suffix_char}
use Rattle.mail_data.proofs.lemmas.Flowed.{line-feed, line-return}
use Rattle.mail_data.proofs.flowed.line_before_feed.Goals as goal

pub returns-in-Some : goal.returns-in-Some
returns-in-Some c =
    c.line_with.ensures
    ∙ line-return c.args.text.now c.in-Some.front.now (strip_suffix_char 13 c.args.text.now (Some c.in-Some.front) c.in-Some.ensures.cases (lit< tt))

pub returns-in-None : goal.returns-in-None
returns-in-None c =
    c.line_with-in-None.ensures ∙ line-feed c.args.text.now (strip_suffix_char 13 c.args.text.now None c.in-None.ensures.cases (lit< tt))
