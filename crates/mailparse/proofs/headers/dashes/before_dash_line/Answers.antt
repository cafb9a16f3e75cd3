use Rattle.std.proofs.Common.{true, false, sym, ◌∙◌, arith}
use Rattle.std.proofs.lemmas.List.{take_rest}
use Rattle.mailparse.proofs.lemmas.HeaderPart.{before_dash_line-at, before_dash_line-none}
use Rattle.mailparse.proofs.headers.dashes.before_dash_line.Goals as goal

pub returns-then-feed-raw : goal.returns-then-feed-raw
returns-then-feed-raw c = sym (before_dash_line-none c.args.raw.now c.last_line_feed-feed.result c.last_line_feed-feed.ensures.least (omega arith))

pub returns-then-not-is_dash_line : goal.returns-then-not-is_dash_line
returns-then-not-is_dash_line c =
    let line = rw take_rest at c.is_dash_line.ensures in
    sym (before_dash_line-at c.args.raw.now c.last_line_feed-feed.result false c.last_line_feed-feed.ensures.least (sym line ∙ c.if-not-is_dash_line.true))

pub returns : goal.returns
returns c =
    let line = rw take_rest at c.is_dash_line.ensures in
    sym (before_dash_line-at c.args.raw.now c.last_line_feed-feed.result true c.last_line_feed-feed.ensures.least (sym line ∙ c.if-not-is_dash_line.false))
