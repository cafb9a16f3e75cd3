use Rattle.std.proofs.Common.{rules}
use Rattle.mailparse.proofs.lemmas.Header.{value-found}
use Rattle.mailparse.proofs.header.parse.header_places.Goals as goal

pub returns-clause-start : goal.returns-clause-start
returns-clause-start c =
    (value-found c.args.raw.now _ _ _ _ _ _ c.key_end-place.ensures.least c.is_colon_at.ensures (search rules) c.line_feed_from.ensures.least
    c.header_end-end.ensures.least c.trim_spaces-spaceless.ensures c.trim_line_ends.ensures).0

pub returns-clause-end : goal.returns-clause-end
returns-clause-end c =
    (value-found c.args.raw.now _ _ _ _ _ _ c.key_end-place.ensures.least c.is_colon_at.ensures (search rules) c.line_feed_from.ensures.least
    c.header_end-end.ensures.least c.trim_spaces-spaceless.ensures c.trim_line_ends.ensures).1
