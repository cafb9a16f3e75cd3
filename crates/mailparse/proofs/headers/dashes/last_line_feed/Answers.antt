use Rattle.std.proofs.Common.{◌≡◌, ◌+◌, true, false, ◌||◌, drop, sym, ◌∙◌, arith, zero-add}
use Rattle.mail_codec.specs.Places.{begins, first_place}
use Rattle.mailparse.specs.Header.{is_line_feed}
use Rattle.mailparse.specs.Block.{ends_header_lines, headers_end, is_dash_line}
use Rattle.mailparse.proofs.lemmas.Places.{place_from_via}
use Rattle.mailparse.proofs.lemmas.HeaderPart.{ends_header_lines_is_feed, lines_continued, lines_here}
use Rattle.mailparse.proofs.headers.dashes.last_line_feed.Goals as goal

pub loop-feed-init : goal.loop-feed-init
loop-feed-init c =
    let raw = c.args.raw.now in
    let first = place_from_via (begins is_line_feed) ends_header_lines ends_header_lines_is_feed raw 0 c.line_feed_from-feed.result (omega arith)
    (sym c.line_feed_from-feed.ensures.least) in
    record { fits = c.line_feed_from-feed.ensures.bounds; found = first.1; least = first.2 ∙ zero-add (first_place ends_header_lines raw) }

pub loop-feed-preserved : goal.loop-feed-preserved
loop-feed-preserved c =
    let raw = c.args.raw.now in
    let feed = c.loop-feed.feed in
    let more : (headers_end (drop (feed + 1) raw) || is_dash_line (drop (feed + 1) raw)) ≡ false = sym c.ends_lines.ensures ∙ c.if-not-ends_lines.true in
    let next = place_from_via (begins is_line_feed) ends_header_lines ends_header_lines_is_feed raw (feed + 1) c.line_feed_from-feed-in-loop-feed.result (omega arith)
    (sym c.line_feed_from-feed-in-loop-feed.ensures.least) in
    record {
      fits = c.line_feed_from-feed-in-loop-feed.ensures.bounds;
      found = next.1;
      least = next.2 ∙ sym (lines_continued raw feed (omega arith) more) ∙ c.loop-feed.invariant.least;
    }

pub returns-else-not-ends_lines-clause-least : goal.returns-else-not-ends_lines-clause-least
returns-else-not-ends_lines-clause-least c =
    let raw = c.args.raw.now in
    let feed = c.loop-feed.feed in
    let last : (headers_end (drop (feed + 1) raw) || is_dash_line (drop (feed + 1) raw)) ≡ true = sym c.ends_lines.ensures ∙ c.if-not-ends_lines.false in
    sym (lines_here raw feed (omega arith) c.loop-feed.invariant.found last) ∙ c.loop-feed.invariant.least
