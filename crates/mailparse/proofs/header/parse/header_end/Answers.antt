use Rattle.std.proofs.Common.{◌≡◌, ◌+◌, true, false, drop, sym, ◌∙◌, arith}
use Rattle.mail_codec.specs.Ascii.{is_blank}
use Rattle.mail_codec.specs.Places.{begins}
use Rattle.mailparse.specs.Header.{is_line_feed, ends_header}
use Rattle.mailparse.proofs.lemmas.Places.{place_from_via}
use Rattle.mailparse.proofs.lemmas.Header.{ends_header_is_feed, header_end-continued, header_end-here}
use Rattle.mailparse.proofs.header.parse.header_end.Goals as goal

pub loop-end-preserved : goal.loop-end-preserved
loop-end-preserved c =
    let raw = c.args.raw.now in
    let end = c.loop-end.end in
    let blank : begins is_blank (drop (end + 1) raw) ≡ true = sym c.is_continued.ensures ∙ c.if-is_continued.true in
    let next = place_from_via (begins is_line_feed) ends_header ends_header_is_feed raw (end + 1) c.line_feed_from-end.result (omega arith)
    (sym c.line_feed_from-end.ensures.least) in
    record {
      fits = c.line_feed_from-end.ensures.bounds;
      found = next.1;
      least = next.2 ∙ sym (header_end-continued raw end (omega arith) blank) ∙ c.loop-end.invariant.least;
    }

pub returns-else-is_continued-clause-least : goal.returns-else-is_continued-clause-least
returns-else-is_continued-clause-least c =
    let raw = c.args.raw.now in
    let end = c.loop-end.end in
    let last : begins is_blank (drop (end + 1) raw) ≡ false = sym c.is_continued.ensures ∙ c.if-is_continued.false in
    sym (header_end-here raw end (omega arith) c.loop-end.invariant.found last) ∙ c.loop-end.invariant.least
