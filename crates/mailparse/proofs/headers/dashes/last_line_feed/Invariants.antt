-- A LF is at `feed`, or the bytes end there, and the headers end after the first such LF from there onwards.
use Rattle.std.proofs.Common.{◌≡◌, ◌≤◌, ◌-◌, length}
use Rattle.mail_codec.specs.Places.{begins, first_place, place_from}
use Rattle.mailparse.specs.Header.{is_line_feed}
use Rattle.mailparse.specs.Block.{ends_header_lines}
use Rattle.mailparse.proofs.headers.dashes.last_line_feed.Given as goal

abbrev pub invariant-loop-feed : goal.invariant-loop-feed
invariant-loop-feed l = record {
  fits : l.feed ≤ length l.raw;
  found : place_from (begins is_line_feed) l.raw l.feed ≡ l.feed;
  least : place_from ends_header_lines l.raw l.feed ≡ first_place ends_header_lines l.raw;
}

abbrev pub decreases-loop-feed : goal.decreases-loop-feed
decreases-loop-feed l = length l.raw - l.feed
