-- A LF is at `end`, or the bytes end there, and the header ends at the first LF from there onwards that no blank follows.
use Rattle.std.proofs.Common.{◌≡◌, ◌≤◌, ◌-◌, length}
use Rattle.mail_codec.specs.Places.{begins, place_from}
use Rattle.mailparse.specs.Header.{is_line_feed, ends_header}
use Rattle.mailparse.proofs.header.parse.header_end.Given as goal

abbrev pub invariant-loop-end : goal.invariant-loop-end
invariant-loop-end l = record {
  fits : l.end ≤ length l.raw;
  found : place_from (begins is_line_feed) l.raw l.end ≡ l.end;
  least : place_from ends_header l.raw l.end ≡ place_from ends_header l.raw l.first;
}

abbrev pub decreases-loop-end : goal.decreases-loop-end
decreases-loop-end l = length l.raw - l.end
