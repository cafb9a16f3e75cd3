-- The findings so far, and then those of the messages that are left, are the old ones and then those of all messages.
use Rattle.std.proofs.Common.{◌≡◌, ◌++◌, drop, map}
use Rattle.mail_read.specs.PlaceViews.{place_view}
use Rattle.mail_check.specs.FindingViews.{finding_view}
use Rattle.mail_check.specs.Findings.{findings_from}
use Rattle.mail_check.proofs.listing.push_messages.Given as goal

abbrev pub invariant-loop-place : goal.invariant-loop-place
invariant-loop-place g l =
    let known = g.K.KnownCharsets.known l.known in
    record {
      count : l.number ≡ l.place-index;
      all : map finding_view l.found.items ++ findings_from known l.number (map place_view (drop l.place-index l.messages)) ≡ map finding_view l.fn.found.items ++ findings_from known 0 (map place_view l.messages);
    }
