-- The offset found in the rest, after the bytes seen so far, is the offset in the bytes.
use Rattle.std.proofs.Common.{◌≡◌, ◌≤◌, ◌+◌, false, drop}
use Rattle.mail_address.specs.Tokens.{comment_place}
use Rattle.mail_address.proofs.tokens.comment_place.Given as goal

abbrev pub invariant-loop-place : goal.invariant-loop-place
invariant-loop-place l = record {
  same : l.place + comment_place l.is_quoted l.depth (drop l.place l.bytes) ≡ comment_place false 0 l.bytes;
  small : l.depth ≤ l.place;
}
