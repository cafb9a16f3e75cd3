-- The bytes after the whitespace and comments of the rest are those after the ones of the text.
use Rattle.std.proofs.Common.{◌≡◌, ◌≤◌, false, drop}
use Rattle.mail_read.specs.lenient.Date.{after_whitespace}
use Rattle.mail_read.proofs.lenient.date.whitespace.after_comments.Given as goal

abbrev pub invariant-loop-place : goal.invariant-loop-place
invariant-loop-place l = record {
  same : after_whitespace l.is_quoted l.depth (drop l.place l.text) ≡ after_whitespace false 0 l.text;
  small : l.depth ≤ l.place;
}
