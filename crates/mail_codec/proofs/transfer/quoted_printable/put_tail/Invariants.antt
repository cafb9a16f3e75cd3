use Rattle.std.proofs.Common.{◌≡◌, take}
use Rattle.mail_codec.specs.Places.{begins, first_place}
use Rattle.mail_codec.specs.private.QuotedPrintable.{is_special}
use Rattle.mail_codec.proofs.lemmas.Places.{PassedTo}
use Rattle.mail_codec.proofs.transfer.quoted_printable.put_tail.Given as goal

-- the bytes so far are written
abbrev pub invariant-loop-place : goal.invariant-loop-place
invariant-loop-place l = record {
  passed : PassedTo (begins is_special) l.tail (first_place (begins is_special) l.tail) l.place;
  written : take l.place l.output ≡ take l.place l.tail;
}
