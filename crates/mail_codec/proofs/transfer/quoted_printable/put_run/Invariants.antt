use Rattle.std.proofs.Common.{◌≡◌, ◌-◌, length, take}
use Rattle.mail_codec.specs.Places.{begins, first_place}
use Rattle.mail_codec.specs.private.QuotedPrintable.{is_special}
use Rattle.mail_codec.proofs.lemmas.Places.{PassedTo}
use Rattle.mail_codec.proofs.transfer.quoted_printable.put_run.Given as goal

-- the bytes so far are written
abbrev pub invariant-vectors : goal.invariant-vectors
invariant-vectors l = record {
  passed : PassedTo (begins is_special) l.bytes (first_place (begins is_special) l.bytes) l.at;
  written : take l.at l.output ≡ take l.at l.bytes;
}

abbrev pub decreases-vectors : goal.decreases-vectors
decreases-vectors l = length l.bytes - l.at
