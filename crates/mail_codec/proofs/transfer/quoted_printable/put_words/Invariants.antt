use Rattle.std.proofs.Common.{◌≡◌, ◌*◌, take}
use Rattle.mail_codec.specs.Places.{begins, first_place}
use Rattle.mail_codec.specs.private.QuotedPrintable.{is_special}
use Rattle.mail_codec.proofs.lemmas.Places.{PassedTo}
use Rattle.mail_codec.proofs.transfer.quoted_printable.put_words.Given as goal

-- the bytes so far are written
abbrev pub invariant-loop-word : goal.invariant-loop-word
invariant-loop-word l = record {
  passed : PassedTo (begins is_special) l.bytes (first_place (begins is_special) l.bytes) l.at;
  place : l.at ≡ 8 * l.word-index;
  written : take l.at l.output ≡ take l.at l.bytes;
}
