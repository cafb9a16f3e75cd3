-- The records of the headers so far were appended.
use Rattle.std.proofs.Common.{◌≡◌, ◌≤◌, ◌++◌, length}
use Rattle.mail_codec.specs.Places.{values_below}
use Rattle.mailparse.specs.Block.{header_place}
use Rattle.mail_records.specs.Records.{header_record}
use Rattle.mail_records.proofs.records.push_headers.Given as goal

abbrev pub invariant-loop-number : goal.invariant-loop-number
invariant-loop-number l = record {
  at : l.at ≡ header_place l.raw l.number;
  within : l.at ≤ length l.raw;
  made : l.headers.items ≡ l.initial.headers.items ++ values_below l.number (header_record l.start l.raw);
}
