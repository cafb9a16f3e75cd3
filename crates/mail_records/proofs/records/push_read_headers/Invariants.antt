-- The records of the headers so far were appended.
use Rattle.std.proofs.Common.{◌≡◌, ◌≤◌, ◌++◌, length}
use Rattle.mail_codec.specs.Places.{values_below}
use Rattle.mailparse.specs.Block.{header_place}
use Rattle.mail_records.specs.Records.{header_record}
use Rattle.mail_records.proofs.records.push_read_headers.Given as goal

abbrev pub invariant-loop-header : goal.invariant-loop-header
invariant-loop-header l = record {
  at : l.at ≡ header_place l.raw l.header-index;
  within : l.at ≤ length l.raw;
  made : l.found.items ≡ l.initial.found.items ++ values_below l.header-index (header_record l.start l.raw);
}
