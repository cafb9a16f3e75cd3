use Rattle.std.proofs.Common.{◌≡◌, ◌≤◌, ◌+◌, ◌-◌, length, drop}
use Rattle.mailparse.specs.Block.{read_headers, header_count}
use Rattle.mailparse.proofs.lemmas.Block.{with_front}
use Rattle.mailparse.proofs.headers.block.parse_headers.Given as goal

-- the headers so far and those of the rest are all headers
abbrev pub invariant-loop-headers : goal.invariant-loop-headers
invariant-loop-headers l = record {
  within : l.place ≤ length l.raw;
  all : with_front l.headers.items l.place (read_headers (drop l.place l.raw)) ≡ read_headers l.raw;
  count : length l.headers.items + header_count (drop l.place l.raw) ≡ header_count l.raw;
}

abbrev pub decreases-loop-headers : goal.decreases-loop-headers
decreases-loop-headers l = length l.raw - l.place
