use Rattle.std.proofs.Common.{◌≡◌, ◌≤◌, ◌-◌, length, drop}
use Rattle.mailparse.specs.Block.{read_headers}
use Rattle.mailparse.specs.Limit.{headers_met}
use Rattle.mailparse.proofs.lemmas.Limit.{met_with}
use Rattle.mailparse.proofs.headers.block.count_headers.Given as goal

-- the headers so far and those of the rest are all headers, if the block is not refused
abbrev pub invariant-loop-length : goal.invariant-loop-length
invariant-loop-length l = record {
  within : l.place ≤ length l.raw;
  fewer : l.count ≤ l.place;
  all : met_with l.count (read_headers (drop l.place l.raw)) ≡ headers_met (read_headers l.raw);
}

abbrev pub decreases-loop-length : goal.decreases-loop-length
decreases-loop-length l = length l.raw - l.place
