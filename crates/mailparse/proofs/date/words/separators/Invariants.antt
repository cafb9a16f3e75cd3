-- All bytes up to the place are separators.
use Rattle.std.proofs.Common.{◌≡◌, ◌+◌, drop}
use Rattle.std.specs.List.{prefix_len}
use Rattle.mailparse.specs.Date.{is_separator}
use Rattle.mailparse.proofs.date.words.separators.Given as goal

abbrev pub invariant-loop-place : goal.invariant-loop-place
invariant-loop-place l = prefix_len is_separator l.bytes ≡ l.place + prefix_len is_separator (drop l.place l.bytes)
