-- No byte up to the place is a separator.
use Rattle.std.proofs.Common.{◌≡◌, ◌+◌, drop, not}
use Rattle.std.specs.List.{prefix_len}
use Rattle.mailparse.specs.Date.{is_separator}
use Rattle.mailparse.proofs.date.words.word_length.Given as goal

abbrev pub invariant-loop-place : goal.invariant-loop-place
invariant-loop-place l =
    prefix_len (λ b. not (is_separator b)) l.bytes ≡ l.place + prefix_len (λ b. not (is_separator b)) (drop l.place l.bytes)
