use Rattle.std.proofs.Common.{◌≡◌, ◌<◌, ◌++◌, ℕ, List, vec_len}
use Rattle.std.specs.Io.KnownBytes.{Consumes}
use Rattle.mail_program.proofs.streams.read_more.Given as goal

-- the bytes that were taken off the reader follow those that were there
abbrev pub invariant-loop-turn : goal.invariant-loop-turn
invariant-loop-turn g l = record {
  capacity : 0 < vec_len l.buffer;
  taken : (more : List ℕ) × Consumes (g.R.Read.remaining l.initial.reader) (g.R.Read.remaining l.reader) more × (l.input.items ≡ l.initial.input.items ++ more);
}
