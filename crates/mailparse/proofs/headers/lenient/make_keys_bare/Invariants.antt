-- The headers so far are as they shall be, and the others as they were.
use Rattle.std.proofs.Common.{◌≡◌, ◌++◌, drop, map, take}
use Rattle.mailparse.specs.Block.{bare_header}
use Rattle.mailparse.proofs.headers.lenient.make_keys_bare.Given as goal

abbrev pub invariant-loop-header : goal.invariant-loop-header
invariant-loop-header l = take l.header-index l.headers ++ map bare_header (drop l.header-index l.headers) ≡ map bare_header l.fn.headers
