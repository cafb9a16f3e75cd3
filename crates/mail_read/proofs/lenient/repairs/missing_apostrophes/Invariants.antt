-- The result for the rest is that for the whole text.
use Rattle.std.proofs.Common.{◌≡◌}
use Rattle.std.specs.Str.{chars, IsUtf8}
use Rattle.mail_read.specs.lenient.Repairs.{missing_apostrophes}
use Rattle.mail_read.proofs.lenient.repairs.missing_apostrophes.Given as goal

abbrev pub invariant-loop-c : goal.invariant-loop-c
invariant-loop-c l = record {
  utf8 : IsUtf8 l.c-iterator.rest.now;
  same : missing_apostrophes l.left (chars l.c-iterator.rest.now) ≡ missing_apostrophes 2 (chars l.text);
}
