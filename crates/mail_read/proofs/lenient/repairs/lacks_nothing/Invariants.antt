-- The result for the rest is that for the whole text.
use Rattle.std.proofs.Common.{◌≡◌}
use Rattle.std.specs.Str.{chars, IsUtf8}
use Rattle.mail_read.specs.lenient.Repairs.{lacks_nothing}
use Rattle.mail_read.specs.declared.lenient.repairs.Position.TheVariants.{BeforeWord}
use Rattle.mail_read.proofs.lenient.repairs.lacks_nothing.Given as goal

abbrev pub invariant-loop-c : goal.invariant-loop-c
invariant-loop-c l = record {
  utf8 : IsUtf8 l.c-iterator.rest.now;
  same : lacks_nothing l.position (chars l.c-iterator.rest.now) ≡ lacks_nothing BeforeWord (chars l.text);
}
