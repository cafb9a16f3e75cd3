-- The result for the rest is that for the whole text.
use Rattle.std.proofs.Common.{◌≡◌}
use Rattle.std.specs.Str.{chars, IsUtf8}
use Rattle.mail_read.specs.lenient.Repairs.{ends_name}
use Rattle.mail_read.proofs.lenient.repairs.ends_name.Given as goal

abbrev pub invariant-loop-c : goal.invariant-loop-c
invariant-loop-c l = record {
  utf8 : IsUtf8 l.c-iterator.rest.now;
  same : ends_name (chars l.c-iterator.rest.now) ≡ ends_name (chars l.text);
}
