-- The result for the rest is that for the whole name.
use Rattle.std.proofs.Common.{◌≡◌}
use Rattle.std.specs.List.{list_any}
use Rattle.std.specs.Str.{chars, IsUtf8}
use Rattle.mail_check.specs.FileNames.{has_risky, is_risky}
use Rattle.mail_check.proofs.file_names.has_risky.Given as goal

abbrev pub invariant-loop-c : goal.invariant-loop-c
invariant-loop-c l = record {
  utf8 : IsUtf8 l.c-iterator.rest.now;
  same : list_any is_risky (chars l.c-iterator.rest.now) ≡ has_risky l.name;
}
