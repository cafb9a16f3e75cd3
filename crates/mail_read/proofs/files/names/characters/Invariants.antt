-- The characters so far, and then those of the rest, are all characters.
use Rattle.std.proofs.Common.{◌≡◌, ◌++◌}
use Rattle.std.specs.Str.{chars, IsUtf8}
use Rattle.mail_read.proofs.files.names.characters.Given as goal

abbrev pub invariant-loop-c : goal.invariant-loop-c
invariant-loop-c l = record {
  utf8 : IsUtf8 l.c-iterator.rest.now;
  made : l.characters.items ++ chars l.c-iterator.rest.now ≡ chars l.name;
}
